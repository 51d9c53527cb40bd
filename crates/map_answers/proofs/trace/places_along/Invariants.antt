use Rattle.std.proofs.Common.{◌≡◌, ◌++◌, drop}
use Rattle.map_answers.specs.Trace.{places_of_groups}
use Rattle.map_answers.proofs.trace.places_along.Given as goal

abbrev pub invariant-loop-triangle : goal.invariant-loop-triangle
invariant-loop-triangle l = l.places.items ++ places_of_groups l.labels (drop l.triangle-index l.passed) ≡ places_of_groups l.labels l.passed
