use Rattle.std.proofs.Common.{◌≡◌, max, length}
use Rattle.udmf_map.specs.Grid.{places_of_lines}
use Rattle.udmf_map.proofs.grid.places_of.Given as goal

abbrev pub invariant-loop-rest : goal.invariant-loop-rest
invariant-loop-rest l = record { same : max (places_of_lines l.vertices l.rest) l.most ≡ places_of_lines l.vertices l.lines }

abbrev pub decreases-loop-rest : goal.decreases-loop-rest
decreases-loop-rest l = length l.rest
