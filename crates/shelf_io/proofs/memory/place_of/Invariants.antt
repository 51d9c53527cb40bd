use Rattle.std.proofs.Common.{◌≡◌, ◌+◌, drop}
use Rattle.std.specs.Option.{option_map}
use Rattle.shelf_io.specs.Fakes.{place_in_files}
use Rattle.shelf_io.proofs.memory.place_of.Given as goal

-- the name is none of those so far
abbrev pub invariant-loop-i : goal.invariant-loop-i
invariant-loop-i l = place_in_files l.files l.name ≡ option_map (λ k. k + l.i) (place_in_files (drop l.i l.files) l.name)
