use Rattle.std.proofs.Common.{◌≡◌, ◌++◌, drop, string_bytes}
use Rattle.std.specs.List.{flat_map}
use Rattle.map_answers.specs.Noise.{side_word}
use Rattle.map_answers.proofs.noise.push_sides.Given as goal

abbrev pub invariant-loop-side : goal.invariant-loop-side
invariant-loop-side l = string_bytes l.line ++ flat_map side_word (drop l.side-index l.sides) ≡ string_bytes l.fn.line ++ flat_map side_word l.sides
