use Rattle.std.proofs.Common.{◌≡◌, ◌++◌, drop}
use Rattle.sight_names.specs.Map.{map_of}
use Rattle.map_picture.specs.Bytes.{mark_texts}
use Rattle.map_picture.proofs.marks.push_each_mark.Given as goal

abbrev pub invariant-loop-i : goal.invariant-loop-i
invariant-loop-i l = l.out.items ++ mark_texts l.frame (map_of l.plan) (drop l.i-index l.marks) ≡ l.fn.out.items ++ mark_texts l.frame (map_of l.plan) l.marks
