use Rattle.std.proofs.Common.{◌≡◌, ◌++◌, drop, map, option_map}
use Rattle.sight_names.specs.Map.{looked_up, map_of}
use Rattle.map_picture.specs.Bytes.{spelled_picture}
use Rattle.map_picture.specs.Picture.{lines_from}
use Rattle.map_picture.proofs.lines.push_lines_of.Given as goal

abbrev pub invariant-loop-i : goal.invariant-loop-i
invariant-loop-i l =
    l.out.items ++ spelled_picture l.frame (map_of l.plan) (lines_from l.solid l.i (map (option_map (looked_up l.plan.points)) (drop l.i l.lines)))
    ≡ l.fn.out.items ++ spelled_picture l.frame (map_of l.plan) (lines_from l.solid 0 (map (option_map (looked_up l.plan.points)) l.lines))
