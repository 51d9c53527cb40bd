use Rattle.std.proofs.Common.{◌≡◌, ◌++◌, drop}
use Rattle.sight_names.specs.Map.{map_of}
use Rattle.map_picture.specs.Bytes.{triangles_text}
use Rattle.map_picture.specs.Picture.{triangles_with_numbers}
use Rattle.map_picture.proofs.pair.push_numbered.Given as goal

abbrev pub invariant-loop-k : goal.invariant-loop-k
invariant-loop-k l = l.out.items ++ triangles_text l.frame (map_of l.plan) (triangles_with_numbers l.triangles (drop l.k-index l.entered))
    ≡ l.fn.out.items ++ triangles_text l.frame (map_of l.plan) (triangles_with_numbers l.triangles l.entered)
