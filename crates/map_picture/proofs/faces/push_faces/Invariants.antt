use Rattle.std.proofs.Common.{◌≡◌, ◌++◌, drop}
use Rattle.sight_names.specs.Map.{map_of}
use Rattle.map_picture.specs.Bytes.{spelled_picture}
use Rattle.map_picture.specs.Picture.{faces_from}
use Rattle.map_picture.proofs.faces.push_faces.Given as goal

abbrev pub invariant-loop-g : goal.invariant-loop-g
invariant-loop-g l =
    l.out.items ++ spelled_picture l.frame (map_of l.plan) (faces_from l.mesh.triangles l.labels l.g (drop l.g l.faces.tints.items) (drop l.g l.groups))
    ≡ l.fn.out.items ++ spelled_picture l.frame (map_of l.plan) (faces_from l.mesh.triangles l.labels 0 l.faces.tints.items l.groups)
