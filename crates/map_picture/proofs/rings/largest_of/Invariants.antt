use Rattle.std.proofs.Common.{◌≡◌, None, drop, length}
use Rattle.std.specs.Prelude.{IfSome}
use Rattle.sight_names.specs.Map.{map_of}
use Rattle.sight_names.specs.Mesh.{IsTriangle}
use Rattle.map_picture.specs.Picture.{largest_of}
use Rattle.map_picture.proofs.rings.largest_of.Given as goal

abbrev pub invariant-loop-k : goal.invariant-loop-k
invariant-loop-k l = record {
  left : largest_of (map_of l.plan) l.groups l.sector l.best (drop l.k l.triangles) (drop l.k l.labels) ≡ largest_of (map_of l.plan) l.groups l.sector None l.triangles l.labels;
  triangle : IfSome l.best (IsTriangle (length l.plan.points));
}
