use Rattle.std.proofs.Common.{◌≡◌, ◌++◌, ◌<◌, ◌-◌, drop, length, slice_get, Some}
use Rattle.sight_names.specs.Map.{map_of}
use Rattle.map_picture.specs.Bytes.{triangles_text}
use Rattle.map_picture.specs.Picture.{labelled_with}
use Rattle.map_picture.proofs.faces.push_triangles.Given as goal

abbrev pub invariant-loop-at : goal.invariant-loop-at
invariant-loop-at l = record {
  here : l.at < length l.labels → slice_get l.labels l.at ≡ Some (Some l.g);
  written : l.out.items ++ triangles_text l.frame (map_of l.plan) (labelled_with l.g (drop l.at l.triangles) (drop l.at l.labels))
      ≡ l.fn.out.items ++ triangles_text l.frame (map_of l.plan) (labelled_with l.g l.triangles l.labels);
}

abbrev pub decreases-loop-at : goal.decreases-loop-at
decreases-loop-at l = length l.triangles - l.at
