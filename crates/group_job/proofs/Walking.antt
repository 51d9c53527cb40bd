-- The map of groups with its mesh and labels is one that can be built.
use Rattle.std.proofs.Common.{◌≡◌, ℕ, ◌<◌, sym, ap, ◌∙◌, subst, List, length, Some, arith}
use Rattle.std.proofs.lemmas.Option.{slice_get_within}
use Rattle.sight_names.specs.declared.names.Pt.{Pt}
use Rattle.sight_names.specs.Plan.{PlanParts}
use Rattle.sight_names.specs.Map.{map_of}
use Rattle.sight_names.specs.Mesh.{IsMeshOf}
use Rattle.sight_names.specs.Sound.{LinesMeetAtEnds}
use Rattle.face_groups.specs.GroupsBase.Found.{AreFoundGroups}
use Rattle.group_job.specs.declared.faces.Faces.{Faces}
use Rattle.group_job.specs.Faces.{AreFacesOf}
use Rattle.group_job.proofs.GoodLabelled.{label_there}

pub faces_of_groups : (p gp : PlanParts) (groups : List (List ℕ)) (f : Faces) → LinesMeetAtEnds (map_of p) → f.mesh.points ≡ length p.points → IsMeshOf (map_of p) f.mesh.triangles → gp.points ≡ p.points → gp.sectors ≡ length groups
    → AreFoundGroups (map_of p) f.mesh.triangles groups (map_of gp) f.labels → AreFacesOf gp f
faces_of_groups p gp groups f ends size mesh points count v = record {
  sound = v.sound ends;
  points = size ∙ ap (λ (ps : List Pt). length ps) (sym points);
  mesh = v.mesh mesh;
  labels = v.labels;
  good = v.good;
  sectors = λ k a label. subst (λ (n : ℕ). a < n) (sym count) (v.range k a (let lt = slice_get_within f.labels k (Some a) (label_there f.labels k a label) in let e = v.labels.one_each in omega (arith, lt, e)) label);
}
