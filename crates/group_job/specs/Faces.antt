-- The faces of a sound map.
use Rattle.std.specs.Prelude.{◌≡◌, ℕ, ◌<◌, Some, length}
use Rattle.sight_names.specs.Map.{map_of}
use Rattle.sight_names.specs.Mesh.{AreLabelsOf, IsGoodMesh, IsMeshOf, label_of}
use Rattle.sight_names.specs.Plan.{PlanParts}
use Rattle.sight_names.specs.Sound.{IsSound}
use Rattle.sight_workers.specs.declared.job.Job.{Job}
use Rattle.group_job.specs.declared.faces.Faces.{Faces}

-- the map is sound, the triangles are its mesh, the labels are the sectors in which their insides lie, and so the mesh is
-- a good one
pub record AreFacesOf (p : PlanParts) (f : Faces) : Type 0 where
  pub sound : IsSound (map_of p)
  pub points : f.mesh.points ≡ length p.points
  pub mesh : IsMeshOf (map_of p) f.mesh.triangles
  pub labels : AreLabelsOf (map_of p) f.mesh.triangles f.labels
  pub good : IsGoodMesh (map_of p) f.mesh.triangles f.labels
  pub sectors : (k a : ℕ) → label_of f.labels k ≡ Some a → a < p.sectors

-- the mesh of a job with its labels
abbrev pub faces_of_job : Job → Faces
faces_of_job j = record { mesh = j.mesh.now; labels = j.labels.now }
