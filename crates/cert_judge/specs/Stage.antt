-- How far a certificate is judged: its triangles come, or they have come.
use Rattle.std.specs.Prelude.{◌≡◌, ℕ, ◌<◌, ◌≤◌, List, [], Option, Some, None, length, true, false, All}
use Rattle.sight_names.specs.Limits.{most_triangles}
use Rattle.sight_names.specs.declared.names.PairRay.{PairRay}
use Rattle.sight_names.specs.Mesh.{AreTriangles}
use Rattle.sight_names.specs.Plan.{PlanParts}
use Rattle.block_evidence.specs.declared.sight_tree.Tree.{Tree}
use Rattle.cert_format.specs.declared.cert.Labelled.{Labelled}
use Rattle.cert_checker.specs.Apart.{triangles_in}
use Rattle.cert_judge.specs.declared.stage.Stage.{Stage}
use Rattle.cert_judge.specs.declared.stage.Stage.TheVariants.{Gathering, Lost, Broken, Good}
use Rattle.cert_judge.specs.Heard.{PartsHeard}
use Rattle.cert_judge.specs.OnGround.{IsOnGround, IsFaultOfMesh}
use Rattle.cert_judge.specs.Version.{Groups}

-- triangles between so many points, in order and few enough
pub record AreTrianglesInOrder (points : ℕ) (labelled : List Labelled) : Type 0 where
  pub triangles : AreTriangles points (triangles_in labelled)
  pub few : length labelled ≤ most_triangles points

-- each triangle is labelled with one of so many groups
abbrev pub AreLabelledBelow : ℕ → List Labelled → Type 0
AreLabelledBelow count labelled = All (λ (one : Labelled). one.sector < count) labelled

-- a certificate may have these triangles and groups
abbrev pub AreFit : ℕ → Groups → List Labelled → Type 0
AreFit points None labelled = AreTrianglesInOrder points labelled
AreFit points (Some groups) labelled = AreTrianglesInOrder points labelled × (length groups ≤ most_triangles points) × AreLabelledBelow (length groups) labelled

-- the triangles have come: no certificate has them, or they break a rule of a good mesh or of its groups, or they keep all
abbrev pub IsStageClosed : PlanParts → Groups → List Labelled → List PairRay → List Tree → Option Tree → Stage → Type 0
IsStageClosed p groups labelled rays front tree Gathering = ⊥
IsStageClosed p groups labelled rays front tree Lost = ¬ AreFit (length p.points) groups labelled
IsStageClosed p groups labelled rays front tree (Broken f) = IsFaultOfMesh p groups labelled f
IsStageClosed p groups labelled rays front tree (Good g) = IsOnGround p groups labelled rays front tree g

-- no part but triangles has come
pub record IsStageFresh (h : PartsHeard) : Type 0 where
  pub closed : h.closed ≡ false
  pub rays : h.rays ≡ []
  pub front : h.front ≡ []
  pub tree : h.tree ≡ None

abbrev pub IsStage : PlanParts → Groups → PartsHeard → Stage → Type 0
IsStage p groups h Gathering = IsStageFresh h
IsStage p groups h Lost = (h.closed ≡ true) × IsStageClosed p groups h.triangles h.rays h.front h.tree Lost
IsStage p groups h (Broken f) = (h.closed ≡ true) × IsStageClosed p groups h.triangles h.rays h.front h.tree (Broken f)
IsStage p groups h (Good g) = (h.closed ≡ true) × IsStageClosed p groups h.triangles h.rays h.front h.tree (Good g)
