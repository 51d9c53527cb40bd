-- What rays and trees tell over a good mesh, once all have come.
use Rattle.std.proofs.Common.{length, refl}
use Rattle.sight_names.specs.Map.{Map}
use Rattle.sight_names.specs.Plan.{PlanParts}
use Rattle.cert_format.specs.Parts.{CertParts}
use Rattle.cert_checker.specs.declared.tree_judge.judge.Reach.{Reach}
use Rattle.cert_checker.specs.declared.tree_judge.judge.TreeVerdict.TheVariants.{Whole}
use Rattle.cert_checker.specs.TreeJudge.Heard.{IsJudgeable}
use Rattle.cert_checker.specs.TreeJudge.Trees.{TellsTrees}
use Rattle.cert_checker.specs.Apart.{triangles_in}
use Rattle.cert_checker.specs.Rays.{AreSightRaysBelow}
use Rattle.cert_judge.specs.declared.on_mesh.OnMesh.{OnMesh}
use Rattle.cert_judge.specs.Whole.{HasReached, IsHeardOver}

module _ (m : Map) (c : CertParts) where
  -- none is wrong
  pub all_reached : (reach : Reach) → AreSightRaysBelow m c.rays (length c.rays) → TellsTrees m c (Whole reach) → HasReached m c reach
  all_reached reach rays w = record { rays = rays; trees = w.0; sectors = w.1; tells = w.2 }

-- the trees may be judged
pub judgeable : (p : PlanParts) (c : CertParts) (g : OnMesh) → IsHeardOver p c g → IsJudgeable p c (triangles_in c.triangles) g.edges
judgeable p c g w = record { plan = w.on.plan; in_order = w.in_order; sectors = w.sectors; counted = w.counted; triangles = refl; good = w.on.good; edges = w.on.edges }
