-- How a stage stands to what was heard.
use Rattle.std.specs.Prelude.{option_map}
use Rattle.std.proofs.Common.{◌≡◌, List, true, refl, sym, subst}
use Rattle.sight_names.specs.Plan.{PlanParts}
use Rattle.group_checker.specs.declared.verdict.AnyFault.{AnyFault}
use Rattle.cert_judge.specs.declared.on_ground.OnGround.{OnGround}
use Rattle.cert_judge.specs.declared.stage.Stage.{Stage}
use Rattle.cert_judge.specs.declared.stage.Stage.TheVariants.{Lost, Broken, Good}
use Rattle.block_evidence.specs.declared.sight_tree.Node.{Node}
use Rattle.cert_checker.specs.TreeJudge.Walked.{with_nodes}
use Rattle.cert_judge.specs.Heard.{PartsHeard, node_parts, heard_from}
use Rattle.cert_judge.specs.OnGround.{IsOnGround}
use Rattle.cert_judge.proofs.AllHeard.{last_nodes_heard}
use Rattle.cert_judge.specs.Stage.{IsStage}
use Rattle.cert_judge.specs.Version.{Groups}

-- ---- nodes of the last tree come

module _ (p : PlanParts) (gs : Groups) (h : PartsHeard) (ns : List Node) where
  pub good_with_nodes : (g : OnGround) → h.closed ≡ true → IsOnGround p gs h.triangles h.rays h.front (option_map (with_nodes ns) h.tree) g → IsStage p gs (heard_from h (node_parts ns)) (Good g)
  good_with_nodes g e w = subst (λ (k : PartsHeard). IsStage p gs k (Good g)) (sym (last_nodes_heard h ns e)) (refl, w)

  pub lost_with_nodes : IsStage p gs h Lost → IsStage p gs (heard_from h (node_parts ns)) Lost
  lost_with_nodes k = subst (λ (g : PartsHeard). IsStage p gs g Lost) (sym (last_nodes_heard h ns k.0)) (refl, k.1)

  pub broken_with_nodes : (f : AnyFault) → IsStage p gs h (Broken f) → IsStage p gs (heard_from h (node_parts ns)) (Broken f)
  broken_with_nodes f k = subst (λ (g : PartsHeard). IsStage p gs g (Broken f)) (sym (last_nodes_heard h ns k.0)) (refl, k.1)
