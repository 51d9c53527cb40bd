use Rattle.std.proofs.Common.{List, Option, sym, subst}
use Rattle.std.proofs.lemmas.Result.{IfOk-weaker}
use Rattle.sight_names.specs.declared.names.Side.{Side}
use Rattle.sight_names.specs.Map.{map_of}
use Rattle.map_faults.specs.EdgeSides.{AreEdgeSides}
use Rattle.map_faults.proofs.Outside.{hull_gaps}
use Rattle.map_faults.proofs.gaps.gaps_of.Goals as goal

pub returns : goal.returns
returns c = λ plain filled. IfOk-weaker c.gaps_by.result _ _ (λ v h. hull_gaps (map_of c.args.plan.now) c.args.mesh.now.triangles c.as_slice.result.now v.items
    (subst (λ (ss : List (Option Side)). AreEdgeSides (map_of c.args.plan.now) c.args.mesh.now.triangles ss) (sym c.as_slice.ensures.value) c.in_ok-sides.ensures) plain filled h) c.gaps_by.ensures
