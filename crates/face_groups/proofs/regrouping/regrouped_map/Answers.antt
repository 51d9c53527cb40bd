use Rattle.std.proofs.Common.{◌≡◌, List, Option, map, option_map, sym, subst, rules}
use Rattle.sight_names.specs.declared.names.Pt.{Pt}
use Rattle.sight_names.specs.declared.plan.Line.{Line}
use Rattle.sight_names.specs.Plan.{IsPlan}
use Rattle.face_groups.specs.Regrouped.{regrouped}
use Rattle.face_groups.proofs.RegroupedPlan.{regrouped_is_plan}
use Rattle.face_groups.proofs.regrouping.regrouped_map.Goals as goal

pub invariant_of-result : goal.invariant_of-result
invariant_of-result c =
    let is = regrouped_is_plan c.args.plan.now c.points.ensures.plan c.args.mesh.now.triangles c.args.labels.now c.args.count c.requires.range c.requires.named in
    let same : c.in_ok-points.points.items ≡ c.args.plan.now.points = search rules in
    subst (λ (ls : List (Option Line)). IsPlan (record { sectors = c.args.count; points = c.in_ok-points.points.items; lines = ls })) (sym c.in_ok-lines.ensures)
    (subst (λ (ps : List Pt). IsPlan (record { sectors = c.args.count; points = ps; lines = map (option_map (regrouped c.args.mesh.now.triangles c.args.labels.now)) c.args.plan.now.lines })) (sym same) is)
