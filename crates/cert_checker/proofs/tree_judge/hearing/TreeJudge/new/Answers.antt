use Rattle.std.proofs.Common.{◌≡◌, ℕ, refl, ◌∙◌, ap, subst}
use Rattle.sight_names.specs.Map.{map_of}
use Rattle.sight_names.specs.Plan.{PlanParts}
use Rattle.cert_checker.specs.TreeJudge.Marks.{HasNoMark}
use Rattle.cert_checker.proofs.TreeJudge.TreesSoFar.{none_noted}
use Rattle.cert_checker.proofs.tree_judge.hearing.TreeJudge.new.Goals as goal

pub returns : goal.returns
returns c =
    let p = c.args.plan.now in
    let same : c.plan.inside.sectors ≡ p.sectors = ap (λ (x : PlanParts). x.sectors) c.plan.view_is in
    record {
      roots = c.in_ok-roots.ensures;
      steps = c.in_ok-steps.ensures;
      judged = λ _. (
        refl,
        none_noted (map_of p) c.args.mesh.now.triangles c.args.edges.now c.in_ok-walked.walked.items c.in_ok-reached.reached
            (subst (λ (n : ℕ). HasNoMark n c.in_ok-walked.walked.items) same c.in_ok-walked.ensures) c.in_ok-reached.ensures.clear (c.in_ok-reached.ensures.sectors ∙ same),
      );
    }
