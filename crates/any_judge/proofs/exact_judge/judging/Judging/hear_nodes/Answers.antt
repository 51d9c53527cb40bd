use Rattle.std.proofs.Common.{◌∙◌, sym, subst}
use Rattle.std.proofs.lemmas.Result.{IfOk-weaker}
use Rattle.certificates.proofs.CertParts.Stretches.{takes_weaker}
use Rattle.certificates.specs.ExactParts.Parts.{node_parts}
use Rattle.any_judge.specs.ExactJudge.Heard.{ExactHeard, nothing_exact, heard_from}
use Rattle.any_judge.specs.ExactJudge.Judging.{KeepsExactHeard}
use Rattle.any_judge.proofs.ExactJudge.AllHeard.{heard_both, same_but_trees}
use Rattle.any_judge.proofs.exact_judge.judging.Judging.hear_nodes.Goals as goal

pub returns : goal.returns
returns c = IfOk-weaker c.hear_nodes.result _ _ (λ r taken. takes_weaker c.args.bytes.now c.args.count _ _ _ _ (λ ns stage p t groups parts k.
    let h = heard_from nothing_exact parts in
    let new = record c.args.self.now { stage = c.hear_nodes.new.self } in
    let same = same_but_trees h c.args.source ns in
    subst (λ (g : ExactHeard). KeepsExactHeard p t groups g new) (sym (heard_both nothing_exact parts (node_parts c.args.source ns)))
    (record { plan = k.plan; table = k.table; groups_are = k.groups_are; triangles = k.triangles ∙ sym same.0; rays = k.rays ∙ sym same.1; stage = stage p groups h k.stage })) taken) c.hear_nodes.ensures
