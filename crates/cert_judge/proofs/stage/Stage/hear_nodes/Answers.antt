use Rattle.std.proofs.Common.{sym, subst}
use Rattle.certificates.proofs.CertParts.Stretches.{takes_weaker}
use Rattle.cert_judge.specs.Heard.{node_parts, heard_from}
use Rattle.cert_judge.specs.Stage.{IsStage}
use Rattle.cert_judge.proofs.Stages.{good_with_nodes, lost_with_nodes, broken_with_nodes}
use Rattle.cert_judge.proofs.stage.Stage.hear_nodes.Goals as goal

pub returns-in-Good : goal.returns-in-Good
returns-in-Good c = takes_weaker c.args.bytes.now c.args.count _ _ _ _ (λ ns heard p groups h k. let on = subst (IsStage p groups h) c.in-Good.is k in good_with_nodes p groups h ns c.hear_nodes.new.self on.0 (heard p groups h.triangles h.rays h.front h.tree on.1)) c.hear_nodes.ensures

pub returns-in-Broken : goal.returns-in-Broken
returns-in-Broken c = takes_weaker c.args.bytes.now c.args.count _ _ _ _ (λ ns _ p groups h k. subst (IsStage p groups (heard_from h (node_parts ns))) (sym c.in-Broken.is) (broken_with_nodes p groups h ns _ (subst (IsStage p groups h) c.in-Broken.is k))) c.pass_nodes.ensures

pub returns-in-Lost : goal.returns-in-Lost
returns-in-Lost c = takes_weaker c.args.bytes.now c.args.count _ _ _ _ (λ ns _ p groups h k. subst (IsStage p groups (heard_from h (node_parts ns))) (sym c.in-Lost.is) (lost_with_nodes p groups h ns (subst (IsStage p groups h) c.in-Lost.is k))) c.pass_nodes-in-Lost.ensures
