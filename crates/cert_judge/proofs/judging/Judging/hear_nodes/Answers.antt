use Rattle.std.proofs.Common.{List, sym, subst}
use Rattle.std.proofs.lemmas.List.{append-nil}
use Rattle.certificates.specs.declared.cert_parts.part.Part.{Part}
use Rattle.certificates.proofs.CertParts.Stretches.{takes_none, takes_weaker}
use Rattle.cert_judge.specs.Heard.{PartsHeard, nothing_heard, node_parts, heard_from}
use Rattle.cert_judge.specs.Judging.{KeepsListingHeard, HasHeard}
use Rattle.cert_judge.proofs.AllHeard.{heard_both}
use Rattle.cert_judge.proofs.judging.Judging.hear_nodes.Goals as goal

pub returns-then-is_some : goal.returns-then-is_some
returns-then-is_some c = takes_none c.args.bytes.now c.args.count _ (λ p t groups parts w. subst (λ (ps : List Part). HasHeard p t groups ps c.args.self.now) (sym (append-nil parts)) w)

pub returns : goal.returns
returns c = takes_weaker c.args.bytes.now c.args.count _ _ _ _ (λ ns heard p t groups parts w. record {
  plan = w.plan;
  table = w.table;
  kept = λ fine. subst (λ (h : PartsHeard). KeepsListingHeard p groups h c.hear_nodes.new.self) (sym (heard_both nothing_heard parts (node_parts ns))) (heard p groups (heard_from nothing_heard parts) (w.kept fine));
}) c.hear_nodes.ensures
