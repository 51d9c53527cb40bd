use Rattle.std.specs.Prelude.{⊤}
use Rattle.certificates.proofs.CertParts.Stretches.{takes_none, takes_more}
use Rattle.certificates.proofs.cert_parts.records.pass_nodes.Goals as goal

pub rest-init : goal.rest-init
rest-init c = takes_none c.args.bytes.now c.args.count (λ _. ⊤) tt

pub rest-preserved : goal.rest-preserved
rest-preserved c = takes_more c.args.bytes.now c.args.count c.rest.rest.now c.in-Some.behind.now c.rest.left _ (λ _. ⊤) (λ _. ⊤) c.rest.invariant c.rest-test.true c.in-Some.ensures.read (λ _ _. tt)
