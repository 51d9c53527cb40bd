use Rattle.std.specs.Prelude.{⊤}
use Rattle.certificates.specs.CertParts.Nodes.{TakesNodes}
use Rattle.certificates.proofs.cert_parts.records.pass_nodes.Given as goal

abbrev pub decreases-rest : goal.decreases-rest
decreases-rest l = l.left

abbrev pub invariant-rest : goal.invariant-rest
invariant-rest l = TakesNodes l.bytes l.count l.rest l.left (λ _. ⊤)
