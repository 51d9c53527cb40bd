use Rattle.std.proofs.Common.{arith}
use Rattle.cert_format.proofs.CertGroups.AnyLaws.{found_of, only_of, in_order_of}
use Rattle.certificates.proofs.reading.read_any.Goals as goal

pub returns-clause-found : goal.returns-clause-found
returns-clause-found c = found_of c.args.sizes.now c.args.bytes.now c.any_of.result c.any_of.ensures.small (λ i. omega (arith, c.type_inv.bytes i)) c.any_of.ensures.exact

pub returns-clause-only : goal.returns-clause-only
returns-clause-only c = λ d s. only_of c.args.sizes.now c.args.bytes.now c.any_of.result d c.any_of.ensures.exact s

pub returns-clause-in_order : goal.returns-clause-in_order
returns-clause-in_order c =
    in_order_of c.args.sizes.now c.args.bytes.now c.any_of.result (found_of c.args.sizes.now c.args.bytes.now c.any_of.result c.any_of.ensures.small (λ i. omega (arith, c.type_inv.bytes i)) c.any_of.ensures.exact)
