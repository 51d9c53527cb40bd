use Rattle.std.proofs.Common.{inl, inr, refl}
use Rattle.block_evidence.proofs.Ordering.{two_ordered, less}
use Rattle.block_evidence.proofs.candidates.in_order.Goals as goal

pub returns-then-a-b : goal.returns-then-a-b
returns-then-a-b c = two_ordered c.args.a c.args.b c.args.a c.args.b (inl refl, (inr (inl refl), tt)) (inl refl, (inr (inl refl), tt)) (λ d. c.if-a-b.true)

pub returns-else-a-b : goal.returns-else-a-b
returns-else-a-b c = two_ordered c.args.a c.args.b c.args.b c.args.a (inr (inl refl), (inl refl, tt)) (inr (inl refl), (inl refl, tt)) (λ d. less c.args.a.code c.args.b.code d.0.0 c.if-a-b.false)
