use Rattle.std.proofs.Common.{inl, inr, refl}
use Rattle.block_evidence.proofs.Ordering.{three_ordered, less}
use Rattle.block_evidence.proofs.candidates.all_in_order.Goals as goal

pub returns-then-b-c : goal.returns-then-b-c
returns-then-b-c c = three_ordered c.args.a c.args.b c.args.c c.args.a c.args.b c.args.c (inl refl, (inr (inl refl), (inr (inr (inl refl)), tt))) (inl refl, (inr (inl refl), (inr (inr (inl refl)), tt))) (λ d. (c.if-a-b.true, c.if-b-c.true))

pub returns-then-a-c : goal.returns-then-a-c
returns-then-a-c c = three_ordered c.args.a c.args.b c.args.c c.args.a c.args.c c.args.b (inl refl, (inr (inr (inl refl)), (inr (inl refl), tt))) (inl refl, (inr (inr (inl refl)), (inr (inl refl), tt))) (λ d. (c.if-a-c.true, less c.args.b.code c.args.c.code d.1.0.0 c.if-b-c.false))

pub returns-else-a-c : goal.returns-else-a-c
returns-else-a-c c = three_ordered c.args.a c.args.b c.args.c c.args.c c.args.a c.args.b (inr (inr (inl refl)), (inl refl, (inr (inl refl), tt))) (inr (inl refl), (inr (inr (inl refl)), (inl refl, tt))) (λ d. (less c.args.a.code c.args.c.code d.0.1.0 c.if-a-c.false, c.if-a-b.true))

pub returns-then-a-c-2 : goal.returns-then-a-c-2
returns-then-a-c-2 c = three_ordered c.args.a c.args.b c.args.c c.args.b c.args.a c.args.c (inr (inl refl), (inl refl, (inr (inr (inl refl)), tt))) (inr (inl refl), (inl refl, (inr (inr (inl refl)), tt))) (λ d. (less c.args.a.code c.args.b.code d.0.0 c.if-a-b.false, c.if-a-c-2.true))

pub returns-then-b-c-2 : goal.returns-then-b-c-2
returns-then-b-c-2 c = three_ordered c.args.a c.args.b c.args.c c.args.b c.args.c c.args.a (inr (inl refl), (inr (inr (inl refl)), (inl refl, tt))) (inr (inr (inl refl)), (inl refl, (inr (inl refl), tt))) (λ d. (c.if-b-c-2.true, less c.args.a.code c.args.c.code d.0.1.0 c.if-a-c-2.false))

pub returns-else-b-c-2 : goal.returns-else-b-c-2
returns-else-b-c-2 c = three_ordered c.args.a c.args.b c.args.c c.args.c c.args.b c.args.a (inr (inr (inl refl)), (inr (inl refl), (inl refl, tt))) (inr (inr (inl refl)), (inr (inl refl), (inl refl, tt))) (λ d. (less c.args.b.code c.args.c.code d.1.0.0 c.if-b-c-2.false, less c.args.a.code c.args.b.code d.0.0 c.if-a-b.false))
