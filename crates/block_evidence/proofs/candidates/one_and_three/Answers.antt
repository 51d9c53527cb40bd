use Rattle.std.proofs.Common.{[], ◌∷◌, refl}
use Rattle.block_evidence.proofs.Ordering.{one_ordered, picks_ordered}
use Rattle.block_evidence.proofs.candidates.one_and_three.Goals as goal

pub returns : goal.returns
returns c = picks_ordered (c.args.p ∷ []) (c.args.q ∷ c.args.r ∷ c.args.s ∷ []) (c.args.p.code ∷ []) (c.all_in_order-b.result.0 ∷ c.all_in_order-b.result.1 ∷ c.all_in_order-b.result.2 ∷ []) (record { count = 4; ends = c.args.p.code ∷ c.all_in_order-b.result.0 ∷ c.all_in_order-b.result.1 ∷ c.all_in_order-b.result.2 ∷ [] })
    (one_ordered c.args.p) c.all_in_order-b.ensures (c.requires.p_left, tt) (c.requires.q_right, (c.requires.r_right, (c.requires.s_right, tt))) (tt, tt) ((c.if-q-r.false, (c.if-q-s.false, tt)), ((c.if-r-s.false, tt), (tt, tt))) (c.is_covered.ensures c.if-not-is_covered.false) refl refl refl refl
