use Rattle.std.proofs.Common.{[], ◌∷◌, refl}
use Rattle.block_evidence.proofs.Ordering.{picks_ordered}
use Rattle.block_evidence.proofs.candidates.two_and_two.Goals as goal

pub returns : goal.returns
returns c = picks_ordered (c.args.p ∷ c.args.q ∷ []) (c.args.r ∷ c.args.s ∷ []) (c.in_order-a.result.0 ∷ c.in_order-a.result.1 ∷ []) (c.in_order-c.result.0 ∷ c.in_order-c.result.1 ∷ []) (record { count = 4; ends = c.in_order-a.result.0 ∷ c.in_order-a.result.1 ∷ c.in_order-c.result.0 ∷ c.in_order-c.result.1 ∷ [] })
    c.in_order-a.ensures c.in_order-c.ensures (c.requires.p_left, (c.requires.q_left, tt)) (c.requires.r_right, (c.requires.s_right, tt)) ((c.if-p-q.false, tt), (tt, tt)) ((c.if-r-s.false, tt), (tt, tt)) (c.do_cross.ensures c.if-not-do_cross.false) refl refl refl refl
