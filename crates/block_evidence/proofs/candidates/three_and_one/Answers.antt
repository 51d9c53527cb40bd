use Rattle.std.proofs.Common.{[], ◌∷◌, refl}
use Rattle.block_evidence.proofs.Crossing.{hulls_turned}
use Rattle.block_evidence.proofs.Ordering.{one_ordered, picks_ordered}
use Rattle.block_evidence.proofs.candidates.three_and_one.Goals as goal

pub returns : goal.returns
returns c = picks_ordered (c.args.p ∷ c.args.q ∷ c.args.r ∷ []) (c.args.s ∷ []) (c.all_in_order-a.result.0 ∷ c.all_in_order-a.result.1 ∷ c.all_in_order-a.result.2 ∷ []) (c.args.s.code ∷ []) (record { count = 4; ends = c.all_in_order-a.result.0 ∷ c.all_in_order-a.result.1 ∷ c.all_in_order-a.result.2 ∷ c.args.s.code ∷ [] })
    c.all_in_order-a.ensures (one_ordered c.args.s) (c.requires.p_left, (c.requires.q_left, (c.requires.r_left, tt))) (c.requires.s_right, tt) ((c.if-p-q.false, (c.if-p-r.false, tt)), ((c.if-q-r.false, tt), (tt, tt))) (tt, tt) (hulls_turned (c.args.s.at ∷ []) (c.args.p.at ∷ c.args.q.at ∷ c.args.r.at ∷ []) (c.is_covered.ensures c.if-not-is_covered.false)) refl refl refl refl
