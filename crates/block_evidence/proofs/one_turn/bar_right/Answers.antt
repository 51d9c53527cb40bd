use Rattle.std.proofs.Common.{inl, inr, refl, arith}
use Rattle.std.proofs.lemmas.Int.{ints}
use Rattle.block_evidence.proofs.OneTurn.{right_by_segments, right_by_triangle}
use Rattle.block_evidence.proofs.Picking.{of_five}
use Rattle.block_evidence.proofs.one_turn.bar_right.Goals as goal

pub returns-then-turn-le0 : goal.returns-then-turn-le0
returns-then-turn-le0 c =
    let v = c.turn.ensures.value in
    let s = c.if-turn-le0.true in
    of_five c.args.first c.args.second c.args.new c.args.first.left c.args.second.left c.args.second.right c.args.new _ (inl refl) (inr (inr (inl refl))) (inr (inr (inr (inl refl)))) (inr (inr (inr (inr (inl refl)))))
    (right_by_segments c.args.first c.args.second c.args.new _ _ c.requires.lines c.requires.bars (omega (arith, ints)) c.in_order-a.ensures)

pub returns-else-turn-le0 : goal.returns-else-turn-le0
returns-else-turn-le0 c =
    let v = c.turn.ensures.value in
    let s = c.if-turn-le0.false in
    of_five c.args.first c.args.second c.args.new c.args.first.left c.args.first.right c.args.second.right c.args.new _ (inl refl) (inr (inl refl)) (inr (inr (inr (inl refl)))) (inr (inr (inr (inr (inl refl)))))
    (right_by_triangle c.args.first c.args.second c.args.new _ _ c.requires.lines c.requires.bars (omega (arith, ints)) c.in_order-c.ensures)
