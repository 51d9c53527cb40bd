use Rattle.std.proofs.Common.{inl, inr, refl}
use Rattle.block_evidence.proofs.Picking.{some_of_five}
use Rattle.block_evidence.proofs.candidates.by_turn_right.Goals as goal

pub returns-then-turn-le0 : goal.returns-then-turn-le0
returns-then-turn-le0 c = some_of_five c.args.first c.args.second c.args.new c.args.first.left c.args.second.left c.args.second.right c.args.new c.two_and_two.result (inl refl) (inr (inr (inl refl))) (inr (inr (inr (inl refl)))) (inr (inr (inr (inr (inl refl))))) c.two_and_two.ensures

pub returns : goal.returns
returns c = some_of_five c.args.first c.args.second c.args.new c.args.first.left c.args.first.right c.args.second.right c.args.new c.one_and_three.result (inl refl) (inr (inl refl)) (inr (inr (inr (inl refl)))) (inr (inr (inr (inr (inl refl))))) c.one_and_three.ensures
