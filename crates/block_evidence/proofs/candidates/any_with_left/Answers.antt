use Rattle.std.proofs.Common.{inl, inr, refl}
use Rattle.block_evidence.proofs.Picking.{some_of_five, of_five}
use Rattle.block_evidence.proofs.candidates.any_with_left.Goals as goal

pub returns-in-Some : goal.returns-in-Some
returns-in-Some c = of_five c.args.first c.args.second c.args.new c.args.first.left c.args.new c.args.first.right c.args.second.right c.in-Some.found (inl refl) (inr (inr (inr (inr (inl refl))))) (inr (inl refl)) (inr (inr (inr (inl refl)))) c.in-Some.ensures

pub returns-in-Some-two_and_two : goal.returns-in-Some-two_and_two
returns-in-Some-two_and_two c = of_five c.args.first c.args.second c.args.new c.args.second.left c.args.new c.args.first.right c.args.second.right c.in-Some-two_and_two.found (inr (inr (inl refl))) (inr (inr (inr (inr (inl refl))))) (inr (inl refl)) (inr (inr (inr (inl refl)))) c.in-Some-two_and_two.ensures

pub returns-in-Some-three_and_one : goal.returns-in-Some-three_and_one
returns-in-Some-three_and_one c = of_five c.args.first c.args.second c.args.new c.args.first.left c.args.second.left c.args.new c.args.first.right c.in-Some-three_and_one.found (inl refl) (inr (inr (inl refl))) (inr (inr (inr (inr (inl refl))))) (inr (inl refl)) c.in-Some-three_and_one.ensures

pub returns : goal.returns
returns c = some_of_five c.args.first c.args.second c.args.new c.args.first.left c.args.second.left c.args.new c.args.second.right c.three_and_one-2.result (inl refl) (inr (inr (inl refl))) (inr (inr (inr (inr (inl refl))))) (inr (inr (inr (inl refl)))) c.three_and_one-2.ensures
