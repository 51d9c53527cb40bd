use Rattle.std.proofs.Common.{inl, inr, refl}
use Rattle.block_evidence.proofs.Picking.{some_of_five, of_five}
use Rattle.block_evidence.proofs.candidates.any_with_right.Goals as goal

pub returns-in-Some : goal.returns-in-Some
returns-in-Some c = of_five c.args.first c.args.second c.args.new c.args.first.left c.args.second.left c.args.second.right c.args.new c.in-Some.found (inl refl) (inr (inr (inl refl))) (inr (inr (inr (inl refl)))) (inr (inr (inr (inr (inl refl))))) c.in-Some.ensures

pub returns-in-Some-two_and_two : goal.returns-in-Some-two_and_two
returns-in-Some-two_and_two c = of_five c.args.first c.args.second c.args.new c.args.first.left c.args.second.left c.args.first.right c.args.new c.in-Some-two_and_two.found (inl refl) (inr (inr (inl refl))) (inr (inl refl)) (inr (inr (inr (inr (inl refl))))) c.in-Some-two_and_two.ensures

pub returns-in-Some-one_and_three : goal.returns-in-Some-one_and_three
returns-in-Some-one_and_three c = of_five c.args.first c.args.second c.args.new c.args.first.left c.args.first.right c.args.second.right c.args.new c.in-Some-one_and_three.found (inl refl) (inr (inl refl)) (inr (inr (inr (inl refl)))) (inr (inr (inr (inr (inl refl))))) c.in-Some-one_and_three.ensures

pub returns : goal.returns
returns c = some_of_five c.args.first c.args.second c.args.new c.args.second.left c.args.first.right c.args.second.right c.args.new c.one_and_three-2.result (inr (inr (inl refl))) (inr (inl refl)) (inr (inr (inr (inl refl)))) (inr (inr (inr (inr (inl refl))))) c.one_and_three-2.ensures
