use Rattle.cert_checker.proofs.tree_judge.trees.are_two_and_two.Goals as goal

pub returns : goal.returns
returns c = λ yes. (_, _, _, _, c.left_at-p.ensures, c.left_at-q.ensures, c.right_at.ensures, c.right_at-2.ensures, c.are_stuck.ensures yes)
