use Rattle.cert_checker.proofs.tree_judge.trees.are_one_and_three.Goals as goal

pub returns : goal.returns
returns c = λ yes. (_, _, _, _, c.left_at.ensures, c.right_at-q.ensures, c.right_at-r.ensures, c.right_at-s.ensures, c.are_stuck.ensures yes)
