use Rattle.cert_checker.proofs.tree_judge.trees.are_three_and_one.Goals as goal

pub returns : goal.returns
returns c = λ yes. (_, _, _, _, c.left_at-p.ensures, c.left_at-q.ensures, c.left_at-r.ensures, c.right_at.ensures, c.are_stuck.ensures yes)
