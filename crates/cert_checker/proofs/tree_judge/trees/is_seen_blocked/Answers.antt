use Rattle.std.proofs.Common.{◌≡◌, length, arith}
use Rattle.cert_checker.specs.TreeJudge.Path.{path_ends}
use Rattle.cert_checker.proofs.TreeJudge.Ends.{blocks_ends}
use Rattle.cert_checker.proofs.tree_judge.trees.is_seen_blocked.Goals as goal

pub returns-then-c-path : goal.returns-then-c-path
returns-then-c-path c = λ yes.
    let l : length c.args.evidence.ends ≡ 4 = omega arith in
    blocks_ends (path_ends c.args.path.now) c.args.evidence (omega arith) l (c.are_three_and_one.ensures yes)

pub returns-then-b-path : goal.returns-then-b-path
returns-then-b-path c = λ yes.
    let l : length c.args.evidence.ends ≡ 4 = omega arith in
    blocks_ends (path_ends c.args.path.now) c.args.evidence (omega arith) l (c.are_two_and_two.ensures yes)

pub returns : goal.returns
returns c = λ yes.
    let l : length c.args.evidence.ends ≡ 4 = omega arith in
    blocks_ends (path_ends c.args.path.now) c.args.evidence (omega arith) l (c.are_one_and_three.ensures yes)
