use Rattle.std.proofs.Common.{◌<◌, ◌^◌}
use Rattle.cert_checker.proofs.TreeJudge.Ends.{left_of, right_of}
use Rattle.cert_checker.proofs.tree_judge.trees.end_of.Goals as goal

pub returns-then-code-lt-RIGHT_END : goal.returns-then-code-lt-RIGHT_END
returns-then-code-lt-RIGHT_END c = let l = c.in_ok-frame.ensures.lookup in left_of c.args.path.now c.args.code c.in_ok-frame.frame.now c.if-code-lt-RIGHT_END.true l.3.0 l.1

pub returns-else-code-lt-RIGHT_END : goal.returns-else-code-lt-RIGHT_END
returns-else-code-lt-RIGHT_END c = let l = c.in_ok-frame.ensures.lookup in right_of c.args.path.now c.args.code c.in_ok-frame.frame.now c.if-code-lt-RIGHT_END.false (let h : c.args.code < 2 ^ 16 = c.ranges.code.fits in h) l.3.0 l.1
