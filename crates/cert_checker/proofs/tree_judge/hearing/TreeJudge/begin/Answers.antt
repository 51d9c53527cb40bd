use Rattle.std.proofs.Common.{◌++◌, refl}
use Rattle.std.specs.Option.{option_to_list}
use Rattle.math_base.proofs.Options.{none_where_not_some}
use Rattle.cert_checker.proofs.TreeJudge.TreesSoFar.{begin_right, begin_wrong}
use Rattle.cert_checker.proofs.tree_judge.hearing.TreeJudge.begin.Goals as goal

pub returns-then-is_some : goal.returns-then-is_some
returns-then-is_some c = λ m ts front tree h. begin_wrong m ts c.args.edges.now (front ++ option_to_list tree) c.args.source c.end.new.self (c.end.ensures m ts c.args.edges.now front tree h) c.if-is_some.ensures

pub returns : goal.returns
returns c = λ m ts front tree h. begin_right m ts c.args.edges.now (front ++ option_to_list tree) c.args.source c.end.new.self _ (c.end.ensures m ts c.args.edges.now front tree h) (none_where_not_some c.end.new.self.wrong c.if-is_some.ensures)
    c.begin.ensures refl refl refl refl refl refl refl
