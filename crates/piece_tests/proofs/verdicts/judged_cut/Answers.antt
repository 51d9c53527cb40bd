use Rattle.std.proofs.Common.{[], ◌++◌}
use Rattle.piece_tests.proofs.verdicts.judged_cut.Goals as goal

pub end-requires : goal.end-requires
end-requires c = record {
  plan = c.args.plan.now;
  table = c.args.table.now;
  bytes = ([] ++ c.args.front.now) ++ c.args.back.now;
  fed = c.feed-2.ensures.fed c.args.plan.now c.args.table.now ([] ++ c.args.front.now) (c.feed.ensures.fed c.args.plan.now c.args.table.now [] c.new-judge.ensures.fed);
  fits = c.requires.table;
}
