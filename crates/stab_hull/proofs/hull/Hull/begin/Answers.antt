use Rattle.geom_exact.proofs.ExtremeLines.Widening.{long_of_different}
use Rattle.stab_hull.proofs.StepLemmas.{top_first}
use Rattle.stab_hull.proofs.hull.Hull.begin.Goals as goal

pub through-requires : goal.through-requires
through-requires c = long_of_different c.args.left.at c.args.right.at c.requires.proper

pub returns-clause-cone : goal.returns-clause-cone
returns-clause-cone c = top_first c.through.result c.args.left c.args.right c.clear-3.new.self.items c.push-3.new.self.items c.through.ensures.left c.through.ensures.right c.in_ok-push-3.ensures.items
