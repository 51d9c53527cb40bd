use Rattle.std.proofs.Common.{arith}
use Rattle.std.proofs.lemmas.Int.{ints}
use Rattle.geom_exact.proofs.RelationLemmas.{laid, laid_back, relation_swapped}
use Rattle.geom_exact.proofs.relation_of_straight.Goals as goal

pub relation_on_line-requires : goal.relation_on_line-requires
relation_on_line-requires c = laid _ _ _ _ c.requires.first c.requires.second c.requires.near c.requires.far (omega (arith, ints))

pub relation_on_line-requires-2 : goal.relation_on_line-requires-2
relation_on_line-requires-2 c = laid_back _ _ _ _ c.requires.first c.requires.second c.requires.near c.requires.far (omega (arith, ints))

pub returns : goal.returns
returns c = relation_swapped c.args.p c.args.q c.args.s c.args.r c.relation_on_line-2.result c.relation_on_line-2.ensures
