use Rattle.cert_checker.proofs.Known.{joined_told}
use Rattle.cert_checker.proofs.pairs.are_sectors_joined.Goals as goal

pub are_some_joined-requires-clause-ones : goal.are_some_joined-requires-clause-ones
are_some_joined-requires-clause-ones g c = c.requires.groups c.args.a c.groups_of-ones.result.now c.groups_of-ones.ensures

pub are_some_joined-requires-clause-others : goal.are_some_joined-requires-clause-others
are_some_joined-requires-clause-others g c = c.requires.groups c.args.b c.groups_of-others.result.now c.groups_of-others.ensures

pub returns : goal.returns
returns g c = joined_told (g.J.Joins.joins c.args.by.now) c.args.members.now c.args.a c.args.b c.groups_of-ones.result.now c.groups_of-others.result.now c.are_some_joined.result c.groups_of-ones.ensures c.groups_of-others.ensures c.are_some_joined.ensures
