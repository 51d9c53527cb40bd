use Rattle.portal_walk.proofs.RootOrder.{pushed}
use Rattle.portal_walk.proofs.roots.put.Goals as goal

pub returns : goal.returns
returns c = pushed c.args.of_sectors.now c.args.sector c.in-Some.sector c.index-of_sectors-sector.result c.push.new.self c.args.root c.in-Some.is c.if-sector-of_sectors.false c.in_ok-push.ensures.items
