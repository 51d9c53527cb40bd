use Rattle.portal_walk.proofs.Aheads.{is_in_other, is_in_same}
use Rattle.portal_walk.proofs.ahead.is_in.Goals as goal

pub returns-then-ahead-sector : goal.returns-then-ahead-sector
returns-then-ahead-sector c = is_in_same c.args.ahead.now.has_sector c.args.ahead.now.sector c.args.sector c.if-ahead-sector.true

pub returns-else-ahead-sector : goal.returns-else-ahead-sector
returns-else-ahead-sector c = is_in_other c.args.ahead.now.has_sector c.args.ahead.now.sector c.args.sector c.if-ahead-sector.false
