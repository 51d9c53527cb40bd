use Rattle.std.proofs.Common.{rules}
use Rattle.group_checker.proofs.Placing.{puts_one}
use Rattle.group_checker.proofs.members.put.Goals as goal

pub returns : goal.returns
returns c = puts_one c.args.lists.now c.args.sector c.args.place c.index-lists-sector.result c.push.new.self (search rules) c.in_ok-push.ensures.items
