use Rattle.std.proofs.Common.{take}
use Rattle.group_checker.specs.Members.{PutsGroup}
use Rattle.group_checker.proofs.Placing.{items_of}
use Rattle.group_checker.proofs.members.put_group.Given as goal

abbrev pub invariant-loop-sector : goal.invariant-loop-sector
invariant-loop-sector l = PutsGroup (take l.sector-index l.group) l.place (items_of l.initial.lists) (items_of l.lists)
