use Rattle.group_checker.specs.Members.{AreMembersSoFar}
use Rattle.group_checker.proofs.Placing.{items_of}
use Rattle.group_checker.proofs.members.members_of.Given as goal

abbrev pub invariant-loop-place : goal.invariant-loop-place
invariant-loop-place l = AreMembersSoFar l.place l.groups l.sectors (items_of l.lists.items)
