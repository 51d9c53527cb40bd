use Rattle.std.proofs.Common.{◌+◌, List, refl, sym, subst, arith, Vec, Global}
use Rattle.std.proofs.lemmas.Option.{slice_get_read}
use Rattle.group_checker.specs.Members.{AreMembers, AreMembersSoFar, PutsGroup}
use Rattle.group_checker.proofs.Placing.{items_of, members_all, members_next, members_none, written}
use Rattle.group_checker.proofs.members.members_of.Goals as goal

pub loop-place-init : goal.loop-place-init
loop-place-init c = members_none c.args.groups.now c.in_ok-lists.lists.items c.args.sectors c.in_ok-lists.ensures.len c.in_ok-lists.ensures.empty

pub loop-place-preserved : goal.loop-place-preserved
loop-place-preserved c =
    let place = c.loop-place.place in
    let group = c.index-groups-place.result in
    let old = c.loop-place.lists.items in
    let new = c.put_group.new.lists in
    let puts = subst (λ (vs : List (Vec _ Global)). PutsGroup group place (items_of vs) (items_of new)) c.as_mut_slice.ensures.value c.in_ok-put_group.ensures in
    let there = slice_get_read c.args.groups.now _ place group refl c.loop-place-test.true c.index-groups-place.is in
    subst (λ (vs : List (Vec _ Global)). AreMembersSoFar (place + 1) c.args.groups.now c.args.sectors (items_of vs)) (sym (written old new c.loop-place.lists.len puts.len (omega (arith, c.loop-place.lists.ok))))
    (members_next c.args.groups.now place c.args.sectors group (items_of old) (items_of new) there c.loop-place.invariant puts)

pub returns : goal.returns
returns c = subst (AreMembers c.args.groups.now c.args.sectors) (sym c.in_ok-members.ensures) (members_all c.args.groups.now c.loop-place.place c.args.sectors (items_of c.loop-place.lists.items) (omega arith) c.loop-place.invariant)
