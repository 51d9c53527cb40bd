use Rattle.std.proofs.Common.{◌<◌, List, ℕ, get_or, length, ap, subst, arith}
use Rattle.group_checker.proofs.Placing.{items_of, puts_all, puts_next, puts_none}
use Rattle.group_checker.proofs.members.put_group.Goals as goal

pub loop-sector-init : goal.loop-sector-init
loop-sector-init c = puts_none c.args.place (items_of c.args.lists.now)

pub loop-sector-preserved : goal.loop-sector-preserved
loop-sector-preserved c =
    let same = c.as_slice-sector-items.ensures in
    let within = subst (λ (xs : List ℕ). c.loop-sector.sector-index < length xs) same c.loop-sector-test.true in
    puts_next c.args.group.now c.loop-sector.sector-index _ c.args.place (items_of c.args.lists.now) (items_of c.loop-sector.lists) (items_of c.put.new.lists) within (ap (λ (xs : List ℕ). get_or xs c.loop-sector.sector-index 0) same) c.loop-sector.invariant c.in_ok-put.ensures

pub returns : goal.returns
returns c =
    let same = ap (λ (xs : List ℕ). length xs) c.as_slice-sector-items.ensures in
    puts_all c.args.group.now c.loop-sector.sector-index c.args.place (items_of c.args.lists.now) (items_of c.loop-sector.lists) (omega (arith, same)) c.loop-sector.invariant
