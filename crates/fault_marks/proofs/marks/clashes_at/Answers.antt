use Rattle.std.proofs.Common.{◌+◌, List, sym, subst, take}
use Rattle.sight_names.specs.Map.{map_of}
use Rattle.map_picture.specs.declared.faults.FaultAt.{FaultAt}
use Rattle.fault_marks.specs.Marks.{AreClashesAt}
use Rattle.fault_marks.proofs.Clashes.{all_at_end, one_more_at}
use Rattle.fault_marks.proofs.marks.clashes_at.Goals as goal

pub loop-pair-preserved : goal.loop-pair-preserved
loop-pair-preserved c =
    subst (λ (xs : List FaultAt). AreClashesAt (map_of c.args.plan.now) (take (c.loop-pair.pair-index + 1) c.args.pairs.now) xs) (sym c.in_ok-push.ensures.items)
    (one_more_at (map_of c.args.plan.now) c.args.pairs.now c.loop-pair.pair-index _ c.loop-pair.faults.items c.clash_at.result c.loop-pair-test.true c.loop-pair.invariant c.clash_at.ensures)

pub returns : goal.returns
returns c = all_at_end (map_of c.args.plan.now) c.args.pairs.now c.loop-pair.pair-index c.loop-pair.faults.items c.loop-pair-test.false c.loop-pair.invariant
