use Rattle.std.proofs.Common.{◌≡◌, ◌<◌, ℕ, length, sym, subst, arith}
use Rattle.group_job.proofs.Marks.{steps_next, steps_none}
use Rattle.group_job.proofs.Steps.{ClearRowStep, clear_set}
use Rattle.group_job.proofs.sectors.clear_pairs.Goals as goal

pub loop-f-init : goal.loop-f-init
loop-f-init c = steps_none (ClearRowStep c.args.groups.now c.args.table.now) c.args.sectors _ c.in_ok-marks.marks c.in_ok-marks.ensures.sectors c.in_ok-marks.ensures.zero

pub set_clear_row-requires-clause-below : goal.set_clear_row-requires-clause-below
set_clear_row-requires-clause-below c = λ f a h. subst (λ (n : ℕ). a < n) (sym c.loop-f.invariant.sectors_are) (c.requires.below f a h)

pub loop-f-preserved : goal.loop-f-preserved
loop-f-preserved c = steps_next (ClearRowStep c.args.groups.now c.args.table.now) c.loop-f.f c.args.sectors c.loop-f.marks c.set_clear_row.new.marks c.loop-f.invariant c.set_clear_row.ensures

pub returns : goal.returns
returns c =
    let q = c.requires.groups in
    let r = c.sectors-f-end.ensures in
    let e : c.loop-f.f ≡ length c.args.groups.now = omega arith in
    clear_set c.args.groups.now c.args.table.now c.args.sectors c.loop-f.f c.loop-f.marks e c.loop-f.invariant
