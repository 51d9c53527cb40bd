use Rattle.std.proofs.Common.{◌≡◌, ◌<◌, ℕ, length, get_or, sym, subst, arith}
use Rattle.std.proofs.lemmas.Option.{slice_get-get_or}
use Rattle.group_job.specs.Marks.{SetsMore, OfSteps}
use Rattle.face_groups.proofs.GroupsBase.Ordered.{at_contains}
use Rattle.group_job.proofs.Marks.{sets_next}
use Rattle.group_job.proofs.Steps.{BlockStep, block_set, block_step}
use Rattle.exact_job.proofs.table.set_block.Goals as goal

pub set_row-requires-clause-row : goal.set_row-requires-clause-row
set_row-requires-clause-row c =
    let x = get_or c.args.from.now c.loop-i.i 0 in
    subst (λ (n : ℕ). x < n) (sym c.loop-i.invariant.sectors) (c.requires.from x (at_contains c.args.from.now x (c.loop-i.i, slice_get-get_or c.args.from.now c.loop-i.i 0 c.loop-i-test.true)))

pub set_row-requires-clause-below : goal.set_row-requires-clause-below
set_row-requires-clause-below c = λ s h. subst (λ (n : ℕ). s < n) (sym c.loop-i.invariant.sectors) (c.requires.to s h)

pub loop-i-preserved : goal.loop-i-preserved
loop-i-preserved c =
    let x = get_or c.args.from.now c.loop-i.i 0 in
    sets_next (BlockStep c.args.from.now c.args.to.now) c.loop-i.i c.args.table.now c.loop-i.table c.set_row.new.table c.loop-i.invariant
    (block_step c.args.from.now c.args.to.now c.loop-i.i x c.loop-i.table c.set_row.new.table (slice_get-get_or c.args.from.now c.loop-i.i 0 c.loop-i-test.true) c.set_row.ensures)

pub returns : goal.returns
returns c =
    let e : c.loop-i.i ≡ length c.args.from.now = omega arith in
    block_set c.args.from.now c.args.to.now c.args.table.now c.loop-i.table (subst (λ (n : ℕ). SetsMore (OfSteps (BlockStep c.args.from.now c.args.to.now) n) c.args.table.now c.loop-i.table) e c.loop-i.invariant)
