use Rattle.std.proofs.Common.{◌≡◌, ◌<◌, ℕ, length, get_or, sym, subst, arith}
use Rattle.std.proofs.lemmas.Option.{slice_get-get_or}
use Rattle.group_job.specs.Marks.{SetsMore, OfSteps}
use Rattle.face_groups.proofs.GroupsBase.Ordered.{at_contains}
use Rattle.group_job.proofs.Marks.{sets_next, sets_one}
use Rattle.group_job.proofs.Steps.{RowStep, row_set, row_step}
use Rattle.exact_job.proofs.table.set_row.Goals as goal

pub set-requires-clause-to : goal.set-requires-clause-to
set-requires-clause-to c =
    let x = get_or c.args.sectors.now c.loop-i.i 0 in
    subst (λ (n : ℕ). x < n) (sym c.loop-i.invariant.sectors) (c.requires.below x (at_contains c.args.sectors.now x (c.loop-i.i, slice_get-get_or c.args.sectors.now c.loop-i.i 0 c.loop-i-test.true)))

pub loop-i-preserved : goal.loop-i-preserved
loop-i-preserved c =
    let x = get_or c.args.sectors.now c.loop-i.i 0 in
    sets_next (RowStep c.args.a c.args.sectors.now) c.loop-i.i c.args.table.now c.loop-i.table c.set.new.self c.loop-i.invariant
    (row_step c.args.a c.args.sectors.now c.loop-i.i x c.loop-i.table c.set.new.self (slice_get-get_or c.args.sectors.now c.loop-i.i 0 c.loop-i-test.true) (sets_one c.loop-i.table c.set.new.self c.args.a x c.set.ensures.bit c.set.ensures.pairs))

pub returns : goal.returns
returns c =
    let e : c.loop-i.i ≡ length c.args.sectors.now = omega arith in
    row_set c.args.a c.args.sectors.now c.args.table.now c.loop-i.table (subst (λ (n : ℕ). SetsMore (OfSteps (RowStep c.args.a c.args.sectors.now) n) c.args.table.now c.loop-i.table) e c.loop-i.invariant)
