use Rattle.std.proofs.Common.{◌≡◌, ◌<◌, ◌∙◌, ℕ, List, length, Some, refl, sym, ap, subst, arith}
use Rattle.std.proofs.lemmas.Option.{slice_get_read}
use Rattle.group_job.specs.Marks.{SetsMore, OfSteps}
use Rattle.group_job.proofs.Marks.{sets_next}
use Rattle.exact_job.proofs.Tables.{OwnStep, own_set, own_step}
use Rattle.exact_job.proofs.table.set_own.Goals as goal

pub set_block-requires-clause-from : goal.set_block-requires-clause-from
set_block-requires-clause-from c = λ s h.
    let at = slice_get_read c.args.groups.now (length c.args.groups.now) c.loop-i.i c.index-groups-i.result refl c.loop-i-test.true c.index-groups-i.is ∙ ap (λ (xs : List ℕ). Some xs) (sym c.as_slice-own.ensures) in
    subst (λ (n : ℕ). s < n) (sym c.loop-i.invariant.sectors) (c.requires c.loop-i.i s (c.as_slice-own.result.now, at, h))

pub set_block-requires-clause-to : goal.set_block-requires-clause-to
set_block-requires-clause-to c = λ s h.
    let at = slice_get_read c.args.groups.now (length c.args.groups.now) c.loop-i.i c.index-groups-i.result refl c.loop-i-test.true c.index-groups-i.is ∙ ap (λ (xs : List ℕ). Some xs) (sym c.as_slice-own.ensures) in
    subst (λ (n : ℕ). s < n) (sym c.loop-i.invariant.sectors) (c.requires c.loop-i.i s (c.as_slice-own.result.now, at, h))

pub loop-i-preserved : goal.loop-i-preserved
loop-i-preserved c =
    let at = slice_get_read c.args.groups.now (length c.args.groups.now) c.loop-i.i c.index-groups-i.result refl c.loop-i-test.true c.index-groups-i.is ∙ ap (λ (xs : List ℕ). Some xs) (sym c.as_slice-own.ensures) in
    sets_next (OwnStep c.args.groups.now) c.loop-i.i c.args.marks.now c.loop-i.marks c.set_block.new.table c.loop-i.invariant
    (own_step c.args.groups.now c.loop-i.i c.as_slice-own.result.now c.loop-i.marks c.set_block.new.table at c.set_block.ensures)

pub returns : goal.returns
returns c =
    let e : c.loop-i.i ≡ length c.args.groups.now = omega arith in
    own_set c.args.groups.now c.args.marks.now c.loop-i.marks (subst (λ (n : ℕ). SetsMore (OfSteps (OwnStep c.args.groups.now) n) c.args.marks.now c.loop-i.marks) e c.loop-i.invariant)
