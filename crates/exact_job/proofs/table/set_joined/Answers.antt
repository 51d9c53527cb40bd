use Rattle.std.proofs.Common.{◌≡◌, ◌<◌, ◌∙◌, ℕ, pos, List, length, map, false, get_or, slice_get, Some, refl, sym, ap, subst, arith}
use Rattle.std.proofs.lemmas.List.{length-map}
use Rattle.std.proofs.lemmas.Option.{slice_get_read}
use Rattle.sight_names.specs.declared.names.PairRay.{PairRay}
use Rattle.group_job.specs.Marks.{SetsMore, OfSteps}
use Rattle.group_job.proofs.Marks.{sets_next}
use Rattle.group_job.proofs.Steps.{ListedStep, listed_set, listed_step}
use Rattle.found_rays.specs.Lines.{pair_of_ray}
use Rattle.exact_job.proofs.Tables.{pair_low, pair_there}
use Rattle.exact_job.proofs.table.set_joined.Goals as goal

-- what stands where no ray does
abbrev nothing : PairRay
nothing = record { pair = record { a = 0; b = 0 }; ray = record { first = record { line = 0; left = false }; last = record { line = 0; left = false }; a = pos 0; b = pos 0; c = pos 0 } }

pub bounds-groups-rays : goal.bounds-groups-rays
bounds-groups-rays c = (pair_low (length c.args.groups.now) c.args.rays.now c.loop-i.i nothing c.requires.pairs c.loop-i-test.true).0

pub bounds-groups-rays-in-loop-i : goal.bounds-groups-rays-in-loop-i
bounds-groups-rays-in-loop-i c = (pair_low (length c.args.groups.now) c.args.rays.now c.loop-i.i nothing c.requires.pairs c.loop-i-test.true).1

pub set_block-requires-clause-from : goal.set_block-requires-clause-from
set_block-requires-clause-from c = λ s h.
    let x = (get_or c.args.rays.now c.loop-i.i nothing).pair in
    let at = slice_get_read c.args.groups.now (length c.args.groups.now) x.a c.index-groups-rays.result refl (pair_low (length c.args.groups.now) c.args.rays.now c.loop-i.i nothing c.requires.pairs c.loop-i-test.true).0 c.index-groups-rays.is ∙ ap (λ (xs : List ℕ). Some xs) (sym c.as_slice-from.ensures) in
    subst (λ (n : ℕ). s < n) (sym c.loop-i.invariant.sectors) (c.requires.below x.a s (c.as_slice-from.result.now, at, h))

pub set_block-requires-clause-to : goal.set_block-requires-clause-to
set_block-requires-clause-to c = λ s h.
    let x = (get_or c.args.rays.now c.loop-i.i nothing).pair in
    let at = slice_get_read c.args.groups.now (length c.args.groups.now) x.b c.index-groups-rays-in-loop-i.result refl (pair_low (length c.args.groups.now) c.args.rays.now c.loop-i.i nothing c.requires.pairs c.loop-i-test.true).1 c.index-groups-rays-in-loop-i.is ∙ ap (λ (xs : List ℕ). Some xs) (sym c.as_slice-to.ensures) in
    subst (λ (n : ℕ). s < n) (sym c.loop-i.invariant.sectors) (c.requires.below x.b s (c.as_slice-to.result.now, at, h))

pub set_block-requires-in-loop-i-clause-from : goal.set_block-requires-in-loop-i-clause-from
set_block-requires-in-loop-i-clause-from c = λ s h.
    let x = (get_or c.args.rays.now c.loop-i.i nothing).pair in
    let at = slice_get_read c.args.groups.now (length c.args.groups.now) x.b c.index-groups-rays-in-loop-i.result refl (pair_low (length c.args.groups.now) c.args.rays.now c.loop-i.i nothing c.requires.pairs c.loop-i-test.true).1 c.index-groups-rays-in-loop-i.is ∙ ap (λ (xs : List ℕ). Some xs) (sym c.as_slice-to.ensures) in
    subst (λ (n : ℕ). s < n) (sym (c.set_block.ensures.sectors ∙ c.loop-i.invariant.sectors)) (c.requires.below x.b s (c.as_slice-to.result.now, at, h))

pub set_block-requires-in-loop-i-clause-to : goal.set_block-requires-in-loop-i-clause-to
set_block-requires-in-loop-i-clause-to c = λ s h.
    let x = (get_or c.args.rays.now c.loop-i.i nothing).pair in
    let at = slice_get_read c.args.groups.now (length c.args.groups.now) x.a c.index-groups-rays.result refl (pair_low (length c.args.groups.now) c.args.rays.now c.loop-i.i nothing c.requires.pairs c.loop-i-test.true).0 c.index-groups-rays.is ∙ ap (λ (xs : List ℕ). Some xs) (sym c.as_slice-from.ensures) in
    subst (λ (n : ℕ). s < n) (sym (c.set_block.ensures.sectors ∙ c.loop-i.invariant.sectors)) (c.requires.below x.a s (c.as_slice-from.result.now, at, h))

pub loop-i-preserved : goal.loop-i-preserved
loop-i-preserved c =
    let x = (get_or c.args.rays.now c.loop-i.i nothing).pair in
    let below = pair_low (length c.args.groups.now) c.args.rays.now c.loop-i.i nothing c.requires.pairs c.loop-i-test.true in
    let at_a : slice_get c.args.groups.now x.a ≡ Some c.as_slice-from.result.now = slice_get_read c.args.groups.now (length c.args.groups.now) x.a c.index-groups-rays.result refl below.0 c.index-groups-rays.is ∙ ap (λ (xs : List ℕ). Some xs) (sym c.as_slice-from.ensures) in
    let at_b : slice_get c.args.groups.now x.b ≡ Some c.as_slice-to.result.now = slice_get_read c.args.groups.now (length c.args.groups.now) x.b c.index-groups-rays-in-loop-i.result refl below.1 c.index-groups-rays-in-loop-i.is ∙ ap (λ (xs : List ℕ). Some xs) (sym c.as_slice-to.ensures) in
    sets_next (ListedStep c.args.groups.now (map pair_of_ray c.args.rays.now)) c.loop-i.i c.args.marks.now c.loop-i.marks c.set_block-in-loop-i.new.table c.loop-i.invariant
    (listed_step c.args.groups.now (map pair_of_ray c.args.rays.now) c.loop-i.i x c.as_slice-from.result.now c.as_slice-to.result.now c.loop-i.marks c.set_block.new.table c.set_block-in-loop-i.new.table (pair_there c.args.rays.now c.loop-i.i nothing c.loop-i-test.true) at_a at_b c.set_block.ensures c.set_block-in-loop-i.ensures)

pub returns : goal.returns
returns c =
    let pairs = map pair_of_ray c.args.rays.now in
    let l = length-map c.args.rays.now pair_of_ray in
    let e : c.loop-i.i ≡ length pairs = omega (arith, l) in
    listed_set c.args.groups.now pairs c.args.marks.now c.loop-i.marks (subst (λ (n : ℕ). SetsMore (OfSteps (ListedStep c.args.groups.now pairs) n) c.args.marks.now c.loop-i.marks) e c.loop-i.invariant)
