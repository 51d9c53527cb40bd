use Rattle.std.proofs.Common.{◌≡◌, ◌<◌, ◌∙◌, ℕ, List, length, get_or, slice_get, Some, refl, sym, ap, subst, arith}
use Rattle.std.proofs.lemmas.Option.{slice_get-get_or, slice_get_read}
use Rattle.sight_names.specs.declared.names.Pair.{Pair}
use Rattle.face_groups.proofs.GroupsBase.Ordered.{at_contains}
use Rattle.group_job.specs.Marks.{SetsMore, OfSteps}
use Rattle.group_job.specs.Sectors.{ArePairsBelow}
use Rattle.group_job.proofs.Marks.{sets_next}
use Rattle.group_job.proofs.Steps.{ListedStep, listed_set, listed_step}
use Rattle.group_job.proofs.sectors.set_listed.Goals as goal

-- the pair at this place
abbrev pair_at : List Pair → ℕ → Pair
pair_at pairs i = get_or pairs i (record { a = 0; b = 0 })

is_there : (pairs : List Pair) (i : ℕ) → i < length pairs → slice_get pairs i ≡ Some (pair_at pairs i)
is_there pairs i lt = slice_get-get_or pairs i (record { a = 0; b = 0 }) lt

low : (n : ℕ) (pairs : List Pair) (i : ℕ) → ArePairsBelow n pairs → i < length pairs → ((pair_at pairs i).a < n) × ((pair_at pairs i).b < n)
low n pairs i below lt = below (pair_at pairs i) (at_contains pairs (pair_at pairs i) (i, is_there pairs i lt))

pub bounds-groups-pairs : goal.bounds-groups-pairs
bounds-groups-pairs c = (low (length c.args.groups.now) c.args.pairs.now c.loop-i.i c.requires.pairs c.loop-i-test.true).0

pub bounds-groups-pairs-in-loop-i : goal.bounds-groups-pairs-in-loop-i
bounds-groups-pairs-in-loop-i c = (low (length c.args.groups.now) c.args.pairs.now c.loop-i.i c.requires.pairs c.loop-i-test.true).1

pub set_block-requires-clause-from : goal.set_block-requires-clause-from
set_block-requires-clause-from c = λ s h.
    let x = pair_at c.args.pairs.now c.loop-i.i in
    let at = slice_get_read c.args.groups.now (length c.args.groups.now) x.a c.index-groups-pairs.result refl (low (length c.args.groups.now) c.args.pairs.now c.loop-i.i c.requires.pairs c.loop-i-test.true).0 c.index-groups-pairs.is ∙ ap (λ (xs : List ℕ). Some xs) (sym c.as_slice-from.ensures) in
    subst (λ (n : ℕ). s < n) (sym c.loop-i.invariant.sectors) (c.requires.below x.a s (c.as_slice-from.result.now, at, h))

pub set_block-requires-clause-to : goal.set_block-requires-clause-to
set_block-requires-clause-to c = λ s h.
    let x = pair_at c.args.pairs.now c.loop-i.i in
    let at = slice_get_read c.args.groups.now (length c.args.groups.now) x.b c.index-groups-pairs-in-loop-i.result refl (low (length c.args.groups.now) c.args.pairs.now c.loop-i.i c.requires.pairs c.loop-i-test.true).1 c.index-groups-pairs-in-loop-i.is ∙ ap (λ (xs : List ℕ). Some xs) (sym c.as_slice-to.ensures) in
    subst (λ (n : ℕ). s < n) (sym c.loop-i.invariant.sectors) (c.requires.below x.b s (c.as_slice-to.result.now, at, h))

pub set_block-requires-in-loop-i-clause-from : goal.set_block-requires-in-loop-i-clause-from
set_block-requires-in-loop-i-clause-from c = λ s h.
    let x = pair_at c.args.pairs.now c.loop-i.i in
    let at = slice_get_read c.args.groups.now (length c.args.groups.now) x.b c.index-groups-pairs-in-loop-i.result refl (low (length c.args.groups.now) c.args.pairs.now c.loop-i.i c.requires.pairs c.loop-i-test.true).1 c.index-groups-pairs-in-loop-i.is ∙ ap (λ (xs : List ℕ). Some xs) (sym c.as_slice-to.ensures) in
    subst (λ (n : ℕ). s < n) (sym (c.set_block.ensures.sectors ∙ c.loop-i.invariant.sectors)) (c.requires.below x.b s (c.as_slice-to.result.now, at, h))

pub set_block-requires-in-loop-i-clause-to : goal.set_block-requires-in-loop-i-clause-to
set_block-requires-in-loop-i-clause-to c = λ s h.
    let x = pair_at c.args.pairs.now c.loop-i.i in
    let at = slice_get_read c.args.groups.now (length c.args.groups.now) x.a c.index-groups-pairs.result refl (low (length c.args.groups.now) c.args.pairs.now c.loop-i.i c.requires.pairs c.loop-i-test.true).0 c.index-groups-pairs.is ∙ ap (λ (xs : List ℕ). Some xs) (sym c.as_slice-from.ensures) in
    subst (λ (n : ℕ). s < n) (sym (c.set_block.ensures.sectors ∙ c.loop-i.invariant.sectors)) (c.requires.below x.a s (c.as_slice-from.result.now, at, h))

pub loop-i-preserved : goal.loop-i-preserved
loop-i-preserved c =
    let x = pair_at c.args.pairs.now c.loop-i.i in
    let below = low (length c.args.groups.now) c.args.pairs.now c.loop-i.i c.requires.pairs c.loop-i-test.true in
    let at_a : slice_get c.args.groups.now x.a ≡ Some c.as_slice-from.result.now = slice_get_read c.args.groups.now (length c.args.groups.now) x.a c.index-groups-pairs.result refl below.0 c.index-groups-pairs.is ∙ ap (λ (xs : List ℕ). Some xs) (sym c.as_slice-from.ensures) in
    let at_b : slice_get c.args.groups.now x.b ≡ Some c.as_slice-to.result.now = slice_get_read c.args.groups.now (length c.args.groups.now) x.b c.index-groups-pairs-in-loop-i.result refl below.1 c.index-groups-pairs-in-loop-i.is ∙ ap (λ (xs : List ℕ). Some xs) (sym c.as_slice-to.ensures) in
    sets_next (ListedStep c.args.groups.now c.args.pairs.now) c.loop-i.i c.args.marks.now c.loop-i.marks c.set_block-in-loop-i.new.table c.loop-i.invariant
    (listed_step c.args.groups.now c.args.pairs.now c.loop-i.i x c.as_slice-from.result.now c.as_slice-to.result.now c.loop-i.marks c.set_block.new.table c.set_block-in-loop-i.new.table (is_there c.args.pairs.now c.loop-i.i c.loop-i-test.true) at_a at_b c.set_block.ensures c.set_block-in-loop-i.ensures)

pub returns : goal.returns
returns c =
    let e : c.loop-i.i ≡ length c.args.pairs.now = omega arith in
    listed_set c.args.groups.now c.args.pairs.now c.args.marks.now c.loop-i.marks (subst (λ (n : ℕ). SetsMore (OfSteps (ListedStep c.args.groups.now c.args.pairs.now) n) c.args.marks.now c.loop-i.marks) e c.loop-i.invariant)
