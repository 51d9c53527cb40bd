use Rattle.std.proofs.Common.{◌≡◌, ◌<◌, ◌∙◌, ℕ, length, get_or, sym, subst, arith}
use Rattle.std.proofs.lemmas.Option.{slice_get-get_or}
use Rattle.group_job.specs.Marks.{SetsMore, OfSteps}
use Rattle.sight_names.specs.declared.names.Pair.{Pair}
use Rattle.face_groups.proofs.GroupsBase.Ordered.{at_contains}
use Rattle.group_job.proofs.Marks.{sets_next, sets_one, sets_then}
use Rattle.group_job.proofs.Steps.{PairStep, pair_step, pairs_set}
use Rattle.group_job.proofs.sectors.set_pairs.Goals as goal

pub set-requires-clause-from : goal.set-requires-clause-from
set-requires-clause-from c =
    let d : Pair = record { a = 0; b = 0 } in
    let x = get_or c.args.pairs.now c.loop-i.i d in
    subst (λ (n : ℕ). x.a < n) (sym c.loop-i.invariant.sectors) (c.requires x (at_contains c.args.pairs.now x (c.loop-i.i, slice_get-get_or c.args.pairs.now c.loop-i.i d c.loop-i-test.true))).0

pub set-requires-clause-to : goal.set-requires-clause-to
set-requires-clause-to c =
    let d : Pair = record { a = 0; b = 0 } in
    let x = get_or c.args.pairs.now c.loop-i.i d in
    subst (λ (n : ℕ). x.b < n) (sym c.loop-i.invariant.sectors) (c.requires x (at_contains c.args.pairs.now x (c.loop-i.i, slice_get-get_or c.args.pairs.now c.loop-i.i d c.loop-i-test.true))).1

pub set-requires-in-loop-i-clause-from : goal.set-requires-in-loop-i-clause-from
set-requires-in-loop-i-clause-from c =
    let d : Pair = record { a = 0; b = 0 } in
    let x = get_or c.args.pairs.now c.loop-i.i d in
    subst (λ (n : ℕ). x.b < n) (sym (c.set.ensures.bit.sectors ∙ c.loop-i.invariant.sectors)) (c.requires x (at_contains c.args.pairs.now x (c.loop-i.i, slice_get-get_or c.args.pairs.now c.loop-i.i d c.loop-i-test.true))).1

pub set-requires-in-loop-i-clause-to : goal.set-requires-in-loop-i-clause-to
set-requires-in-loop-i-clause-to c =
    let d : Pair = record { a = 0; b = 0 } in
    let x = get_or c.args.pairs.now c.loop-i.i d in
    subst (λ (n : ℕ). x.a < n) (sym (c.set.ensures.bit.sectors ∙ c.loop-i.invariant.sectors)) (c.requires x (at_contains c.args.pairs.now x (c.loop-i.i, slice_get-get_or c.args.pairs.now c.loop-i.i d c.loop-i-test.true))).0

pub loop-i-preserved : goal.loop-i-preserved
loop-i-preserved c =
    let d : Pair = record { a = 0; b = 0 } in
    let x = get_or c.args.pairs.now c.loop-i.i d in
    sets_next (PairStep c.args.pairs.now) c.loop-i.i c.args.table.now c.loop-i.table c.set-in-loop-i.new.self c.loop-i.invariant
    (pair_step c.args.pairs.now c.loop-i.i x c.loop-i.table c.set-in-loop-i.new.self (slice_get-get_or c.args.pairs.now c.loop-i.i d c.loop-i-test.true)
    (sets_then (λ u v. (u ≡ x.a) × (v ≡ x.b)) (λ u v. (u ≡ x.b) × (v ≡ x.a)) c.loop-i.table c.set.new.self c.set-in-loop-i.new.self
    (sets_one c.loop-i.table c.set.new.self x.a x.b c.set.ensures.bit c.set.ensures.pairs)
    (sets_one c.set.new.self c.set-in-loop-i.new.self x.b x.a c.set-in-loop-i.ensures.bit c.set-in-loop-i.ensures.pairs)))

pub returns : goal.returns
returns c =
    let e : c.loop-i.i ≡ length c.args.pairs.now = omega arith in
    pairs_set c.args.pairs.now c.args.table.now c.loop-i.table (subst (λ (n : ℕ). SetsMore (OfSteps (PairStep c.args.pairs.now) n) c.args.table.now c.loop-i.table) e c.loop-i.invariant)
