use Rattle.std.proofs.Common.{◌≡◌, ◌∙◌, ℕ, get_or, slice_get, Some, false, refl, sym, ap, arith}
use Rattle.std.proofs.lemmas.Option.{same_Some, slice_get-get_or}
use Rattle.math_base.proofs.Bools.{not_both_values}
use Rattle.sight_names.proofs.Lists.{contains_of_get}
use Rattle.pair_answer.proofs.Numbers.{none_all, none_next}
use Rattle.pair_answer.proofs.places.is_joined.Goals as goal

pub bounds-components-others : goal.bounds-components-others
bounds-components-others c = let x = get_or c.args.others.now c.loop-i.i 0 in c.requires.others x (contains_of_get c.args.others.now x c.loop-i.i (slice_get-get_or c.args.others.now c.loop-i.i 0 c.loop-i-test.true))

pub returns-then-components-others : goal.returns-then-components-others
returns-then-components-others c =
    let x = get_or c.args.others.now c.loop-i.i 0 in
    let there = contains_of_get c.args.others.now x c.loop-i.i (slice_get-get_or c.args.others.now c.loop-i.i 0 c.loop-i-test.true) in
    (λ t. (x, there, slice_get-get_or c.args.components.now x 0 (c.requires.others x there) ∙ ap Some c.if-components-others.true ∙ sym (slice_get-get_or c.args.components.now c.args.group 0 c.requires.group)), λ j. refl)

pub loop-i-preserved : goal.loop-i-preserved
loop-i-preserved c =
    let x = get_or c.args.others.now c.loop-i.i 0 in
    let at = slice_get-get_or c.args.others.now c.loop-i.i 0 c.loop-i-test.true in
    let there = contains_of_get c.args.others.now x c.loop-i.i at in
    none_next c.loop-i.i c.args.others.now (λ (k : ℕ). slice_get c.args.components.now k ≡ slice_get c.args.components.now c.args.group) x at c.loop-i.invariant
    (λ e. c.if-components-others.false (same_Some _ _ (sym (slice_get-get_or c.args.components.now x 0 (c.requires.others x there)) ∙ e ∙ slice_get-get_or c.args.components.now c.args.group 0 c.requires.group)))

pub returns : goal.returns
returns c = (λ t. absurd (not_both_values false t refl), λ j. absurd (none_all c.loop-i.i c.args.others.now (λ (k : ℕ). slice_get c.args.components.now k ≡ slice_get c.args.components.now c.args.group) (omega arith) c.loop-i.invariant j.0 j.1 j.2))
