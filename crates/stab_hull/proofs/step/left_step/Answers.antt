use Rattle.std.proofs.Common.{refl, arith, subst}
use Rattle.std.proofs.lemmas.Int.{ints}
use Rattle.geom_exact.specs.declared.extreme_lines.cone.Cone.{Cone}
use Rattle.stab_hull.specs.Chains.{kept_ends}
use Rattle.stab_hull.specs.Stacks.{IsConeOfEnds}
use Rattle.stab_hull.proofs.TwoForms.{left_same, left_no_line}
use Rattle.stab_hull.proofs.step.left_step.Goals as goal

pub first_to_left-requires : goal.first_to_left-requires
first_to_left-requires c = record { again = refl; steps = c.requires.steps; cone = (c.requires.cone.0, subst (λ (d : Cone). IsConeOfEnds c.requires.cone.0 (kept_ends c.args.rights.now) d) c.in-Open.is c.requires.cone.1); beyond = (let v = c.value.ensures.value in let t = c.if-value-lt0.true in omega (arith, ints)) }

pub returns-then-of_first-gt0 : goal.returns-then-of_first-gt0
returns-then-of_first-gt0 c = λ lefts h.
    let v = c.value.ensures.value in
    let u = c.value-of_first.ensures.value in
    let s = c.if-value-lt0.true in
    let t = c.if-of_first-gt0.true in
    left_same lefts (kept_ends c.args.rights.now) c.args.left c.args.cone.now c.in-Open.wedge c.in-Open.is (omega (arith, ints)) (omega (arith, ints)) h

pub returns-then-value-lt0 : goal.returns-then-value-lt0
returns-then-value-lt0 c = λ lefts h. c.first_to_left.ensures lefts (subst (λ (d : Cone). IsConeOfEnds lefts (kept_ends c.args.rights.now) d) c.in-Open.is h)

pub returns-then-of_first-value : goal.returns-then-of_first-value
returns-then-of_first-value c = λ lefts h.
    let v = c.value.ensures.value in
    let u = c.value-of_first.ensures.value in
    let x = c.value-in-Open.ensures.value in
    let s = c.if-value-lt0.false in
    let t = c.if-of_first-value.true in
    left_no_line lefts (kept_ends c.args.rights.now) c.args.left c.args.cone.now c.in-Open.wedge c.in-Open.is c.pairs.result (omega (arith, ints)) (omega (arith, ints)) c.pairs.ensures h
