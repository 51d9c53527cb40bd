use Rattle.std.proofs.Common.{refl, arith, subst}
use Rattle.std.proofs.lemmas.Int.{ints}
use Rattle.geom_exact.specs.declared.extreme_lines.cone.Cone.{Cone}
use Rattle.stab_hull.specs.Chains.{kept_ends}
use Rattle.stab_hull.specs.Stacks.{IsConeOfEnds}
use Rattle.stab_hull.proofs.TwoForms.{right_same, right_no_line}
use Rattle.stab_hull.proofs.step.right_step.Goals as goal

pub second_to_right-requires : goal.second_to_right-requires
second_to_right-requires c = record { again = refl; steps = c.requires.steps; cone = (c.requires.cone.0, subst (λ (d : Cone). IsConeOfEnds (kept_ends c.args.lefts.now) c.requires.cone.0 d) c.in-Open.is c.requires.cone.1); beyond = (let v = c.value.ensures.value in let t = c.if-value-lt0.true in omega (arith, ints)) }

pub returns-then-of_second-gt0 : goal.returns-then-of_second-gt0
returns-then-of_second-gt0 c = λ rights h.
    let v = c.value.ensures.value in
    let u = c.value-of_second.ensures.value in
    let s = c.if-value-lt0.true in
    let t = c.if-of_second-gt0.true in
    right_same (kept_ends c.args.lefts.now) rights c.args.right c.args.cone.now c.in-Open.wedge c.in-Open.is (omega (arith, ints)) (omega (arith, ints)) h

pub returns-then-value-lt0 : goal.returns-then-value-lt0
returns-then-value-lt0 c = λ rights h. c.second_to_right.ensures rights (subst (λ (d : Cone). IsConeOfEnds (kept_ends c.args.lefts.now) rights d) c.in-Open.is h)

pub returns-then-of_second-value : goal.returns-then-of_second-value
returns-then-of_second-value c = λ rights h.
    let v = c.value.ensures.value in
    let u = c.value-of_second.ensures.value in
    let x = c.value-in-Open.ensures.value in
    let s = c.if-value-lt0.false in
    let t = c.if-of_second-value.true in
    right_no_line (kept_ends c.args.lefts.now) rights c.args.right c.args.cone.now c.in-Open.wedge c.in-Open.is c.pairs.result (omega (arith, ints)) (omega (arith, ints)) c.pairs.ensures h
