use Rattle.std.proofs.Common.{refl, arith, subst}
use Rattle.std.proofs.lemmas.Int.{ints}
use Rattle.geom_exact.specs.declared.extreme_lines.cone.Cone.{Cone}
use Rattle.stab_hull.specs.Chains.{kept_ends}
use Rattle.stab_hull.specs.Stacks.{IsConeOfEnds}
use Rattle.stab_hull.proofs.step.right_against_all.Goals as goal

pub second_to_right-requires : goal.second_to_right-requires
second_to_right-requires c = record { again = refl; steps = c.requires.steps; cone = (c.requires.cone.0, subst (λ (d : Cone). IsConeOfEnds (kept_ends c.args.lefts.now) c.requires.cone.0 d) c.in-Open.is c.requires.cone.1); beyond = (let v = c.value.ensures.value in let t = c.if-value-lt0.true in omega (arith, ints)) }

pub first_to_right-requires : goal.first_to_right-requires
first_to_right-requires c = record { cone = (c.requires.cone.0, subst (λ (d : Cone). IsConeOfEnds (kept_ends c.args.lefts.now) c.requires.cone.0 d) c.in-Open.is c.requires.cone.1); beyond = (let v = c.value-in-Open.ensures.value in let t = c.if-value-gt0.true in omega (arith, ints)) }

pub returns-then-value-lt0 : goal.returns-then-value-lt0
returns-then-value-lt0 c = λ rights h. c.second_to_right.ensures rights (subst (λ (d : Cone). IsConeOfEnds (kept_ends c.args.lefts.now) rights d) c.in-Open.is h)

pub returns-then-value-gt0 : goal.returns-then-value-gt0
returns-then-value-gt0 c = λ rights h. c.first_to_right.ensures rights (subst (λ (d : Cone). IsConeOfEnds (kept_ends c.args.lefts.now) rights d) c.in-Open.is h)
