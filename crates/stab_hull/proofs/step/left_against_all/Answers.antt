use Rattle.std.proofs.Common.{refl, arith, subst}
use Rattle.std.proofs.lemmas.Int.{ints}
use Rattle.geom_exact.specs.declared.extreme_lines.cone.Cone.{Cone}
use Rattle.stab_hull.specs.Chains.{kept_ends}
use Rattle.stab_hull.specs.Stacks.{IsConeOfEnds}
use Rattle.stab_hull.proofs.step.left_against_all.Goals as goal

pub second_to_left-requires : goal.second_to_left-requires
second_to_left-requires c = record { cone = (c.requires.cone.0, subst (λ (d : Cone). IsConeOfEnds c.requires.cone.0 (kept_ends c.args.rights.now) d) c.in-Open.is c.requires.cone.1); beyond = (let v = c.value.ensures.value in let t = c.if-value-gt0.true in omega (arith, ints)) }

pub first_to_left-requires : goal.first_to_left-requires
first_to_left-requires c = record { again = refl; steps = c.requires.steps; cone = (c.requires.cone.0, subst (λ (d : Cone). IsConeOfEnds c.requires.cone.0 (kept_ends c.args.rights.now) d) c.in-Open.is c.requires.cone.1); beyond = (let v = c.value-in-Open.ensures.value in let t = c.if-value-lt0.true in omega (arith, ints)) }

pub returns-then-value-gt0 : goal.returns-then-value-gt0
returns-then-value-gt0 c = λ lefts h. c.second_to_left.ensures lefts (subst (λ (d : Cone). IsConeOfEnds lefts (kept_ends c.args.rights.now) d) c.in-Open.is h)

pub returns-then-value-lt0 : goal.returns-then-value-lt0
returns-then-value-lt0 c = λ lefts h. c.first_to_left.ensures lefts (subst (λ (d : Cone). IsConeOfEnds lefts (kept_ends c.args.rights.now) d) c.in-Open.is h)
