use Rattle.std.proofs.Common.{inr, refl, arith}
use Rattle.sight_names.specs.Map.{map_of}
use Rattle.map_audit.proofs.SweepLemmas.{heights_fine, swapped}
use Rattle.map_faults.proofs.clashes.add_if_clash.Goals as goal

pub returns-then-other-one : goal.returns-then-other-one
returns-then-other-one c = inr (λ lt. absurd (let h = c.if-other-one.true in omega arith), refl)

pub returns-then-ends_below : goal.returns-then-ends_below
returns-then-ends_below c = inr (λ lt. heights_fine c.args.plan.now c.args.one c.args.other c.requires.one c.requires.other (c.ends_below.ensures.0 c.if-ends_below.true), refl)

pub returns-then-ends_below-2 : goal.returns-then-ends_below-2
returns-then-ends_below-2 c = inr (λ lt. swapped (map_of c.args.plan.now) c.args.other.line c.args.one.line (heights_fine c.args.plan.now c.args.other c.args.one c.requires.other c.requires.one (c.ends_below-2.ensures.0 c.if-ends_below-2.true)), refl)
