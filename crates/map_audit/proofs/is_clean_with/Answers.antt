use Rattle.sight_names.specs.Map.{map_of}
use Rattle.map_audit.proofs.SweepLemmas.{heights_fine, swapped}
use Rattle.map_audit.proofs.is_clean_with.Goals as goal

pub returns-then-ends_below : goal.returns-then-ends_below
returns-then-ends_below c = λ t. heights_fine c.args.plan.now c.args.one c.args.other c.requires.one c.requires.other (c.ends_below.ensures.0 c.if-ends_below.true)

pub returns-then-ends_below-2 : goal.returns-then-ends_below-2
returns-then-ends_below-2 c = λ t. swapped (map_of c.args.plan.now) c.args.other.line c.args.one.line (heights_fine c.args.plan.now c.args.other c.args.one c.requires.other c.requires.one (c.ends_below-2.ensures.0 c.if-ends_below-2.true))
