use Rattle.found_rays.proofs.Judging.{all_found}
use Rattle.found_rays.proofs.judged.are_found.Goals as goal

pub returns-then-have_ordered_pairs : goal.returns-then-have_ordered_pairs
returns-then-have_ordered_pairs c = λ t. all_found c.args.over.now.plan c.args.rays.now (c.have_ordered_pairs.ensures.0 c.if-have_ordered_pairs.true) (c.are_sight_rays.ensures t)
