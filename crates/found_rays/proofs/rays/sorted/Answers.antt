use Rattle.std.proofs.Common.{rules}
use Rattle.std.proofs.lemmas.List.Sorted.{answers_always}
use Rattle.sight_names.specs.declared.names.PairRay.{PairRay}
use Rattle.found_rays.proofs.rays.sorted.Goals as goal

pub returns-clause-sorted : goal.returns-clause-sorted
returns-clause-sorted c = c.in_ok-sort_by_key.ensures.sorted (λ (r : PairRay). r.pair) (answers_always _ _ _ (λ f a r g h. search rules))
