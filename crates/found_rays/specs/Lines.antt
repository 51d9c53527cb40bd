-- Rays for the same pairs.
use Rattle.sight_names.specs.declared.names.Pair.{Pair}
use Rattle.sight_names.specs.declared.names.PairRay.{PairRay}

abbrev pub pair_of_ray : PairRay → Pair
pair_of_ray r = r.pair
