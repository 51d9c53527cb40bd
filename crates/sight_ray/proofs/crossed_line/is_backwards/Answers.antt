use Rattle.sight_ray.proofs.HitLemmas.{two_sides}
use Rattle.sight_ray.proofs.crossed_line.is_backwards.Goals as goal

pub is_behind-requires-clause-first : goal.is_behind-requires-clause-first
is_behind-requires-clause-first c = two_sides _ _ c.requires.start_split

pub is_behind-requires-clause-second : goal.is_behind-requires-clause-second
is_behind-requires-clause-second c = two_sides _ _ c.requires.stop_split
