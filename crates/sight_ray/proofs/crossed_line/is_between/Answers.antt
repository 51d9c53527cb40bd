use Rattle.sight_ray.proofs.HitLemmas.{two_sides, match_turned, between_hits, early_clears, late_clears}
use Rattle.sight_ray.proofs.crossed_line.is_between.Goals as goal

pub is_behind-requires-clause-first : goal.is_behind-requires-clause-first
is_behind-requires-clause-first c = two_sides _ _ c.requires.start_split

pub returns-then-is_behind : goal.returns-then-is_behind
returns-then-is_behind c = early_clears c.args.ray.now c.args.start c.args.stop c.args.p c.args.q c.requires.forward c.if-is_behind.ensures

pub is_behind-requires-2-clause-second : goal.is_behind-requires-2-clause-second
is_behind-requires-2-clause-second c = two_sides _ _ c.requires.stop_split

pub returns : goal.returns
returns c =
    match_turned c.is_behind-2.result _ _ _ _
    (late_clears c.args.ray.now c.args.start c.args.stop c.args.p c.args.q c.requires.forward)
    (between_hits c.args.ray.now c.args.start c.args.stop c.args.p c.args.q c.requires.start_split c.requires.split c.if-is_behind.ensures)
    c.is_behind-2.ensures
