use Rattle.sight_names.specs.Map.{map_of, looked_up}
use Rattle.mesh_base.proofs.SightLaws.Plans.{line_there, no_line_there}
use Rattle.sight_ray.proofs.HitLemmas.{hit_or_clear, none_clear}
use Rattle.sight_ray.proofs.CrossedLineLemmas.{not_false}
use Rattle.sight_ray.proofs.crossed_line.is_hit_at.Goals as goal

pub returns-else-not-line : goal.returns-else-not-line
returns-else-not-line c =
    let h = c.in-Some.ensures in
    hit_or_clear (map_of c.args.plan.now) c.args.ray.now c.args.start c.args.stop c.args.number (looked_up c.args.plan.now.points c.in-Some.line) c.ends_of.result.0 c.ends_of.result.1 c.is_hit.result
    (line_there c.args.plan.now c.args.number c.in-Some.line h.entry) (not_false _ c.if-not-line.false) c.ends_of.ensures.first c.ends_of.ensures.second c.is_hit.ensures

pub returns-in-None : goal.returns-in-None
returns-in-None c = let h = c.in-None.ensures in none_clear (map_of c.args.plan.now) c.args.ray.now c.args.start c.args.stop c.args.number (no_line_there c.args.plan.now c.args.number h.entry)
