use Rattle.sight_names.specs.Map.{map_of, looked_up}
use Rattle.mesh_base.proofs.SightLaws.Plans.{line_there}
use Rattle.sight_ray.proofs.CrossedLineLemmas.{crossed_line_or_none}
use Rattle.sight_ray.proofs.crossed_line.crossed_line_of.Goals as goal

pub returns : goal.returns
returns c =
    let h = c.in_ok-line.ensures in
    crossed_line_or_none (map_of c.args.plan.now) c.args.ray.now c.args.side (looked_up c.args.plan.now.points c.in_ok-line.line) c.crossed_line_between.result c.ends_of.result.0 c.ends_of.result.1
    (line_there c.args.plan.now c.args.side.line c.in_ok-line.line h.entry) c.ends_of.ensures.first c.ends_of.ensures.second c.crossed_line_between.ensures
