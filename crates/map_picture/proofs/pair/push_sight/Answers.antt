use Rattle.sight_names.specs.Map.{looked_up, map_of}
use Rattle.mesh_base.proofs.SightLaws.Plans.{line_there}
use Rattle.map_picture.proofs.FirstElements.{same_words}
use Rattle.map_picture.proofs.Sights.{first_parted, last_parted, sight_spelled}
use Rattle.map_picture.proofs.pair.push_sight.Goals as goal

pub push_ray-requires-clause-leaves : goal.push_ray-requires-clause-leaves
push_ray-requires-clause-leaves c =
    first_parted (map_of c.args.plan.now) c.args.ray.now c.requires.0 c.requires.1 c.requires.2 (looked_up c.args.plan.now.points c.in-Some.first)
    (line_there c.args.plan.now c.args.ray.now.first.line c.in-Some.first c.in-Some.ensures.entry)

pub push_ray-requires-clause-arrives : goal.push_ray-requires-clause-arrives
push_ray-requires-clause-arrives c =
    last_parted (map_of c.args.plan.now) c.args.ray.now c.requires.0 c.requires.1 c.requires.2 (looked_up c.args.plan.now.points c.in-Some-line.last)
    (line_there c.args.plan.now c.args.ray.now.last.line c.in-Some-line.last c.in-Some-line.ensures.entry)

pub returns : goal.returns
returns c =
    same_words c.push_ray.result _ _ _ _
    (sight_spelled c.args.frame (map_of c.args.plan.now) c.args.ray.now (looked_up c.args.plan.now.points c.in-Some.first) (looked_up c.args.plan.now.points c.in-Some-line.last)
    (line_there c.args.plan.now c.args.ray.now.first.line c.in-Some.first c.in-Some.ensures.entry) (line_there c.args.plan.now c.args.ray.now.last.line c.in-Some-line.last c.in-Some-line.ensures.entry))
    c.push_ray.ensures
