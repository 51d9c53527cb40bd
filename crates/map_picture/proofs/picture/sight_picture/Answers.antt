use Rattle.std.proofs.Common.{◌++◌}
use Rattle.sight_names.specs.Map.{map_of}
use Rattle.map_picture.specs.declared.sheet.Subject.TheVariants as subject
use Rattle.map_picture.specs.Picture.{pair_faces, pair_rings, sight_elements, sight_picture}
use Rattle.map_picture.proofs.Drawn.{drawn_on, framed, two_over}
use Rattle.map_picture.proofs.picture.sight_picture.Goals as goal

pub returns : goal.returns
returns c =
    let m = map_of c.args.plan.now in
    let f = c.frame_of-frame.result in
    let ts = c.args.mesh.now.triangles in
    let ls = c.args.labels.now in
    let gs = c.args.groups.now in
    let over = two_over f m (sight_elements m c.args.ray.now) (pair_rings m gs ts ls c.args.pair.a c.args.pair.b) _ _ _ c.in_ok-push_sight.ensures c.in_ok-push_rings.ensures in
    let made = drawn_on f c.args.name.now (subject.Pair c.args.pair.a c.args.pair.b) m (pair_faces gs ts ls c.args.pair.a c.args.pair.b) (sight_elements m c.args.ray.now ++ pair_rings m gs ts ls c.args.pair.a c.args.pair.b) _ _ _ _
    c.in_ok-out.ensures c.in_ok-push_lines.ensures over (c.in_ok-push_foot.ensures f m) in
    framed c.args.plan.now f _ (sight_picture c.args.name.now m gs ts ls c.args.pair.a c.args.pair.b c.args.ray.now) _ c.points.ensures.plan c.frame_of-frame.ensures c.points.ensures.list made
