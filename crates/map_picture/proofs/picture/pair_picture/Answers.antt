use Rattle.sight_names.specs.Map.{map_of}
use Rattle.map_picture.specs.declared.sheet.Subject.TheVariants as subject
use Rattle.map_picture.specs.Picture.{pair_faces, pair_picture, pair_rings}
use Rattle.map_picture.proofs.Drawn.{drawn_on, framed}
use Rattle.map_picture.proofs.picture.pair_picture.Goals as goal

pub returns : goal.returns
returns c =
    let m = map_of c.args.plan.now in
    let f = c.frame_of-frame.result in
    let ts = c.args.mesh.now.triangles in
    let ls = c.args.labels.now in
    let gs = c.args.groups.now in
    let made = drawn_on f c.args.name.now (subject.Pair c.args.pair.a c.args.pair.b) m (pair_faces gs ts ls c.args.pair.a c.args.pair.b) (pair_rings m gs ts ls c.args.pair.a c.args.pair.b) _ _ _ _
    c.in_ok-out.ensures c.in_ok-push_lines.ensures c.in_ok-push_rings.ensures (c.in_ok-push_foot.ensures f m) in
    framed c.args.plan.now f _ (pair_picture c.args.name.now m gs ts ls c.args.pair.a c.args.pair.b) _ c.points.ensures.plan c.frame_of-frame.ensures c.points.ensures.list made
