use Rattle.std.proofs.Common.{[], ◌∷◌}
use Rattle.sight_names.specs.Map.{map_of}
use Rattle.map_picture.specs.declared.sheet.Subject.TheVariants as subject
use Rattle.map_picture.specs.Picture.{Legend, faces_from, heat_picture, heat_tints, most_of}
use Rattle.map_picture.proofs.Drawn.{drawn_on, framed, heated, legend_on}
use Rattle.map_picture.proofs.picture.heat_picture.Goals as goal

pub returns : goal.returns
returns c =
    let m = map_of c.args.plan.now in
    let f = c.frame_of-frame.result in
    let ts = c.args.mesh.now.triangles in
    let ls = c.args.labels.now in
    let gs = c.args.groups.now in
    let made = drawn_on f c.args.name.now subject.Heat m (faces_from ts ls 0 (heat_tints c.args.counts.now (most_of c.args.counts.now)) gs) (Legend (most_of c.args.counts.now) ∷ []) _ _ _ _
    (heated f m c.args.name.now ts ls gs c.args.counts.now _ _ _ c.most_of-most.ensures c.in_ok-tints.ensures c.in_ok-out.ensures) c.in_ok-push_lines.ensures
    (legend_on f m _ _ _ _ _ c.sizes_of.ensures.sizes c.most_of-most.ensures c.in_ok-push_legend.ensures) (c.in_ok-push_foot.ensures f m) in
    framed c.args.plan.now f _ (heat_picture c.args.name.now m gs ts ls c.args.counts.now) _ c.points.ensures.plan c.frame_of-frame.ensures c.points.ensures.list made
