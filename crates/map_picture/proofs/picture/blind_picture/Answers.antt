use Rattle.std.proofs.Common.{[], ◌∷◌, ◌++◌}
use Rattle.sight_names.specs.Map.{map_of}
use Rattle.map_picture.specs.declared.sheet.Subject.TheVariants as subject
use Rattle.map_picture.specs.Picture.{Entered, Stops, blind_picture, triangles_with_numbers, pair_faces, pair_rings}
use Rattle.map_picture.proofs.Drawn.{alone, drawn_on, entered_on, framed, two_over}
use Rattle.map_picture.proofs.picture.blind_picture.Goals as goal

pub returns : goal.returns
returns c =
    let m = map_of c.args.plan.now in
    let f = c.frame_of-frame.result in
    let ts = c.args.mesh.now.triangles in
    let ls = c.args.labels.now in
    let gs = c.args.groups.now in
    let faces = pair_faces gs ts ls c.args.pair.a c.args.pair.b in
    let entered = Entered c.args.sector (triangles_with_numbers ts c.args.entered.now) in
    let ground = entered_on f c.args.name.now (subject.Pair c.args.pair.a c.args.pair.b) m faces entered _ _ c.in_ok-out.ensures c.in_ok-push_entered.ensures in
    let stops = alone f m (Stops c.args.stops.now) _ _ c.in_ok-push_stops.ensures in
    let over = two_over f m (Stops c.args.stops.now ∷ []) (pair_rings m gs ts ls c.args.pair.a c.args.pair.b) _ _ _ stops c.in_ok-push_rings.ensures in
    let made = drawn_on f c.args.name.now (subject.Pair c.args.pair.a c.args.pair.b) m (faces ++ entered ∷ []) (Stops c.args.stops.now ∷ [] ++ pair_rings m gs ts ls c.args.pair.a c.args.pair.b) _ _ _ _ ground c.in_ok-push_lines.ensures over (c.in_ok-push_foot.ensures f m) in
    framed c.args.plan.now f _ (blind_picture c.args.name.now m gs ts ls c.args.pair.a c.args.pair.b c.args.sector c.args.entered.now c.args.stops.now) _ c.points.ensures.plan c.frame_of-frame.ensures c.points.ensures.list made
