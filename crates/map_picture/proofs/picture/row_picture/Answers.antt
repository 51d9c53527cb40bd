use Rattle.std.proofs.Common.{ℕ, List, Option, map}
use Rattle.sight_names.specs.Map.{map_of}
use Rattle.map_picture.specs.declared.sheet.Subject.TheVariants as subject
use Rattle.map_picture.specs.declared.rings.Letter.TheVariants as letter
use Rattle.map_picture.specs.Picture.{faces_from, ring_of, row_picture, row_tint}
use Rattle.map_picture.proofs.Drawn.{drawn_on, framed, labelled, tinted}
use Rattle.map_picture.proofs.picture.row_picture.Goals as goal

pub returns : goal.returns
returns c =
    let m = map_of c.args.plan.now in
    let f = c.frame_of-frame.result in
    let ts = c.args.mesh.now.triangles in
    let ls = c.args.labels.now in
    let gs = c.args.groups.now in
    let ring = labelled f m (λ (l : List (Option ℕ)). ring_of m gs ts l letter.A c.args.a) _ _ _ _ c.as_slice.ensures c.in_ok-push_ring_of.ensures in
    let made = drawn_on f c.args.name.now (subject.Row c.args.a) m (faces_from ts ls 0 (map (row_tint c.args.table.now c.args.a) gs) gs) (ring_of m gs ts ls letter.A c.args.a) _ _ _ _
    (tinted f m c.args.name.now (subject.Row c.args.a) ts ls gs _ _ _ c.in_ok-tints.ensures c.in_ok-out.ensures) c.in_ok-push_lines.ensures ring (c.in_ok-push_foot.ensures f m) in
    framed c.args.plan.now f _ (row_picture c.args.name.now m gs ts ls c.args.table.now c.args.a) _ c.points.ensures.plan c.frame_of-frame.ensures c.points.ensures.list made
