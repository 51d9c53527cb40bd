use Rattle.std.proofs.Common.{◌<◌, length, ap, arith, List}
use Rattle.sight_names.specs.Map.{map_of}
use Rattle.map_picture.specs.Bytes.{spelled_picture}
use Rattle.map_picture.specs.Picture.{Element}
use Rattle.map_picture.proofs.Drawn.{face_made, faces_more}
use Rattle.map_picture.proofs.Pushes.{stepped}
use Rattle.map_picture.proofs.faces.push_faces.Goals as goal

pub loop-g-preserved : goal.loop-g-preserved
loop-g-preserved c =
    let in_groups : c.loop-g.g < length c.args.groups.now = c.loop-g-test.true in
    let in_tints : c.loop-g.g < length c.args.faces.now.tints.items = omega (arith, c.requires.tints, in_groups) in
    let made = face_made c.args.frame (map_of c.args.plan.now) c.index-tint.result.now c.loop-g.g c.index-groups-g.result _ _ c.loop-g.out.items _ _ _ c.as_slice.ensures
    c.in_ok-push_begun.ensures c.in_ok-push_triangles.ensures c.in_ok-push_title.ensures in
    let more = faces_more c.args.mesh.now.triangles c.args.labels.now c.loop-g.g c.args.faces.now.tints.items c.args.groups.now c.index-tint.result.now c.index-groups-g.result in_tints in_groups c.index-tint.ensures c.index-groups-g.is in
    stepped _ _ _ _ _ _ made (ap (λ (es : List Element). spelled_picture c.args.frame (map_of c.args.plan.now) es) more) c.loop-g.invariant
