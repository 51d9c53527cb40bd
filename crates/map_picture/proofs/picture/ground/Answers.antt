use Rattle.std.proofs.Common.{ℕ, List, ◌++◌, Option, ◌∙◌, ap}
use Rattle.sight_names.specs.Map.{map_of}
use Rattle.map_picture.specs.Bytes.{spelled_picture}
use Rattle.map_picture.specs.Picture.{faces_from}
use Rattle.map_picture.proofs.Drawn.{begun}
use Rattle.map_picture.proofs.picture.ground.Goals as goal

pub returns : goal.returns
returns c =
    let m = map_of c.args.plan.now in
    let f = c.args.frame in
    let ts = c.args.mesh.now.triangles in
    let under = λ (ls : List (Option ℕ)). c.push_sheet.new.out.items ++ spelled_picture f m (faces_from ts ls 0 c.args.tints.items c.args.groups.now) in
    let faces = c.in_ok-push_faces.ensures ∙ ap under c.as_slice-2.ensures in
    begun f c.args.name.now c.args.about m _ _ _ _ c.new-out.ensures.items (c.in_ok-push_sheet.ensures m) faces
