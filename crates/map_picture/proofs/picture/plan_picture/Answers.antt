use Rattle.std.proofs.Common.{[], sym}
use Rattle.std.proofs.lemmas.List.{append-nil}
use Rattle.sight_names.specs.Map.{map_of}
use Rattle.map_picture.specs.declared.sheet.Subject.TheVariants as subject
use Rattle.map_picture.specs.Picture.{plan_faces, plan_picture}
use Rattle.map_picture.proofs.Drawn.{drawn_on, framed, tinted}
use Rattle.map_picture.proofs.picture.plan_picture.Goals as goal

pub returns : goal.returns
returns c =
    let m = map_of c.args.plan.now in
    let f = c.frame_of-frame.result in
    let ts = c.args.mesh.now.triangles in
    let ls = c.args.labels.now in
    let gs = c.args.groups.now in
    let made = drawn_on f c.args.name.now subject.Plan m (plan_faces gs ts ls) [] _ _ _ _
    (tinted f m c.args.name.now subject.Plan ts ls gs _ _ _ c.in_ok-tints.ensures c.in_ok-out.ensures) c.in_ok-push_lines.ensures (sym (append-nil c.push_lines.new.out.items)) (c.in_ok-push_foot.ensures f m) in
    framed c.args.plan.now f _ (plan_picture c.args.name.now m gs ts ls) _ c.points.ensures.plan c.frame_of-frame.ensures c.points.ensures.list made
