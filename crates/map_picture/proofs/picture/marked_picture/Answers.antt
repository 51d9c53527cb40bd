use Rattle.std.proofs.Common.{[], ◌∷◌, ◌++◌, sym}
use Rattle.std.proofs.lemmas.List.{append-nil}
use Rattle.sight_names.specs.Map.{map_of}
use Rattle.map_picture.specs.declared.sheet.Subject.TheVariants as subject
use Rattle.map_picture.specs.Picture.{Marked, arrows_from, faults_from, marked_picture}
use Rattle.map_picture.proofs.Drawn.{alone, drawn, framed, two_over}
use Rattle.map_picture.proofs.Marking.{arrows_on, rings_on}
use Rattle.map_picture.proofs.picture.marked_picture.Goals as goal

pub returns : goal.returns
returns c =
    let m = map_of c.args.plan.now in
    let f = c.frame_of-frame.result in
    let about = subject.Faults c.args.left_out in
    let lines = Marked c.args.marks.now ∷ [] in
    let marked = Marked c.args.marks.now ∷ faults_from c.args.name.now.places c.args.faults.now in
    let marks = alone f m (Marked c.args.marks.now) _ _ c.in_ok-push_marks.ensures in
    let rings = rings_on f m c.args.name.now.places c.args.faults.now _ _ c.in_ok-push_named_faults.ensures in
    let arrows = arrows_on f c.args.plan.now c.args.name.now.places c.args.arrows.now _ _ c.points.ensures.plan c.in_ok-push_named_arrows.ensures in
    let over = two_over f m marked (arrows_from c.args.name.now.places c.args.arrows.now) _ _ _ (two_over f m lines (faults_from c.args.name.now.places c.args.faults.now) _ _ _ marks rings) arrows in
    let made = drawn f c.args.name.now about m [] (marked ++ arrows_from c.args.name.now.places c.args.arrows.now) _ _ _ _ _ _ c.new-out.ensures.items (c.in_ok-push_sheet.ensures m) (sym (append-nil c.push_sheet.new.out.items))
    c.in_ok-push_lines.ensures over (c.in_ok-push_foot.ensures f m) in
    framed c.args.plan.now f _ (marked_picture c.args.name.now m c.args.left_out c.args.marks.now c.args.faults.now c.args.arrows.now) _ c.points.ensures.plan c.frame_of-frame.ensures c.points.ensures.list made
