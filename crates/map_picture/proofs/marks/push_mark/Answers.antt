use Rattle.std.proofs.Common.{◌∙◌, Option, option_map, ap, sym}
use Rattle.sight_names.specs.Map.{MapLine, looked_up}
use Rattle.mesh_base.proofs.SightLaws.Plans.{line_at_is}
use Rattle.map_picture.specs.Bytes.{mark_over}
use Rattle.map_picture.proofs.FirstElements.{same_words}
use Rattle.map_picture.proofs.marks.push_mark.Goals as goal

pub returns : goal.returns
returns c =
    let p = c.args.plan.now in
    same_words c.push_over.result _ _ _ _ (ap (λ (o : Option MapLine). mark_over c.args.frame o) (ap (option_map (looked_up p.points)) c.line.ensures.entry ∙ sym (line_at_is p c.args.i))) c.push_over.ensures
