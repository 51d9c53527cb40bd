use Rattle.map_picture.proofs.Pushes.{joined, pushed}
use Rattle.map_picture.proofs.FirstElements.{same_words, sheet_spelled}
use Rattle.map_picture.proofs.sheet.push_sheet.Goals as goal

pub returns : goal.returns
returns c m =
    let title = joined _ _ _ _ _ c.in_ok-push_head.ensures c.in_ok-push_named_title.ensures in
    let style = joined _ _ _ _ _ title c.in_ok-push_style.ensures in
    let paper = joined _ _ _ _ _ style c.in_ok-push_paper.ensures in
    same_words c.push_named_scale.result _ _ _ _ (sheet_spelled c.args.frame m c.args.name.now c.args.about c.sizes_of-sizes.result c.sizes_of-sizes.ensures.sizes)
    (pushed c.push_named_scale.result _ _ _ _ _ paper c.push_named_scale.ensures)
