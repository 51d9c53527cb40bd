use Rattle.map_picture.specs.Bytes.{line_title}
use Rattle.map_picture.proofs.Pushes.{joined, pushed}
use Rattle.map_picture.proofs.lines.push_title.Goals as goal

pub returns : goal.returns
unfolding line_title
returns c =
    let right = joined _ _ _ _ _ c.in_ok-push_count.ensures c.in_ok-push_side.ensures in
    let left = joined _ _ _ _ _ right c.in_ok-push_side-2.ensures in
    pushed c.push_text.result _ _ _ _ _ left c.push_text.ensures
