use Rattle.map_picture.specs.Bytes.{head_text}
use Rattle.map_picture.proofs.Pushes.{joined, pushed}
use Rattle.map_picture.proofs.sheet.push_head.Goals as goal

pub returns : goal.returns
unfolding head_text
returns c =
    let corner = joined _ _ _ _ _ c.in_ok-push_count.ensures c.in_ok-push_count-2.ensures in
    let size = joined _ _ _ _ _ corner c.in_ok-push_size.ensures in
    pushed c.push_text.result _ _ _ _ _ size c.push_text.ensures
