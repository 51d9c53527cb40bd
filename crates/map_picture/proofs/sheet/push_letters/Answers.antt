use Rattle.map_picture.specs.Bytes.{letters_text}
use Rattle.map_picture.proofs.Pushes.{joined, pushed}
use Rattle.map_picture.proofs.sheet.push_letters.Goals as goal

pub returns : goal.returns
unfolding letters_text
returns c =
    let size = joined _ _ _ _ _ c.in_ok-push_count.ensures c.in_ok-push_count-2.ensures in
    pushed c.push_text.result _ _ _ _ _ size c.push_text.ensures
