use Rattle.map_picture.specs.Bytes.{units_text}
use Rattle.map_picture.proofs.Pushes.{joined, pushed}
use Rattle.map_picture.proofs.sheet.push_units.Goals as goal

pub returns : goal.returns
unfolding units_text
returns c =
    let walls = joined _ _ _ _ _ c.in_ok-push_count.ensures c.in_ok-push_count-2.ensures in
    let rays = joined _ _ _ _ _ walls c.in_ok-push_count-3.ensures in
    let stops = joined _ _ _ _ _ rays c.in_ok-push_count-4.ensures in
    pushed c.push_count-5.result _ _ _ _ _ stops c.push_count-5.ensures
