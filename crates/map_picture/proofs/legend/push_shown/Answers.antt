use Rattle.map_picture.specs.Bytes.{swatch_shown}
use Rattle.map_picture.proofs.Pushes.{joined, pushed}
use Rattle.map_picture.proofs.legend.push_shown.Goals as goal

pub returns : goal.returns
unfolding swatch_shown
returns c =
    let x = joined _ _ _ _ _ c.in_ok-push_count.ensures c.in_ok-push_count-2.ensures in
    let y = joined _ _ _ _ _ x c.in_ok-push_count-3.ensures in
    let width = joined _ _ _ _ _ y c.in_ok-push_count-4.ensures in
    let height = joined _ _ _ _ _ width c.in_ok-push_count-5.ensures in
    let place = joined _ _ _ _ _ height c.in_ok-push_written.ensures in
    let count = joined _ _ _ _ _ place c.in_ok-push_count-6.ensures in
    pushed c.push_text.result _ _ _ _ _ count c.push_text.ensures
