use Rattle.std.proofs.Common.{codes}
use Rattle.map_picture.specs.Bytes.{ring_shape}
use Rattle.map_picture.proofs.Pushes.{joined, pushed}
use Rattle.map_picture.proofs.rings.push_shape.Goals as goal

pub returns : goal.returns
unfolding ring_shape
returns c =
    let old = c.args.out.now.items in
    let inner = joined _ _ _ _ _ c.in_ok-push_circle.ensures c.in_ok-push_circle-2.ensures in
    let place = joined _ _ _ _ _ inner c.in_ok-push_written.ensures in
    let letter = joined old c.push_written.new.out.items c.push_text.new.out.items _ c.args.word.now place c.in_ok-push_text.ensures in
    pushed c.push_text-2.result old c.push_text.new.out.items c.push_text-2.new.out.items _ (codes "</text></g>\n") letter c.push_text-2.ensures
