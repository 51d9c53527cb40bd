use Rattle.std.proofs.Common.{codes}
use Rattle.map_picture.specs.Bytes.{fault_shape}
use Rattle.map_picture.proofs.Pushes.{joined, pushed}
use Rattle.map_picture.proofs.faults.push_shape.Goals as goal

pub returns : goal.returns
unfolding fault_shape
returns c =
    let old = c.args.out.now.items in
    let inner = joined old c.push_circle.new.out.items c.push_circle-2.new.out.items _ _ c.in_ok-push_circle.ensures c.in_ok-push_circle-2.ensures in
    pushed c.push_text.result old c.push_circle-2.new.out.items c.push_text.new.out.items _ (codes "\"/></g>\n") inner c.push_text.ensures
