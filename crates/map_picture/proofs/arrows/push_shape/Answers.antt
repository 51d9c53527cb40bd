use Rattle.map_picture.specs.Bytes.{arrow_shape}
use Rattle.map_picture.proofs.Pushes.{joined, pushed}
use Rattle.map_picture.proofs.arrows.push_shape.Goals as goal

pub returns : goal.returns
unfolding arrow_shape
returns c =
    let old = c.args.out.now.items in
    let base = joined old c.push_base.new.out.items c.push_base-2.new.out.items _ _ c.in_ok-push_base.ensures c.in_ok-push_base-2.ensures in
    pushed c.push_tip.result old c.push_base-2.new.out.items c.push_tip.new.out.items _ _ base c.push_tip.ensures
