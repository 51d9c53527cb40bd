use Rattle.std.proofs.Common.{codes}
use Rattle.map_picture.specs.Bytes.{arrow_title}
use Rattle.map_picture.proofs.Pushes.{joined, pushed}
use Rattle.map_picture.proofs.arrows.push_title.Goals as goal

pub returns : goal.returns
unfolding arrow_title
returns c =
    let old = c.args.out.now.items in
    let inner = joined old c.push_text.new.out.items c.push_place.new.out.items _ _ c.in_ok-push_text.ensures c.in_ok-push_place.ensures in
    pushed c.push_text-2.result old c.push_place.new.out.items c.push_text-2.new.out.items _ (codes "</title></path>\n") inner c.push_text-2.ensures
