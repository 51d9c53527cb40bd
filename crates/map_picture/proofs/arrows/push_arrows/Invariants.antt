use Rattle.std.proofs.Common.{◌≡◌, ◌++◌, drop}
use Rattle.map_picture.specs.Bytes.{arrow_texts}
use Rattle.map_picture.proofs.arrows.push_arrows.Given as goal

abbrev pub invariant-loop-arrow : goal.invariant-loop-arrow
invariant-loop-arrow l = l.out.items ++ arrow_texts l.frame l.places l.plan.points (drop l.arrow-index l.arrows) ≡ l.fn.out.items ++ arrow_texts l.frame l.places l.plan.points l.arrows
