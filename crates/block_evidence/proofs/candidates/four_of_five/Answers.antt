use Rattle.std.proofs.Common.{get_or, inl, inr, refl}
use Rattle.block_evidence.specs.Picked.{both_ends}
use Rattle.block_evidence.proofs.Picking.{some_more, five, five_among}
use Rattle.block_evidence.proofs.candidates.four_of_five.Goals as goal

pub returns-then-third-first : goal.returns-then-third-first
returns-then-third-first c =
    let pairs = c.args.pairs.now in
    let p = c.index-pairs-0.result in
    let q = c.index-pairs-1.result in
    let r = c.index-pairs-2.result in
    let t = (get_or pairs 2 r).right in
    some_more (five (get_or pairs 0 p) (get_or pairs 1 q) t) (both_ends pairs) c.with_right.result (five_among pairs p q r t c.told-pairs (inr refl)) c.with_right.ensures

pub returns-then-third-first-2 : goal.returns-then-third-first-2
returns-then-third-first-2 c =
    let pairs = c.args.pairs.now in
    let p = c.index-pairs-0.result in
    let q = c.index-pairs-1.result in
    let r = c.index-pairs-2.result in
    let t = (get_or pairs 2 r).left in
    some_more (five (get_or pairs 0 p) (get_or pairs 1 q) t) (both_ends pairs) c.with_left.result (five_among pairs p q r t c.told-pairs (inl refl)) c.with_left.ensures
