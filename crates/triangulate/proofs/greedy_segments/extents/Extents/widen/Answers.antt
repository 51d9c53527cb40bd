use Rattle.std.proofs.Common.{◌/◌, arith}
use Rattle.std.proofs.Math.Nat.{le-max_left, le-max_right}
use Rattle.std.proofs.lemmas.Int.{ints, to_z-of_z}
use Rattle.std.proofs.lemmas.List.{get_or_default}
use Rattle.triangulate.proofs.GreedySegments.PointExtents.{extent_wider, blocks_set}
use Rattle.triangulate.proofs.greedy_segments.extents.Extents.widen.Goals as goal

pub invariant_of-self : goal.invariant_of-self
invariant_of-self c = record {
  bounded = blocks_set c.args.self.now.extents.items c.args.self.now.blocks.items c.args.at c.max-2.result _ c.requires c.args.self.now.bounded
      (let e = c.max-2.ensures in let h = le-max_right c.index.result.now c.max-last_neighbour.result in omega arith)
      (λ e. let f = c.max-2.ensures in let h = le-max_left c.index.result.now c.max-last_neighbour.result in let g = c.index.ensures in let d = get_or_default c.args.self.now.blocks.items (c.args.at / 32) c.index.result.now e (c.args.self.now.bounded.each_block c.args.at c.requires) in omega arith);
}

pub returns : goal.returns
returns c = extent_wider c.args.self.now.extents.items c.args.at c.args.end c.args.place.y c.index-extent.result.now _ _ _ c.requires c.index-extent.ensures
    (let v = c.min.ensures.value in grind (arith, ints, to_z-of_z)) (let v = c.min.ensures.value in grind (arith, ints, to_z-of_z))
    (let v = c.max.ensures.value in grind (arith, ints, to_z-of_z)) (let v = c.max.ensures.value in grind (arith, ints, to_z-of_z))
    (let e = c.max-last_neighbour.ensures in let h = le-max_left c.index-extent.result.now.last_neighbour c.args.end in omega arith)
    (let e = c.max-last_neighbour.ensures in let h = le-max_right c.index-extent.result.now.last_neighbour c.args.end in omega arith)
