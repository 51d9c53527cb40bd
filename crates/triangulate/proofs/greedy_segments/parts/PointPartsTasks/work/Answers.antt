use Rattle.std.proofs.Common.{◌*◌, length, subst, sym}
use Rattle.triangulate.specs.declared.greedy_segments.parts.TheConstants.{PART}
use Rattle.triangulate.specs.GreedySegments.Pairs.{AreNumbers}
use Rattle.triangulate.proofs.GreedySegments.Joining.{numbers_part}
use Rattle.triangulate.proofs.greedy_segments.parts.PointPartsTasks.work.Goals as goal

pub unsaturated_points-requires-clause-unsaturated : goal.unsaturated_points-requires-clause-unsaturated
unsaturated_points-requires-clause-unsaturated c =
    let points = length c.args.self.now.plan.now.points in
    subst (AreNumbers points) (sym c.numbers_at-part.ensures) (numbers_part points (c.args.number * PART) PART c.args.self.now.unsaturated.now c.requires.1)
