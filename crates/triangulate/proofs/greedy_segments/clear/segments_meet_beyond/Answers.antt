use Rattle.std.proofs.Common.{ℕ, sym, subst}
use Rattle.sight_names.specs.Map.{map_of}
use Rattle.triangulate.specs.GreedySegments.Crossed.{SegmentsMeet}
use Rattle.triangulate.proofs.GreedySegments.Crossed.{edge}
use Rattle.triangulate.proofs.greedy_segments.clear.segments_meet_beyond.Goals as goal

pub returns-then-u-i-clause-meet : goal.returns-then-u-i-clause-meet
returns-then-u-i-clause-meet c = subst (λ (w : ℕ). SegmentsMeet (map_of c.args.plan.now) c.args.incident.now.segments w (edge c.args.i c.args.j)) (sym c.if-u-i.true) c.requires.near
