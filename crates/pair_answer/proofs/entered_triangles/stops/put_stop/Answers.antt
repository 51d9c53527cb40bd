use Rattle.std.proofs.Common.{refl}
use Rattle.sight_names.specs.Map.{map_of}
use Rattle.pair_answer.specs.EnteredTriangles.Marks.{IsNumberMarked}
use Rattle.pair_answer.proofs.EnteredTriangles.Stopping.{one_put}
use Rattle.pair_answer.proofs.entered_triangles.stops.put_stop.Goals as goal

pub returns : goal.returns
returns c = one_put (map_of c.args.plan.now) c.args.mesh.now.triangles (IsNumberMarked c.args.marks.now) c.args.from c.args.to c.args.stops.now.items c.push.new.self.items c.segment_between.result c.in_ok-push.ensures.items c.segment_between.ensures (c.if-not-leaves_at.ensures.0 refl)
