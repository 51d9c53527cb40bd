use Rattle.sight_names.specs.Map.{map_of}
use Rattle.pair_answer.specs.EnteredTriangles.Marks.{IsNumberMarked}
use Rattle.pair_answer.specs.EnteredTriangles.Stops.{ArePut, IsStopPut}
use Rattle.pair_answer.proofs.EnteredTriangles.Stopping.{on_ok, three_put}
use Rattle.pair_answer.proofs.entered_triangles.stops.put_stops.Goals as goal

pub returns : goal.returns
returns c =
    let m = map_of c.args.plan.now in
    let ts = c.args.mesh.now.triangles in
    let t = c.args.t in
    on_ok c.put_stop-3.result (IsStopPut m ts (IsNumberMarked c.args.marks.now) t.r t.p c.put_stop-2.new.stops.items c.put_stop-3.new.stops.items) (ArePut m ts (IsNumberMarked c.args.marks.now) t c.args.stops.now.items c.put_stop-3.new.stops.items)
    (three_put m ts (IsNumberMarked c.args.marks.now) t c.args.stops.now.items c.put_stop.new.stops.items c.put_stop-2.new.stops.items c.put_stop-3.new.stops.items c.in_ok-put_stop.ensures c.in_ok-put_stop-2.ensures) c.put_stop-3.ensures
