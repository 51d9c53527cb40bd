use Rattle.sight_names.specs.Map.{map_of}
use Rattle.pair_answer.specs.EnteredTriangles.Marks.{IsNumberMarked}
use Rattle.pair_answer.proofs.EnteredTriangles.Stopping.{stops_in_order}
use Rattle.pair_answer.proofs.entered_triangles.stops.stops_of.Goals as goal

pub returns-clause-stops : goal.returns-clause-stops
returns-clause-stops c = stops_in_order (map_of c.args.plan.now) c.args.mesh.now.triangles (IsNumberMarked c.args.marks.now) c.in_ok-all_stops.field-0.items c.in_order.result.items c.in_order.ensures c.in_ok-all_stops.ensures
