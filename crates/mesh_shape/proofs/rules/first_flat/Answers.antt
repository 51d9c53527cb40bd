use Rattle.std.proofs.Common.{length, ap, arith, below_more}
use Rattle.sight_names.specs.Map.{map_of}
use Rattle.sight_names.specs.Mesh.{IsCounterclockwise}
use Rattle.mesh_shape.specs.Faults.{TurnsAt}
use Rattle.mesh_shape.proofs.IndexLemmas.{any_triangle}
use Rattle.mesh_shape.proofs.RuleLemmas.{at_item, behind, everywhere}
use Rattle.mesh_shape.proofs.rules.first_flat.Goals as goal

pub loop-k-preserved : goal.loop-k-preserved
loop-k-preserved c = below_more _ _ c.loop-k.invariant (at_item (IsCounterclockwise (map_of c.args.plan.now)) c.triangles_of-t-items.result.now c.args.mesh.now.triangles c.loop-k.k any_triangle c.triangles_of-t-items.ensures.list c.loop-k-test.true (c.is_counterclockwise.ensures.0 c.if-not-is_counterclockwise.false))

pub returns-clause-search : goal.returns-clause-search
returns-clause-search c = everywhere (TurnsAt (map_of c.args.plan.now) c.args.mesh.now.triangles) (length c.triangles_of-t-items.result.now) (λ j h. c.loop-k.invariant j (omega arith)) (λ j h. behind (IsCounterclockwise (map_of c.args.plan.now)) c.args.mesh.now.triangles j (let e = ap length c.triangles_of-t-items.ensures.list in omega arith))
