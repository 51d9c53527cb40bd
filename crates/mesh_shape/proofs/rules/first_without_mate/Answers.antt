use Rattle.std.proofs.Common.{length, ap, arith, below_more}
use Rattle.sight_names.specs.Map.{map_of}
use Rattle.mesh_shape.specs.Faults.{HasMatesAt}
use Rattle.mesh_shape.proofs.RuleLemmas.{behind, everywhere}
use Rattle.mesh_shape.proofs.rules.first_without_mate.Goals as goal

pub loop-k-preserved : goal.loop-k-preserved
loop-k-preserved c = below_more _ _ c.loop-k.invariant (c.has_mates.ensures.0 c.if-not-has_mates.false)

pub returns : goal.returns
returns c = everywhere (HasMatesAt (map_of c.args.plan.now) c.args.mesh.now.triangles c.args.labels.now) (length c.triangles-t-items.result.now) (λ j h. c.loop-k.invariant j (omega arith)) (λ j h a t e at. absurd (behind (λ v. ⊥) c.args.mesh.now.triangles j (let e = ap length c.triangles-t-items.ensures.list in omega arith) t at))
