use Rattle.std.proofs.Common.{length, ap, arith, below_more}
use Rattle.mesh_shape.specs.Faults.{IsNewAt}
use Rattle.mesh_shape.proofs.RuleLemmas.{behind, everywhere}
use Rattle.mesh_shape.proofs.rules.first_twice.Goals as goal

pub loop-k-preserved : goal.loop-k-preserved
loop-k-preserved c = below_more _ _ c.loop-k.invariant (c.is_new.ensures.0 c.if-not-is_new.false)

pub returns : goal.returns
returns c = everywhere (IsNewAt c.args.mesh.now.triangles) (length c.triangles-t-items.result.now) (λ j h. c.loop-k.invariant j (omega arith)) (λ j h i lt t u e a b. absurd (behind (λ v. ⊥) c.args.mesh.now.triangles j (let e = ap length c.triangles-t-items.ensures.list in omega arith) u b))
