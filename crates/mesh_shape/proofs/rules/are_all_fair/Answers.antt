use Rattle.std.proofs.Common.{ℕ, length, ap, arith, below_more}
use Rattle.sight_names.specs.Map.{map_of}
use Rattle.mesh_shape.specs.Faults.{IsFairAt}
use Rattle.mesh_shape.proofs.IndexLemmas.{any_triangle}
use Rattle.mesh_shape.proofs.RuleLemmas.{behind, everywhere, fair_here}
use Rattle.mesh_shape.proofs.rules.are_all_fair.Goals as goal
use Rattle.math_base.proofs.Lists.{item_there}

pub loop-t-preserved : goal.loop-t-preserved
loop-t-preserved c = below_more _ _ c.loop-t.invariant (fair_here (map_of c.args.plan.now) c.args.mesh.now.triangles c.loop-t.t-index _ (item_there c.triangles-t-items.result.now c.args.mesh.now.triangles c.loop-t.t-index any_triangle c.triangles-t-items.ensures.list c.loop-t-test.true) (c.is_fair_to_all.ensures c.if-not-is_fair_to_all.false))

pub returns : goal.returns
returns c = λ w. everywhere (λ (j : ℕ). (i : ℕ) → IsFairAt (map_of c.args.plan.now) c.args.mesh.now.triangles j i) c.loop-t.t-index c.loop-t.invariant (λ j le i t e l at. absurd (behind (λ v. ⊥) c.args.mesh.now.triangles j (let f = ap length c.triangles-t-items.ensures.list in omega arith) t at))
