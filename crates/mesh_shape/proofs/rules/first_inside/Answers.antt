use Rattle.std.proofs.Common.{ℕ, length, ap, arith, below_more}
use Rattle.sight_names.specs.Map.{map_of}
use Rattle.mesh_shape.specs.Faults.{IsEmptyAt}
use Rattle.mesh_shape.proofs.IndexLemmas.{any_triangle}
use Rattle.mesh_shape.proofs.RuleLemmas.{behind, everywhere}
use Rattle.mesh_shape.proofs.RuleLemmas.{inside_found, empty_here}
use Rattle.mesh_shape.proofs.rules.first_inside.Goals as goal
use Rattle.math_base.proofs.Lists.{item_there}

pub returns-in-Some : goal.returns-in-Some
returns-in-Some c = inside_found (map_of c.args.plan.now) c.args.mesh.now.triangles c.loop-k.k c.in-Some.point _ (item_there c.triangles-t-items.result.now c.args.mesh.now.triangles c.loop-k.k any_triangle c.triangles-t-items.ensures.list c.loop-k-test.true) c.loop-k.invariant c.in-Some.ensures

pub loop-k-preserved : goal.loop-k-preserved
loop-k-preserved c = below_more _ _ c.loop-k.invariant (empty_here (map_of c.args.plan.now) c.args.mesh.now.triangles c.loop-k.k _ (item_there c.triangles-t-items.result.now c.args.mesh.now.triangles c.loop-k.k any_triangle c.triangles-t-items.ensures.list c.loop-k-test.true) c.in_default.ensures)

pub returns : goal.returns
returns c = everywhere (λ (j : ℕ). (i : ℕ) → IsEmptyAt (map_of c.args.plan.now) c.args.mesh.now.triangles j i) c.loop-k.k c.loop-k.invariant (λ j le i t at. absurd (behind (λ v. ⊥) c.args.mesh.now.triangles j (let e = ap length c.triangles-t-items.ensures.list in omega arith) t at))
