use Rattle.std.proofs.Common.{ℕ, length, ap, arith, below_more}
use Rattle.sight_names.specs.Map.{map_of}
use Rattle.mesh_shape.specs.Faults.{IsFairAt}
use Rattle.mesh_shape.proofs.IndexLemmas.{any_triangle}
use Rattle.mesh_shape.proofs.RuleLemmas.{behind, everywhere}
use Rattle.mesh_shape.proofs.RuleLemmas.{fair_here, meeting_found}
use Rattle.mesh_shape.proofs.rules.first_meeting.Goals as goal
use Rattle.math_base.proofs.Lists.{item_there}

pub returns-in-Some : goal.returns-in-Some
returns-in-Some c = meeting_found (map_of c.args.plan.now) c.args.mesh.now.triangles c.loop-k.k c.in-Some.line _ (item_there c.triangles-t-items.result.now c.args.mesh.now.triangles c.loop-k.k any_triangle c.triangles-t-items.ensures.list c.loop-k-test.true) c.loop-k.invariant c.in-Some.ensures

pub loop-k-preserved : goal.loop-k-preserved
loop-k-preserved c = below_more _ _ c.loop-k.invariant (fair_here (map_of c.args.plan.now) c.args.mesh.now.triangles c.loop-k.k _ (item_there c.triangles-t-items.result.now c.args.mesh.now.triangles c.loop-k.k any_triangle c.triangles-t-items.ensures.list c.loop-k-test.true) c.in_default.ensures)

pub returns : goal.returns
returns c = everywhere (λ (j : ℕ). (i : ℕ) → IsFairAt (map_of c.args.plan.now) c.args.mesh.now.triangles j i) c.loop-k.k c.loop-k.invariant (λ j le i t e l at. absurd (behind (λ v. ⊥) c.args.mesh.now.triangles j (let e = ap length c.triangles-t-items.ensures.list in omega arith) t at))
