use Rattle.std.proofs.Common.{arith, slice_index_or, length, ◌<◌, ◌≡◌, ◌-◌, ◌∙◌, subst, ℕ}
use Rattle.sight_names.specs.Mesh.{IsTriangle}
use Rattle.mesh_shape.proofs.IndexLemmas.{enter_step, enter_all, read_triangle, read_same, IsEntered, any_triangle}
use Rattle.mesh_shape.proofs.mesh.index.Goals as goal

pub loop-k-preserved : goal.loop-k-preserved
loop-k-preserved c =
    let lt : c.loop-k.k - 1 < length c.args.triangles.now = omega arith in
    let e : length c.loop-k.first ≡ length c.args.first.now = c.loop-k.auto.first in
    let t : IsTriangle (length c.loop-k.first) (slice_index_or c.args.triangles.now (c.loop-k.k - 1) any_triangle) = read_triangle (length c.args.first.now) (length c.loop-k.first) c.args.triangles.now (c.loop-k.k - 1) c.requires.triangles e lt in
    record {
      within = omega arith;
      entered = enter_step c.args.triangles.now c.loop-k.k (c.loop-k.k - 1) _ c.loop-k.first c.put.new.first c.loop-k.later (omega arith) lt (read_same c.args.triangles.now (c.loop-k.k - 1) lt) t c.put.auto.first (c.loop-k.auto.later ∙ c.requires.each_triangle) c.put.ensures c.loop-k.invariant.entered;
    }

pub returns : goal.returns
returns c = enter_all c.args.triangles.now c.loop-k.first c.loop-k.later (length c.args.first.now) c.loop-k.auto.first (c.loop-k.auto.later ∙ c.requires.each_triangle) c.requires.few c.requires.triangles (subst (λ (z : ℕ). IsEntered c.args.triangles.now z c.loop-k.first c.loop-k.later) (omega arith) c.loop-k.invariant.entered)
