use Rattle.std.proofs.Common.{◌≡◌, ℕ, ◌<◌, ◌+◌, ◌++◌, List, length, slice_get, slice_index_or, Some, sym, ap, subst, arith, ◌∙◌}
use Rattle.std.proofs.lemmas.Option.{slice_get-get_or}
use Rattle.sight_names.specs.declared.names.Triangle.{Triangle}
use Rattle.sight_names.specs.Map.{map_of}
use Rattle.sight_names.specs.Mesh.{IsTriangle}
use Rattle.map_picture.specs.Bytes.{triangles_text}
use Rattle.map_picture.specs.Chains.{IsNextWith}
use Rattle.map_picture.proofs.Following.{begun, gone_on}
use Rattle.map_picture.proofs.Pushes.{stepped}
use Rattle.map_picture.proofs.faces.push_triangles.Goals as goal

pub loop-at-init : goal.loop-at-init
loop-at-init c =
    let first : IsNextWith c.args.labels.now c.args.g 0 c.index.result.now =
    subst (λ (j : ℕ). IsNextWith c.args.labels.now c.args.g 0 j) (sym c.index.ensures) (c.requires.chains.chains.starts c.args.g c.index.result.now c.requires.group) in
    record {
      here = first.here;
      written = ap (λ (ts : List Triangle). c.args.out.now.items ++ triangles_text c.args.frame (map_of c.args.plan.now) ts) (begun c.args.g c.triangles-triangles.result.now c.args.labels.now c.index.result.now first);
    }

pub push_triangle-requires : goal.push_triangle-requires
push_triangle-requires c =
    subst (λ (n : ℕ). IsTriangle n (slice_index_or c.triangles-triangles.result.now c.loop-at.at (record { p = 0; q = 0; r = 0 }))) c.requires.points
    (c.triangles-triangles.ensures.triangles.each c.loop-at.at _ (subst (λ (ts : List Triangle). slice_get ts c.loop-at.at ≡ Some (slice_index_or c.triangles-triangles.result.now c.loop-at.at (record { p = 0; q = 0; r = 0 }))) c.triangles-triangles.ensures.list (slice_get-get_or c.triangles-triangles.result.now c.loop-at.at (record { p = 0; q = 0; r = 0 }) c.loop-at-test.true)))

pub loop-at-preserved : goal.loop-at-preserved
loop-at-preserved c =
    let same : length c.triangles-triangles.result.now ≡ length c.args.labels.now = ap (λ (ts : List Triangle). length ts) c.triangles-triangles.ensures.list ∙ sym c.requires.one_each in
    let within : c.loop-at.at < length c.args.labels.now = omega (arith, same, c.loop-at-test.true) in
    let next : IsNextWith c.args.labels.now c.args.g (c.loop-at.at + 1) c.index-in-loop-at.result.now =
    subst (λ (j : ℕ). IsNextWith c.args.labels.now c.args.g (c.loop-at.at + 1) j) (sym c.index-in-loop-at.ensures)
    (c.requires.chains.chains.nexts c.loop-at.at c.args.g c.index-in-loop-at.result.now (omega arith) (c.loop-at.invariant.here within) c.requires.group) in
    let on = gone_on c.args.g c.triangles-triangles.result.now c.args.labels.now c.loop-at.at c.index-in-loop-at.result.now _
    (slice_get-get_or c.triangles-triangles.result.now c.loop-at.at (record { p = 0; q = 0; r = 0 }) c.loop-at-test.true) (c.loop-at.invariant.here within) next in
    record {
      here = next.here;
      written = stepped _ _ _ _ _ _ c.in_ok-push_triangle.ensures (ap (λ (ts : List Triangle). triangles_text c.args.frame (map_of c.args.plan.now) ts) on) c.loop-at.invariant.written;
    }
