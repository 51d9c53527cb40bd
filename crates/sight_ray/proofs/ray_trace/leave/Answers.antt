use Rattle.std.proofs.Common.{◌≡◌, Some, pos, ◌<ℤ◌, length, sym, ◌∙◌, arith}
use Rattle.std.proofs.lemmas.Int.{ints}
use Rattle.sight_names.specs.Map.{map_of}
use Rattle.sight_names.specs.Points.{points_of}
use Rattle.sight_names.proofs.PlanNumbers.{count_of_plan}
use Rattle.sight_ray.specs.RayTrace.CrossedEdges.{portal_crossed}
use Rattle.sight_ray.proofs.RayTrace.WalkLemmas.{tip_value, out_left, out_right}
use Rattle.sight_ray.proofs.ray_trace.leave.Goals as goal

pub place-requires : goal.place-requires
place-requires c =
    let h = c.requires.third in
    let s : Some c.in-Some.tip ≡ Some h.0 = c.in-Some.ensures ∙ h.1 in
    let t : c.in-Some.tip ≡ h.0 = cc in
    let n : length (points_of (map_of c.args.plan.now)) ≡ length c.args.plan.now.points = count_of_plan c.args.plan.now c.requires.plan in
    let l = h.2 in
    omega (arith)

pub returns-then-side-eq0 : goal.returns-then-side-eq0
returns-then-side-eq0 c =
    let z : c.side_of-side.result ≡ pos 0 = omega (arith, ints) in
    (sym c.in-Some.ensures, (sym (tip_value (map_of c.args.plan.now) c.args.ray.now c.in-Some.tip c.place.result c.side_of-side.result c.side_of-side.ensures.value c.place.ensures.place) ∙ z))

pub returns-then-side-gt0 : goal.returns-then-side-gt0
returns-then-side-gt0 c =
    let h : pos 0 <ℤ c.side_of-side.result = omega (arith, ints) in
    out_right (map_of c.args.plan.now) c.args.mesh.now.triangles c.args.ray.now (portal_crossed c.args.crossed_edge) c.in-Some.tip c.side_of-side.result (sym c.in-Some.ensures) (tip_value (map_of c.args.plan.now) c.args.ray.now c.in-Some.tip c.place.result c.side_of-side.result c.side_of-side.ensures.value c.place.ensures.place) h c.requires.crossed

pub returns : goal.returns
returns c =
    let h : c.side_of-side.result <ℤ pos 0 = omega (arith, ints) in
    out_left (map_of c.args.plan.now) c.args.mesh.now.triangles c.args.ray.now (portal_crossed c.args.crossed_edge) c.in-Some.tip c.side_of-side.result (sym c.in-Some.ensures) (tip_value (map_of c.args.plan.now) c.args.ray.now c.in-Some.tip c.place.result c.side_of-side.result c.side_of-side.ensures.value c.place.ensures.place) h c.requires.crossed
