use Rattle.std.proofs.Common.{◌≡◌, ℕ, List, [], ◌∷◌, ◌++◌, ◌+◌, length, All, IsSome, ap, sym, subst, arith}
use Rattle.std.proofs.lemmas.Grind.{common_steps}
use Rattle.std.proofs.lemmas.List.Elements.{All-nil, All-push}
use Rattle.std.proofs.lemmas.Result.{err_from_is_err_and}
use Rattle.sight_names.specs.declared.names.Triangle.{Triangle}
use Rattle.sight_names.specs.Map.{map_of}
use Rattle.sight_names.specs.Mesh.{label_of}
use Rattle.sight_names.specs.Sequence.{entry_edge}
use Rattle.sight_names.proofs.PlanMap.{plan_is_map}
use Rattle.sight_ray.specs.RayTrace.CrossedEdges.{portal_crossed}
use Rattle.sight_ray.proofs.RayTrace.Trails.{begins_labelled, walk_goes_on}
use Rattle.sight_ray.proofs.RayTrace.WalkLemmas.{count_push, walk_begun, step_to, meets_wall, meets_tip, not_last, crossed_edges_differ}
use Rattle.sight_ray.proofs.ray_trace.walk.Goals as goal

pub behind-start-requires : goal.behind-start-requires
behind-start-requires c = record { leads = begins_labelled (map_of c.args.plan.now) c.args.mesh.now.triangles c.args.labels.now c.args.ray.now (portal_crossed c.args.first) (portal_crossed c.back.result) c.requires.good c.requires.traceable c.requires.first c.back.ensures }

pub loop-init : goal.loop-init
loop-init c =
    let e : c.push.new.self.items ≡ c.behind-start.result ∷ [] = grind (arith, common_steps) in (
      walk_begun (map_of c.args.plan.now) c.args.mesh.now.triangles c.args.ray.now (portal_crossed c.args.first) (entry_edge (portal_crossed c.back.result)) c.push.new.self.items c.behind-start.result c.requires.traceable c.requires.first c.back.ensures c.behind-start.ensures.triangle e,
      c.requires.crossed,
      subst (λ (ks : List ℕ). All (λ k. IsSome (label_of c.args.labels.now k)) ks) (sym e) (All-push (λ k. IsSome (label_of c.args.labels.now k)) [] c.behind-start.result (All-nil _) c.behind-start.ensures.labelled),
      ap (λ (ks : List ℕ). length ks) e,
    )

pub enter-requires : goal.enter-requires
enter-requires c = record { leads = λ is_open. ((walk_goes_on (map_of c.args.plan.now) c.args.mesh.now.triangles c.args.labels.now c.args.ray.now (portal_crossed c.loop.crossed_edge) c.loop.passed.items (plan_is_map c.args.plan.now c.requires.plan) c.requires.good c.loop.invariant.0).1 is_open).0 }

pub leave-requires-clause-third : goal.leave-requires-clause-third
leave-requires-clause-third c = ((walk_goes_on (map_of c.args.plan.now) c.args.mesh.now.triangles c.args.labels.now c.args.ray.now (portal_crossed c.loop.crossed_edge) c.loop.passed.items (plan_is_map c.args.plan.now c.requires.plan) c.requires.good c.loop.invariant.0).1 c.in_ok-triangle.ensures.passable).1

pub unreachable-requires : goal.unreachable-requires
unreachable-requires c =
    let few = (walk_goes_on (map_of c.args.plan.now) c.args.mesh.now.triangles c.args.labels.now c.args.ray.now (portal_crossed c.loop.crossed_edge) c.loop.passed.items (plan_is_map c.args.plan.now c.requires.plan) c.requires.good c.loop.invariant.0).0 in
    let all : length c.triangles-end.result.now ≡ length c.args.mesh.now.triangles = ap (λ (ts : List Triangle). length ts) c.triangles-end.ensures.list in
    let count = c.loop.invariant.3 in
    let done = c.loop-test.false in
    omega (arith, few, all, count, done)

pub returns-in_err-triangle-clause-answer : goal.returns-in_err-triangle-clause-answer
returns-in_err-triangle-clause-answer c =
    let p = err_from_is_err_and c.from_residual-in_err-triangle.result c.from_residual-in_err-triangle.ensures.1 in
    rw (p.1, p.2) (meets_wall (map_of c.args.plan.now) c.args.mesh.now.triangles c.args.ray.now (portal_crossed c.loop.crossed_edge) c.loop.passed.items _ c.loop.invariant.0 c.in_err-triangle.ensures.answer)

pub returns-then-eq-clause-labelled : goal.returns-then-eq-clause-labelled
returns-then-eq-clause-labelled c =
    let e : c.push-in-loop.new.self.items ≡ c.loop.passed.items ++ (c.in_ok-triangle.triangle ∷ []) = grind (arith, common_steps) in
    subst (λ (ks : List ℕ). All (λ k. IsSome (label_of c.args.labels.now k)) ks) (sym e) (All-push (λ k. IsSome (label_of c.args.labels.now k)) c.loop.passed.items c.in_ok-triangle.triangle c.loop.invariant.2 c.in_ok-triangle.ensures.labelled)

pub returns-in_err-crossed_edge-clause-answer : goal.returns-in_err-crossed_edge-clause-answer
returns-in_err-crossed_edge-clause-answer c =
    let p = err_from_is_err_and c.from_residual-in_err-crossed_edge.result c.from_residual-in_err-crossed_edge.ensures.1 in
    rw (p.1, p.2) (meets_tip (map_of c.args.plan.now) c.args.mesh.now.triangles c.args.ray.now (portal_crossed c.loop.crossed_edge) c.loop.passed.items _ c.loop.invariant.0 (not_last (map_of c.args.plan.now) c.args.ray.now c.loop.crossed_edge c.args.last c.requires.last (crossed_edges_differ c.loop.crossed_edge c.args.last c.if-eq.ensures)) c.in_ok-triangle.ensures.passable c.in_err-crossed_edge.ensures)

pub loop-preserved : goal.loop-preserved
loop-preserved c =
    let e : c.push-in-loop.new.self.items ≡ c.loop.passed.items ++ (c.in_ok-triangle.triangle ∷ []) = grind (arith, common_steps) in (
      step_to (map_of c.args.plan.now) c.args.mesh.now.triangles c.args.ray.now (portal_crossed c.loop.crossed_edge) (portal_crossed c.in_ok-crossed_edge.crossed_edge) c.loop.passed.items c.push-in-loop.new.self.items c.in_ok-triangle.triangle c.loop.invariant.0 (not_last (map_of c.args.plan.now) c.args.ray.now c.loop.crossed_edge c.args.last c.requires.last (crossed_edges_differ c.loop.crossed_edge c.args.last c.if-eq.ensures)) c.in_ok-triangle.ensures.passable c.in_ok-triangle.ensures.answer c.in_ok-crossed_edge.ensures e,
      c.in_ok-crossed_edge.ensures.crossed,
      subst (λ (ks : List ℕ). All (λ k. IsSome (label_of c.args.labels.now k)) ks) (sym e) (All-push (λ k. IsSome (label_of c.args.labels.now k)) c.loop.passed.items c.in_ok-triangle.triangle c.loop.invariant.2 c.in_ok-triangle.ensures.labelled),
      count_push c.loop.passed.items c.push-in-loop.new.self.items c.in_ok-triangle.triangle (c.loop.counter + 1) e c.loop.invariant.3,
    )
