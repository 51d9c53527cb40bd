use Rattle.std.proofs.Common.{◌<◌, length, sym, ◌∙◌, subst, arith, below_more}
use Rattle.std.proofs.lemmas.Bool.{false≢true}
use Rattle.sight_names.specs.Map.{map_of}
use Rattle.mesh_shape.proofs.RuleLemmas.{everywhere, turn_at_places, inside_turns, inside_range}
use Rattle.std.proofs.Common.{pos, ℤ, ◌<ℤ◌}
use Rattle.sight_names.specs.Points.{points_of}
use Rattle.sight_names.proofs.PlanNumbers.{count_of_plan}
use Rattle.mesh_shape.specs.Search.{IsOutsideOf}
use Rattle.mesh_shape.proofs.RuleLemmas.{next_outside}
use Rattle.mesh_shape.proofs.rules.first_point_inside.Goals as goal

pub loop-k-init : goal.loop-k-init
loop-k-init c = λ j lt w inside. let tri = c.requires.triangle in let q = tri.second in let r = tri.third in let m = inside_range c.args.plan.now c.place-a.ensures.plan c.args.t j c.max-last.result tri (let e = c.max-last.ensures in omega arith) (let e = c.max-last.ensures in omega arith) (let e = c.max-last.ensures in omega arith) w inside in omega (arith, m.0)

pub in_triangle-requires : goal.in_triangle-requires
in_triangle-requires c = subst (λ (v : ℤ). pos 0 <ℤ v) (sym (turn_at_places _ _ _ _ _ _ c.place-a.ensures.place c.place-b.ensures.place c.place-c.ensures.place)) c.requires.turn

pub returns-then-in_triangle : goal.returns-then-in_triangle
returns-then-in_triangle c = let w : c.loop-k.k < length (points_of (map_of c.args.plan.now)) = (let e = count_of_plan c.args.plan.now c.place-a.ensures.plan in let m = c.max-last.ensures in let tri = c.requires.triangle in let q = tri.second in let r = tri.third in omega arith) in
    record { against = λ h. h w (inside_turns (map_of c.args.plan.now) c.args.t _ _ _ _ c.loop-k.k c.place-a.ensures.place c.place-b.ensures.place c.place-c.ensures.place c.place.ensures.place (c.in_triangle.ensures.0 c.if-in_triangle.true)); before = c.loop-k.invariant }

pub loop-k-preserved : goal.loop-k-preserved
loop-k-preserved c = below_more _ _ c.loop-k.invariant (next_outside (map_of c.args.plan.now) c.args.t _ _ _ _ c.loop-k.k c.place-a.ensures.place c.place-b.ensures.place c.place-c.ensures.place c.place.ensures.place (λ h. false≢true (sym c.if-in_triangle.false ∙ c.in_triangle.ensures.1 h)))

pub returns : goal.returns
returns c = everywhere (IsOutsideOf (map_of c.args.plan.now) c.args.t) c.loop-k.k c.loop-k.invariant (λ j le w inside. let tri = c.requires.triangle in let q = tri.second in let r = tri.third in let m = inside_range c.args.plan.now c.place-a.ensures.plan c.args.t j c.max-last.result tri (let e = c.max-last.ensures in omega arith) (let e = c.max-last.ensures in omega arith) (let e = c.max-last.ensures in omega arith) w inside in let f = c.loop-k-test.false in omega (arith, m.1))
