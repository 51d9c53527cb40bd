use Rattle.std.proofs.Common.{◌≡◌, ◌≤◌, ℕ, List, Some, length, slice_get, refl, ap, sym, subst, arith}
use Rattle.std.proofs.Math.Nat.{le-max_left, le-max_right}
use Rattle.std.proofs.lemmas.Option.{slice_get_read}
use Rattle.sight_names.specs.declared.names.Pt.{Pt}
use Rattle.triangulate.proofs.GreedySegments.Reach.{reach_next, reach_all}
use Rattle.triangulate.proofs.greedy_segments.rounds.reach_of.Goals as goal

pub loop-point-preserved : goal.loop-point-preserved
loop-point-preserved c =
    let most = c.loop-point.most in
    let here = c.reach_of_point.result in
    let e = c.max-most.ensures in
    let at = subst (λ (ps : List Pt). slice_get ps c.loop-point.point-index ≡ Some c.point-item.result) c.points-point-items.ensures.list (slice_get_read c.points-point-items.result.now _ c.loop-point.point-index c.point-item.result refl c.loop-point-test.true c.point-item.is) in
    let first : most ≤ c.max-most.result = subst (λ (n : ℕ). most ≤ n) (sym e) (le-max_left most here) in
    let second : here ≤ c.max-most.result = subst (λ (n : ℕ). here ≤ n) (sym e) (le-max_right most here) in
    record {
      bound = let a = c.loop-point.invariant.bound in let b = c.reach_of_point.ensures.bound in grind (arith, e);
      before = reach_next c.args.plan.now.points c.loop-point.point-index most here c.max-most.result _ at first second c.reach_of_point.ensures.all c.loop-point.invariant.before;
    }

pub returns-clause-all : goal.returns-clause-all
returns-clause-all c =
    let past : length c.args.plan.now.points ≤ c.loop-point.point-index = let e = ap (length {A = Pt}) c.points-point-items.ensures.list in omega (arith, e, c.loop-point-test.false) in
    reach_all c.args.plan.now c.points-point-items.ensures.plan c.loop-point.point-index c.loop-point.most past c.loop-point.invariant.before
