use Rattle.std.proofs.Common.{◌+◌, ◌/◌, ◌≡◌, ◌<◌, ◌≤◌, ◌*◌, ◌⊎◌, inl, inr, ℕ, List, length, Contains, subst, sym, ap, ◌∙◌, arith}
use Rattle.std.proofs.Math.Nat.{mul-le-mul}
use Rattle.std.proofs.lemmas.List.Sorted.{Contains-permutation, IsPermutation-sym}
use Rattle.sight_names.specs.Map.{map_of}
use Rattle.sight_names.specs.Greedy.{IsGreedy}
use Rattle.sight_names.proofs.PlanNumbers.{count_of_plan}
use Rattle.triangulate.specs.declared.greedy_segments.rounds.PointPair.{PointPair}
use Rattle.triangulate.specs.IncidentSegments.Incident.{AreSegments}
use Rattle.triangulate.specs.IncidentSegments.Kept.{edges_of}
use Rattle.triangulate.specs.GreedySegments.Pairs.{ArePointPairsInOrder}
use Rattle.triangulate.specs.GreedySegments.Rounds.{AreUncrossed, IsGreedySoFar, IsShorter, IsSaturated, KeepsClear}
use Rattle.triangulate.proofs.IncidentSegments.KeptEdges.{edges_of_segments}
use Rattle.triangulate.proofs.GreedySegments.SoFar.{greedy_at_first, greedy_at_last, round_done, still_shut}
use Rattle.triangulate.proofs.GreedySegments.Reach.{all_shorter}
use Rattle.triangulate.proofs.greedy_segments.rounds.greedy_by.Goals as goal

pub loop-low-init : goal.loop-low-init
loop-low-init g c =
    let m = map_of c.args.plan.now in
    record {
      points = c.in_ok-incident.ensures.points;
      extents = c.in_ok-extents.ensures;
      searched = c.in_ok-searched.ensures m;
      numbers = c.in_ok-unsaturated.ensures.numbers;
      bounds = inl (omega arith, omega arith);
      so_far = subst (IsGreedySoFar m (IsShorter m 0)) (sym c.in_ok-incident.ensures.lines) (greedy_at_first m (IsShorter m 0) (λ e h. omega arith));
      closed = λ k lt. inl (c.in_ok-unsaturated.ensures.all k lt);
    }

pub keep_clear_pairs-requires-clause-pairs : goal.keep_clear_pairs-requires-clause-pairs
keep_clear_pairs-requires-clause-pairs g c = λ p k.
    (c.in_ok-pairs.ensures.each p (Contains-permutation _ _ p (IsPermutation-sym _ _ c.sort_pairs.ensures.same) (subst (λ (ps : List PointPair). Contains ps p) c.as_slice-in-loop-low.ensures.value k))).pair

pub keep_clear_pairs-requires-clause-order : goal.keep_clear_pairs-requires-clause-order
keep_clear_pairs-requires-clause-order g c = subst ArePointPairsInOrder (sym c.as_slice-in-loop-low.ensures.value) c.sort_pairs.ensures.order

rises : (low high : ℕ) → ((low ≡ 0) × (high ≡ 64)) ⊎ ((high ≡ low + low / 2) × (2 ≤ low) × (low ≤ 201326594)) → low * low ≤ high * high
rises low high b = let h : low ≤ high = elim b [ inl k ↦ (let e = k.0 in omega arith) | inr k ↦ (let e = k.0 in omega arith) ] in mul-le-mul h h

pub loop-low-preserved : goal.loop-low-preserved
loop-low-preserved g c =
    let m = map_of c.args.plan.now in
    let old = edges_of c.loop-low.incident.segments in
    let count = count_of_plan c.args.plan.now c.in_ok-incident.ensures.plan in
    let keeps = c.in_ok-keep_clear_pairs.ensures.keeps in
    let closed : (k : ℕ) → k < length c.args.plan.now.points → Contains c.in_ok-unsaturated-2.unsaturated.items k ⊎ IsSaturated m old k = λ k lt. elim (c.loop-low.invariant.closed k lt) [
      | inl h ↦ c.in_ok-unsaturated-2.ensures.left.closed k (subst (λ (ks : List ℕ). Contains ks k) (sym c.as_slice.ensures.value) h)
      | inr h ↦ inr h
    ] in
    record {
      points = c.in_ok-keep_clear_pairs.ensures.points;
      extents = c.in_ok-keep_clear_pairs.ensures.extents;
      searched = c.in_ok-unsaturated-2.ensures.searched;
      numbers = c.in_ok-unsaturated-2.ensures.left.ordered;
      bounds = inr (omega arith, omega arith, omega arith);
      so_far = round_done m c.loop-low.low c.loop-low.high c.in_ok-unsaturated-2.unsaturated.items c.in_ok-pairs.pairs.items c.sort_pairs.new.pairs.items old _ (rises c.loop-low.low c.loop-low.high c.loop-low.invariant.bounds) c.loop-low.invariant.so_far
          (subst (λ (ks : List ℕ). AreUncrossed m old ks c.loop-low.low c.loop-low.high c.in_ok-pairs.pairs.items) c.as_slice-left.ensures.value c.in_ok-pairs.ensures)
          c.sort_pairs.ensures.same
          (subst (λ (ps : List PointPair). KeepsClear m ps old (edges_of c.keep_clear_pairs.new.incident.segments)) c.as_slice-in-loop-low.ensures.value keeps)
          (λ k lt. closed k (subst (λ (n : ℕ). k < n) count lt));
      closed = λ k lt. elim (closed k lt) [ inl h ↦ inl h | inr h ↦ inr (still_shut m old _ k keeps.kept h) ];
    }

pub returns-clause-edges : goal.returns-clause-edges
returns-clause-edges g c = edges_of_segments (length c.args.plan.now.points) _ _ c.of.ensures (subst (λ (n : ℕ). AreSegments n c.into_segments.result.items) c.loop-low.invariant.points c.into_segments.ensures.each)

pub returns-clause-greedy : goal.returns-clause-greedy
returns-clause-greedy g c =
    let m = map_of c.args.plan.now in
    subst (IsGreedy m) (ap edges_of (sym c.into_segments.ensures.list) ∙ sym c.of.ensures)
    (greedy_at_last m (IsShorter m c.loop-low.low) (edges_of c.loop-low.incident.segments) c.loop-low.invariant.so_far (all_shorter m c.reach_of.result c.loop-low.low c.reach_of.ensures.all (omega (arith, c.loop-low-test.false))))
