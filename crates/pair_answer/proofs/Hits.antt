-- What the walk of a source in search of targets shows: a ray to one of them that it found, or that it found none and whether its
-- budget is spent. It ends early just where it found one.
use Rattle.std.proofs.Common.{◌≡◌, ◌≢◌, ℕ, ◌⊎◌, ◌↔◌, inl, inr, List, [], ◌∷◌, Bool, true, false, IsTrue, Option, Some, None, slice_get, Contains, map, refl, sym, ap, ◌∙◌, subst, ltb, cond}
use Rattle.std.proofs.lemmas.List.Elements.{All-contains}
use Rattle.math_base.proofs.Lists.{contains_cons, contains_here, contains_none, contains_there}
use Rattle.sight_names.specs.declared.names.Budget.{Budget}
use Rattle.sight_names.specs.declared.names.PairRay.{PairRay}
use Rattle.sight_names.specs.declared.names.Triangle.{Triangle}
use Rattle.sight_names.specs.Found.{Found, Spent}
use Rattle.sight_names.specs.Map.{Map, map_of}
use Rattle.sight_names.specs.Mesh.{IsGoodMesh}
use Rattle.sight_names.specs.Plan.{PlanParts, IsPlan}
use Rattle.sight_names.proofs.Lists.{contains_of_get}
use Rattle.block_evidence.specs.declared.sight_tree.Tree.{Tree}
use Rattle.pair_budget.specs.declared.results.Outcome.{Outcome}
use Rattle.pair_budget.specs.declared.results.Outcome.TheVariants as outcome
use Rattle.pair_budget.specs.declared.results.Reached.{Reached}
use Rattle.pair_budget.specs.Exact.{IsOutcomeExact}
use Rattle.pair_budget.specs.Notes.{ordered}
use Rattle.pair_budget.specs.Through.{AreThrough}
use Rattle.pair_budget.specs.Walked.{AreReached, IsReachedFrom, MarksFound}
use Rattle.group_job.specs.Sight.{IsFoundAlong}
use Rattle.group_job.proofs.Seeing.{sight_ray_along}
use Rattle.pair_answer.specs.Seeking.{hits, pair_once, pair_with, pair_told}
use Rattle.pair_answer.specs.Walks.{HasNoTarget, IsFoundTarget, IsRayToTarget, MissesAllTargets}

-- a pair in order tells the second sector, where the first is known
other_same : (a b c : ℕ) → ordered a b ≡ ordered a c → b ≡ c
other_same a b c e = go (ltb a b) (ltb a c) e
  where
    go : (x y : Bool) → cond {A = ℕ × ℕ} x (a, b) (b, a) ≡ cond {A = ℕ × ℕ} y (a, c) (c, a) → b ≡ c
    go true true h = ap (λ (q : ℕ × ℕ). q.1) h
    go true false h = ap (λ (q : ℕ × ℕ). q.1) h ∙ ap (λ (q : ℕ × ℕ). q.0) h
    go false true h = ap (λ (q : ℕ × ℕ). q.0) h ∙ ap (λ (q : ℕ × ℕ). q.1) h
    go false false h = ap (λ (q : ℕ × ℕ). q.0) h

of_map : {A B : Type 0} (f : A → B) (xs : List A) (y : B) → Contains (map f xs) y → (x : A) × Contains xs x × (f x ≡ y)
of_map f [] y c = absurd (contains_none y c)
of_map {A} {B} f (x ∷ xs) y c = elim (contains_cons y (f x) (map f xs) c) as (λ _. (z : A) × Contains (x ∷ xs) z × (f z ≡ y)) [
  | inl e ↦ (x, contains_here x xs, e)
  | inr k ↦ let r = of_map f xs y k in (r.0, contains_there r.0 x xs r.1, r.2)
]

-- the target that was hit is one that was found
module _ (source : ℕ) (targets : List ℕ) (found : List Reached) where
  by_target : (t : ℕ) → Contains targets t → MarksFound source found [] (ordered source t ∷ []) → (r : Reached) × IsFoundTarget targets found r
  by_target t there marks = go (marks (ordered source t) (contains_here (ordered source t) []))
    where
      go : Contains [] (ordered source t) ⊎ Contains (map (λ (r : Reached). ordered source r.to) found) (ordered source t) → (r : Reached) × IsFoundTarget targets found r
      go (inl c) = absurd (contains_none (ordered source t) c)
      go (inr c) =
          let r = of_map (λ (r : Reached). ordered source r.to) found (ordered source t) c in
          (r.0, record { there = r.1; target = subst (λ (x : ℕ). Contains targets x) (sym (other_same source r.0.to t r.2)) there })

  pub target_of_hit : (hit : Option ℕ) → MarksFound source found [] (hits source targets hit) → Contains (pair_told source targets hit) (ordered source source) → (r : Reached) × IsFoundTarget targets found r
  target_of_hit None marks c = absurd (contains_none (ordered source source) c)
  target_of_hit (Some i) marks c = go (slice_get targets i) refl
    where
      go : (o : Option ℕ) → slice_get targets i ≡ o → (r : Reached) × IsFoundTarget targets found r
      go None e = absurd (contains_none (ordered source source) (subst (λ (o : Option ℕ). Contains (pair_once source o) (ordered source source)) e c))
      go (Some t) e = by_target t (contains_of_get targets t i e) (subst (λ (o : Option ℕ). MarksFound source found [] (pair_with source o)) e marks)

not_spent : (t : Tree) → outcome.Complete t ≡ outcome.Spent → ⊥
not_spent t e = cc

-- a walk that ended early found one
pub early_hit : (source : ℕ) (targets : List ℕ) (found : List Reached) (s : ℕ) (ks : List ℕ) (hit : Option ℕ) → s ≡ source → ks ≡ targets → MarksFound source found [] (hits s ks hit) → Contains (pair_told s ks hit) (ordered source source) → (r : Reached) × IsFoundTarget targets found r
early_hit source targets found s ks hit e q marks c = target_of_hit source targets found hit
    (subst (λ (x : ℕ). MarksFound source found [] (hits x targets hit)) e (subst (λ (x : List ℕ). MarksFound source found [] (hits s x hit)) q marks))
    (subst (λ (x : ℕ). Contains (pair_told x targets hit) (ordered source source)) e (subst (λ (x : List ℕ). Contains (pair_told s x hit) (ordered source source)) q c))

-- where no target was found, and the walk didn't end early
module _ (m : Map) (ts : List Triangle) (ls : List (Option ℕ)) (source : ℕ) (budget : Budget) (targets : List ℕ) (found : List Reached) (none : HasNoTarget targets found) where
  misses : ((b : ℕ) → Found m ts ls source b budget → (r : Reached) × Contains found r × (r.to ≡ b)) → MissesAllTargets m ts ls budget source targets
  misses all k target f = let r = all k f in none r.0 r.1 (subst (λ (x : ℕ). Contains targets x) (sym r.2) target)

  pub missed_so : (how : Outcome) → IsOutcomeExact m ts ls source budget found how → how ≢ outcome.All → (b : Bool) → IsTrue b ↔ (how ≡ outcome.Spent) → MissesAllTargets m ts ls budget source targets × (IsTrue b ↔ Spent m ts ls source budget)
  missed_so (outcome.Complete t) exact early b is = (misses exact.ends.0, (λ q. absurd (not_spent t (is.0 q)), λ s. absurd (exact.ends.1 s)))
  missed_so outcome.Spent exact early b is = (misses exact.ends.0, (λ q. exact.ends.1, λ s. is.1 refl))
  missed_so outcome.All exact early b is = absurd (early refl)

pub ray_to : (p : PlanParts) → IsPlan p → (ts : List Triangle) (ls : List (Option ℕ)) → IsGoodMesh (map_of p) ts ls → (source : ℕ) (budget : Budget) (targets : List ℕ) (found : List Reached) (how : Outcome) (r : Reached)
    → AreReached p source found → AreThrough p ts ls source found → IsOutcomeExact (map_of p) ts ls source budget found how → IsFoundTarget targets found r → IsRayToTarget (map_of p) ts ls budget source targets r.ray
ray_to p plan ts ls good source budget targets found how r reached through exact h =
    let along : IsFoundAlong p ts ls source r = record { is_reached = All-contains (IsReachedFrom p source) found r reached.each h.there; is_through = through r h.there } in
    let ray : PairRay = record { pair = record { a = source; b = r.to }; ray = r.ray } in record {
      k = r.to;
      target = h.target;
      sight = sight_ray_along p plan ts ls good ray (inl (r, along, refl, refl));
      found = exact.within r h.there;
    }
