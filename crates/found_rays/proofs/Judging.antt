-- What is judged to be a sight ray of its pair is a found ray; those that are kept are in order.
use Rattle.std.proofs.Common.{◌≡◌, ℕ, zero, suc, ◌+◌, ◌*◌, ◌<◌, ◌≤◌, inl, inr, List, [], ◌∷◌, Option, None, Some, Bool, true, false, drop, get_or, length, take, arith, sym, subst}
use Rattle.std.specs.Option.{is_some}
use Rattle.std.specs.Prelude.{All, MatchOption}
use Rattle.std.proofs.lemmas.List.{drop-drop, length-drop, take-append-drop}
use Rattle.std.proofs.lemmas.List.Elements.{All-append, All-contains, All-from_recursion, All-nil}
use Rattle.std.proofs.lemmas.Option.{slice_get-get_or, slice_get_within}
use Rattle.math_base.proofs.Lists.{all_of, contains_pushed}
use Rattle.sight_names.proofs.Lists.{contains_of_get, get_of_contains}
use Rattle.sight_names.specs.declared.names.PairRay.{PairRay}
use Rattle.sight_names.specs.declared.names.Triangle.{Triangle}
use Rattle.sight_names.specs.Map.{map_of}
use Rattle.sight_names.specs.Order.{Ascends}
use Rattle.sight_names.specs.Plan.{PlanParts}
use Rattle.sight_names.specs.Ray.{IsSightRay}
use Rattle.mesh_base.proofs.SightLaws.Plans.{line_below}
use Rattle.mesh_shape.specs.declared.half_edges.table.HalfEdge.{HalfEdge}
use Rattle.mesh_shape.specs.HalfEdges.HalfEdges.{AreOfGoodMesh}
use Rattle.cert_checker.specs.Rays.{AreSightRaysBelow}
use Rattle.found_rays.specs.Ground.{IsRayGround}
use Rattle.found_rays.specs.declared.ray_parts.TheConstants.{PART}
use Rattle.found_rays.specs.Rays.{AreFoundInOrder, ArePartsFound, IsRayAdded, IsFoundRay, RayBefore}
use Rattle.found_rays.proofs.Ordering.{ascend_more}

pub of_ground : (p : PlanParts) (ts : List Triangle) (ls : List (Option ℕ)) (xs : List HalfEdge) → IsRayGround p ts ls xs → AreOfGoodMesh p ts xs
of_ground p ts ls xs g = record { labels = ls; plan = g.plan; good = g.good; edges = g.edges }

pub where_none : {A : Type 0} (o : Option A) (N : Type 0) (S : A → Type 0) → MatchOption o N S → is_some o ≡ false → N
where_none None N S m e = m
where_none (Some x) N S m e = absurd (cc)

-- the sides of a sight ray are sides of lines
pub one_found : (p : PlanParts) (r : PairRay) → r.pair.a < r.pair.b → IsSightRay (map_of p) r.ray r.pair.a r.pair.b → IsFoundRay p r
one_found p r up sight = record {
  order = up;
  first = line_below p r.ray.first.line sight.first sight.is_first;
  last = line_below p r.ray.last.line sight.last sight.is_last;
  sight = sight;
}

pub all_found : (p : PlanParts) (rays : List PairRay) → All (λ (r : PairRay). r.pair.a < r.pair.b) rays → AreSightRaysBelow (map_of p) rays (length rays) → All (IsFoundRay p) rays
all_found p rays up sight = All-from_recursion (IsFoundRay p) rays (all_of (IsFoundRay p) rays (λ r c.
    let at = get_of_contains rays r c.0 c.1 c.2 in
    one_found p r (All-contains (λ (x : PairRay). x.pair.a < x.pair.b) rays r up c) (sight c.0 r (slice_get_within rays c.0 r at) at)))

pub in_order : (p : PlanParts) (rays : List PairRay) → All (IsFoundRay p) rays → Ascends RayBefore rays → AreFoundInOrder p rays
in_order p rays all up = record { found = λ r c. All-contains (IsFoundRay p) rays r all c; ascend = up }

-- one more is kept, if its pair comes behind theirs
pub kept_more : (p : PlanParts) (r : PairRay) (old new : List PairRay) → IsFoundRay p r → AreFoundInOrder p old → IsRayAdded r old new → AreFoundInOrder p new
kept_more p r old new is h (inl (behind, e)) = subst (AreFoundInOrder p) (sym e) (record {
  found = λ s c. elim (contains_pushed old r s c) as (λ _. IsFoundRay p s) [
    | inl there ↦ h.found s there
    | inr same ↦ subst (IsFoundRay p) same is
  ];
  ascend = ascend_more old r h.ascend behind;
})
kept_more p r old new is h (inr (behind, e)) = subst (AreFoundInOrder p) (sym e) h

-- ---- parts

-- where the rays of each part are such, all are
parts_all : (P : PairRay → Type 0) (n : ℕ) (rays : List PairRay) → length rays ≤ n * PART → ((i : ℕ) → i < n → All P (take PART (drop (i * PART) rays))) → All P rays
parts_all P zero [] few each = All-nil P
parts_all P zero (r ∷ rays) few each = absurd (omega (arith, few))
parts_all P (suc n) rays few each = subst (All P) (take-append-drop PART rays) (All-append P (take PART rays) (drop PART rays) (each 0 (omega arith)) (parts_all P n (drop PART rays) fewer next))
  where
    fewer : length (drop PART rays) ≤ n * PART
    fewer = let l = length-drop PART rays in omega (arith, l, few)

    behind : (i : ℕ) → suc i * PART ≡ PART + i * PART
    behind i = omega arith

    next : (i : ℕ) → i < n → All P (take PART (drop (i * PART) (drop PART rays)))
    next i lt = subst (λ (xs : List PairRay). All P (take PART xs)) (sym (drop-drop (i * PART) PART rays)) (subst (λ (k : ℕ). All P (take PART (drop k rays))) (behind i) (each (suc i) (omega (arith, lt))))

pub parts_found : (p : PlanParts) (rays : List PairRay) (found : List Bool) → ArePartsFound p rays found → All (λ (b : Bool). b ≡ true) found → All (IsFoundRay p) rays
parts_found p rays found h all = parts_all (IsFoundRay p) h.count rays h.enough (λ i lt.
    let l : i < length found = (let e = h.done.len in omega (arith, lt, e)) in
    let at = slice_get-get_or found i true l in
    h.done.each i (get_or found i true) at (All-contains (λ (b : Bool). b ≡ true) found (get_or found i true) all (contains_of_get found (get_or found i true) i at)))
