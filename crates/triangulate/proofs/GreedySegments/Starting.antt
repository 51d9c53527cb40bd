-- The lines of a plan as edges, all point numbers, and the points that are left unsaturated.
use Rattle.std.proofs.Common.{◌≡◌, ℕ, zero, suc, ◌+◌, ◌<◌, ◌≤◌, ◌⊎◌, inl, inr, List, [], ◌∷◌, ◌++◌, length, slice_get, take, Contains, Option, Some, None, map, option_map, refl, sym, ap, ap₂, ◌∙◌, subst, arith, add-one}
use Rattle.std.specs.Prelude.{filter_map, IfSome}
use Rattle.std.proofs.lemmas.List.{append_assoc}
use Rattle.std.proofs.lemmas.List.Elements.{Contains-push, Contains-push_cases, Contains-append_left}
use Rattle.std.proofs.lemmas.Option.{slice_get_within, same_Some, none-some}
use Rattle.sight_names.specs.declared.plan.Line.{Line}
use Rattle.sight_names.specs.Map.{Map, MapLine, map_of, looked_up}
use Rattle.sight_names.specs.Plan.{PlanParts, IsPlan, IsPlanLine}
use Rattle.sight_names.specs.Points.{Edge, line_edge}
use Rattle.sight_names.specs.Greedy.{line_edges}
use Rattle.sight_names.proofs.PlanNumbers.{number_of_plan}
use Rattle.sight_names.proofs.Lists.{contains_of_get, get_of_contains}
use Rattle.triangulate.specs.GreedySegments.Pairs.{AreNumbers}
use Rattle.triangulate.specs.GreedySegments.Rounds.{AddsIfUnsaturated, AreUnsaturated, IsSaturated, edges_of_line}
use Rattle.triangulate.proofs.GreedySegments.Crossed.{edge, same_edge}
use Rattle.math_base.proofs.Numbers.{below_or_last}
use Rattle.math_base.proofs.Lists.{pushed_at, contains_none}

-- ---- lines

pub edges_of_lines : List (Option Line) → List Edge
edges_of_lines [] = []
edges_of_lines (o ∷ os) = edges_of_line o ++ edges_of_lines os

edge_of_numbers : (p : PlanParts) → IsPlan p → (l : Line) → l.a < length p.points → l.b < length p.points → line_edge (map_of p) (looked_up p.points l) ≡ edge l.a l.b
edge_of_numbers p is l a b = same_edge (number_of_plan p is l.a a) (number_of_plan p is l.b b)

pub edges_of_plan_lines : (p : PlanParts) → IsPlan p → (os : List (Option Line)) → ((i : ℕ) (l : Line) → slice_get os i ≡ Some (Some l) → IsPlanLine p.sectors (length p.points) l)
    → map (line_edge (map_of p)) (filter_map (λ (o : Option MapLine). o) (map (option_map (looked_up p.points)) os)) ≡ edges_of_lines os
unfolding edges_of_lines
edges_of_plan_lines p is [] each = refl
edges_of_plan_lines p is (None ∷ os) each = edges_of_plan_lines p is os (λ i l at. each (suc i) l at)
edges_of_plan_lines p is (Some l ∷ os) each =
    let r = each zero l refl in
    ap₂ (λ (e : Edge) (es : List Edge). e ∷ es) (edge_of_numbers p is l r.first r.second) (edges_of_plan_lines p is os (λ i l at. each (suc i) l at))

pub all_lines : (p : PlanParts) → IsPlan p → line_edges (map_of p) ≡ edges_of_lines p.lines
all_lines p is = edges_of_plan_lines p is p.lines is.each

edges_more : (os : List (Option Line)) (i : ℕ) (o : Option Line) → slice_get os i ≡ Some o → edges_of_lines (take (suc i) os) ≡ edges_of_lines (take i os) ++ edges_of_line o
unfolding edges_of_lines
edges_more [] i o at = absurd (none-some o at)
edges_more (x ∷ os) zero o at = ap (λ (y : Option Line). edges_of_line y ++ []) (same_Some x o at) ∙ append_nil (edges_of_line o)
  where
    append_nil : (xs : List Edge) → xs ++ [] ≡ xs
    append_nil [] = refl
    append_nil (x ∷ xs) = ap (λ (ys : List Edge). x ∷ ys) (append_nil xs)
edges_more (x ∷ os) (suc i) o at = ap (λ (es : List Edge). edges_of_line x ++ es) (edges_more os i o at) ∙ sym (append_assoc (edges_of_line x) (edges_of_lines (take i os)) (edges_of_line o))

pub lines_none : (os : List (Option Line)) → edges_of_lines (take 0 os) ≡ []
unfolding edges_of_lines
lines_none os = refl

pub lines_next : (os : List (Option Line)) (i : ℕ) (o : Option Line) (mid new : List Edge) → slice_get os i ≡ Some o → new ≡ mid ++ edges_of_line o → mid ≡ edges_of_lines (take i os) → new ≡ edges_of_lines (take (i + 1) os)
lines_next os i o mid new at more before = more ∙ ap (λ (es : List Edge). es ++ edges_of_line o) before ∙ sym (edges_more os i o at) ∙ ap (λ (n : ℕ). edges_of_lines (take n os)) (sym (add-one i))

-- ---- all numbers

pub record IsCount (k : ℕ) (numbers : List ℕ) : Type 0 where
  pub count : length numbers ≡ k
  pub at : (i : ℕ) → i < k → slice_get numbers i ≡ Some i

pub all_counted : (k : ℕ) (numbers : List ℕ) → IsCount k numbers → (i : ℕ) → i < k → Contains numbers i
all_counted k numbers c i lt = contains_of_get numbers i i (c.at i lt)

-- ---- the points that are left unsaturated

pub record OpenUpTo (m : Map) (kept : List Edge) (points : ℕ) (unsaturated : List ℕ) (i : ℕ) (left : List ℕ) : Type 0 where
  pub numbers : AreNumbers points left
  pub before : (x : ℕ) → Contains left x → (k : ℕ) × (k < i) × (slice_get unsaturated k ≡ Some x)
  pub closed : (k x : ℕ) → k < i → slice_get unsaturated k ≡ Some x → Contains left x ⊎ IsSaturated m kept x

pub open_none : (m : Map) (kept : List Edge) (points : ℕ) (unsaturated : List ℕ) → OpenUpTo m kept points unsaturated 0 []
open_none m kept points unsaturated = record {
  numbers = record { within = λ k c. absurd (contains_none k c); ascend = λ i j x y lt at_i at_j. absurd (none-some x at_i) };
  before = λ x c. absurd (contains_none x c);
  closed = λ k x lt at. absurd (omega arith);
}

pub open_next : (m : Map) (kept : List Edge) (points : ℕ) (unsaturated : List ℕ) (i x : ℕ) (mid new : List ℕ) → AreNumbers points unsaturated → slice_get unsaturated i ≡ Some x → AddsIfUnsaturated m kept x mid new → OpenUpTo m kept points unsaturated i mid → OpenUpTo m kept points unsaturated (i + 1) new
open_next m kept points unsaturated i x mid new are at (inl e) o = subst (OpenUpTo m kept points unsaturated (i + 1)) (sym e) (record {
  numbers = record {
    within = λ k c. elim (Contains-push_cases mid x k c) [ inl h ↦ o.numbers.within k h | inr h ↦ subst (λ (n : ℕ). n < points) h (are.within x (contains_of_get unsaturated x i at)) ];
    ascend = λ a b y z lt at_a at_b. elim (pushed_at mid x z b at_b) [
      | inl h ↦ elim (pushed_at mid x y a at_a) [ inl k ↦ o.numbers.ascend a b y z lt k h | inr k ↦ absurd (let w = slice_get_within mid b z h in let q = k.0 in omega arith) ]
      | inr h ↦ elim (pushed_at mid x y a at_a) [
        | inl k ↦ let f = o.before y (contains_of_get mid y a k) in subst (λ (n : ℕ). y < n) h.1 (are.ascend f.0 i y x f.1 f.2 at)
        | inr k ↦ absurd (let p = h.0 in let q = k.0 in omega arith)
      ]
    ];
  };
  before = λ y c. elim (Contains-push_cases mid x y c) [ inl h ↦ later (o.before y h) | inr h ↦ (i, omega arith, at ∙ ap (λ (n : ℕ). Some n) h) ];
  closed = λ k y lt at_k. elim (below_or_last k i lt) [
    | inl less ↦ elim (o.closed k y less at_k) [ inl h ↦ inl (Contains-append_left mid (x ∷ []) y h) | inr h ↦ inr h ]
    | inr same ↦ inl (subst (Contains (mid ++ x ∷ [])) (same_Some x y (sym at ∙ ap (slice_get unsaturated) (sym same) ∙ at_k)) (Contains-push mid x))
  ];
})
  where
    later : {y : ℕ} → ((k : ℕ) × (k < i) × (slice_get unsaturated k ≡ Some y)) → (k : ℕ) × (k < i + 1) × (slice_get unsaturated k ≡ Some y)
    later (k, lt, e) = (k, omega arith, e)
open_next m kept points unsaturated i x mid new are at (inr e) o = subst (OpenUpTo m kept points unsaturated (i + 1)) (sym e.0) (record {
  numbers = o.numbers;
  before = λ y c. later (o.before y c);
  closed = λ k y lt at_k. elim (below_or_last k i lt) [
    | inl less ↦ o.closed k y less at_k
    | inr same ↦ inr (subst (IsSaturated m kept) (same_Some x y (sym at ∙ ap (slice_get unsaturated) (sym same) ∙ at_k)) e.1)
  ];
})
  where
    later : {y : ℕ} → ((k : ℕ) × (k < i) × (slice_get unsaturated k ≡ Some y)) → (k : ℕ) × (k < i + 1) × (slice_get unsaturated k ≡ Some y)
    later (k, lt, e) = (k, omega arith, e)

pub open_all : (m : Map) (kept : List Edge) (points : ℕ) (unsaturated : List ℕ) (i : ℕ) (left : List ℕ) → length unsaturated ≤ i → OpenUpTo m kept points unsaturated i left → AreUnsaturated m kept points unsaturated left
open_all m kept points unsaturated i left le o = record {
  ordered = o.numbers;
  among = λ k c. let f = o.before k c in contains_of_get unsaturated k f.0 f.2;
  closed = λ k c. o.closed c.0 k (let lt = c.1 in omega arith) (get_of_contains unsaturated k c.0 c.1 c.2);
}

pub line_fits : (p : PlanParts) → IsPlan p → (i : ℕ) (o : Option Line) → slice_get p.lines i ≡ Some o → IfSome o (IsPlanLine p.sectors (length p.points))
line_fits p is i None at = tt
line_fits p is i (Some l) at = is.each i l at
