-- Which side each edge is, line after line.
use Rattle.std.proofs.Common.{◌≡◌, ◌≢◌, ℕ, ◌+◌, ◌*◌, ◌<◌, ◌≤◌, ◌⊎◌, inl, inr, List, ◌++◌, Option, Some, None, length, take, Bool, true, false, refl, sym, ◌∙◌, ap, subst, arith, option_map, slice_get, get_or}
use Rattle.std.proofs.Math.Seq.{take-append_seam}
use Rattle.std.proofs.lemmas.Option.{none-some, same_Some, slice_get_within, slice_get-get_or}
use Rattle.math_base.proofs.Numbers.{below_or_last}
use Rattle.sight_names.specs.declared.names.Side.{Side}
use Rattle.sight_names.specs.declared.names.Triangle.{Triangle}
use Rattle.sight_names.specs.declared.plan.Line.{Line}
use Rattle.sight_names.specs.Plan.{PlanParts, IsPlan}
use Rattle.sight_names.specs.Map.{MapLine, map_of, looked_up}
use Rattle.sight_names.specs.Points.{Edge, reverse_of}
use Rattle.sight_names.specs.Mesh.{AreTriangles, side_edge}
use Rattle.sight_names.proofs.PlanMap.{line_of_plan}
use Rattle.sight_names.proofs.PlanNumbers.{line_edge_of_plan}
use Rattle.mesh_shape.proofs.RuleLemmas.{plan_line_at}
use Rattle.mesh_shape.specs.HalfEdges.Numbers.{half_edge_number}
use Rattle.mesh_shape.specs.HalfEdges.Kinds.{edge_at}
use Rattle.mesh_shape.proofs.HalfEdges.EachLine.{IsSideOn, same_or_not}
use Rattle.mesh_shape.proofs.HalfEdges.Numbers.{one_edge}
use Rattle.map_faults.specs.EdgeSides.{IsSideOfEdge, AreEdgeSides, PutsSide, PutsRecordSides}

-- what is known of an edge when the sides of which D holds were seen
abbrev IsKnown : (ℕ → Bool → Type 0) → PlanParts → Edge → Option Side → Type 0
IsKnown D p e None = (k : ℕ) (left : Bool) (l : Line) → D k left → ¬ IsSideOn p e k left l
IsKnown D p e (Some s) = (l : Line) × IsSideOn p e s.line s.left l

pub record AreKnown (D : ℕ → Bool → Type 0) (p : PlanParts) (ts : List Triangle) (ss : List (Option Side)) : Type 0 where
  pub len : length ss ≡ length ts * 3
  pub each : (e : Edge) (i : ℕ) → half_edge_number ts e ≡ Some i → (o : Option Side) × (slice_get ss i ≡ Some o) × IsKnown D p e o

-- the sides of the first n records
abbrev pub AreKnownBelow : ℕ → PlanParts → List Triangle → List (Option Side) → Type 0
AreKnownBelow n p ts ss = AreKnown (λ k left. k < n) p ts ss

known_so : (D E : ℕ → Bool → Type 0) (p : PlanParts) (e : Edge) (o : Option Side) → ((k : ℕ) (left : Bool) (l : Line) → E k left → IsSideOn p e k left l → D k left) → IsKnown D p e o → IsKnown E p e o
known_so D E p e None back h = λ k left l seen on. h k left l (back k left l seen on) on
known_so D E p e (Some s) back h = h

-- one side put
side_put : (D E : ℕ → Bool → Type 0) (p : PlanParts) (ts : List Triangle) (points n : ℕ) (c : Bool) (x : Line) (old new : List (Option Side)) → ((k : ℕ) (b : Bool) → E k b → D k b ⊎ ((k ≡ n) × (b ≡ c))) → AreTriangles points ts → slice_get p.lines n ≡ Some (Some x)
    → AreKnown D p ts old → PutsSide (half_edge_number ts (edge_at x c)) (record { line = n; left = c }) old new → AreKnown E p ts new
side_put D E p ts points n c x old new next all is f g = record { len = g.len ∙ f.len; each = λ e i h. by e i h (f.each e i h) }
  where
    same_line : (e : Edge) (k : ℕ) (left : Bool) (l : Line) → k ≡ n → IsSideOn p e k left l → l ≡ x
    same_line e k left l q on = same_Some l x (same_Some (Some l) (Some x) (sym on.is ∙ ap (slice_get p.lines) q ∙ is))

    by : (e : Edge) (i : ℕ) → half_edge_number ts e ≡ Some i → (o : Option Side) × (slice_get old i ≡ Some o) × IsKnown D p e o → (o : Option Side) × (slice_get new i ≡ Some o) × IsKnown E p e o
    by e i h (o, at, known) = elim (same_or_not (half_edge_number ts (edge_at x c)) i) as (λ _. (o : Option Side) × (slice_get new i ≡ Some o) × IsKnown E p e o) [
      | inl q ↦ (Some (record { line = n; left = c }), g.here i q ∙ ap (option_map (λ (w : Option Side). let v : Option Side = Some (record { line = n; left = c }) in v)) at, (x, record { is = is; edge = one_edge points ts all (edge_at x c) e i q h }))
      | inr q ↦ (o, g.others i q ∙ at, known_so D E p e o (back q) known)
    ]
      where
        back : half_edge_number ts (edge_at x c) ≢ Some i → (k : ℕ) (left : Bool) (l : Line) → E k left → IsSideOn p e k left l → D k left
        back other k left l seen on = elim (next k left seen) as (λ _. D k left) [
          | inl s ↦ s
          | inr s ↦ absurd (other (ap (half_edge_number ts) (ap (edge_at x) (sym s.1) ∙ ap (λ (y : Line). edge_at y left) (sym (same_line e k left l s.0 on)) ∙ on.edge) ∙ h))
        ]

-- one record put
record_put : (p : PlanParts) (ts : List Triangle) (points n : ℕ) (entry : Option Line) (old new : List (Option Side)) → AreTriangles points ts → slice_get p.lines n ≡ Some entry → AreKnownBelow n p ts old → PutsRecordSides ts n entry old new → AreKnownBelow (n + 1) p ts new
record_put p ts points n None old new all is f g = subst (AreKnownBelow (n + 1) p ts) (sym g) (record { len = f.len; each = λ e i h. by e i (f.each e i h) })
  where
    by : (e : Edge) (i : ℕ) → (o : Option Side) × (slice_get old i ≡ Some o) × IsKnown (λ k left. k < n) p e o → (o : Option Side) × (slice_get old i ≡ Some o) × IsKnown (λ k left. k < n + 1) p e o
    by e i (o, at, known) = (o, at, known_so _ _ p e o back known)
      where
        back : (k : ℕ) (left : Bool) (l : Line) → k < n + 1 → IsSideOn p e k left l → k < n
        back k left l seen on = elim (below_or_last k n seen) as (λ _. k < n) [
          | inl s ↦ s
          | inr s ↦ absurd (none-some l (same_Some None (Some l) (sym is ∙ ap (slice_get p.lines) (sym s) ∙ on.is)))
        ]
record_put p ts points n (Some x) old new all is f g =
    let one = side_put (λ k left. k < n) (λ k left. (k < n) ⊎ ((k ≡ n) × (left ≡ true))) p ts points n true x old g.middle (λ k b h. h) all is f g.left in
    side_put (λ k left. (k < n) ⊎ ((k ≡ n) × (left ≡ true))) (λ k left. k < n + 1) p ts points n false x g.middle new last all is one g.right
  where
    last : (k : ℕ) (b : Bool) → k < n + 1 → ((k < n) ⊎ ((k ≡ n) × (b ≡ true))) ⊎ ((k ≡ n) × (b ≡ false))
    last k b h = elim (below_or_last k n h) as (λ _. ((k < n) ⊎ ((k ≡ n) × (b ≡ true))) ⊎ ((k ≡ n) × (b ≡ false))) [ inl s ↦ inl (inl s) | inr s ↦ which b s ]
      where
        which : (b : Bool) → k ≡ n → ((k < n) ⊎ ((k ≡ n) × (b ≡ true))) ⊎ ((k ≡ n) × (b ≡ false))
        which true s = inl (inr (s, refl))
        which false s = inr (s, refl)

pub known_step : (p : PlanParts) (ts : List Triangle) (points n : ℕ) (lines : List (Option Line)) (d : Option Line) (old middle new : List (Option Side)) → AreTriangles points ts → lines ≡ p.lines → n < length lines → AreKnownBelow n p ts old → middle ≡ old → PutsRecordSides ts n (get_or lines n d) middle new → AreKnownBelow (n + 1) p ts new
known_step p ts points n lines d old middle new all e l f same g = record_put p ts points n (get_or lines n d) middle new all (subst (λ (ls : List (Option Line)). slice_get ls n ≡ Some (get_or lines n d)) e (slice_get-get_or lines n d l)) (subst (AreKnownBelow n p ts) (sym same) f) g

pub put_back : (new rest : List (Option Side)) (n : ℕ) → length new ≡ n → take n (new ++ rest) ≡ new
put_back new rest n e = subst (λ (k : ℕ). take k (new ++ rest) ≡ new) e (take-append_seam new rest)

-- ---- as the map has it

line_side : (p : PlanParts) → IsPlan p → (k : ℕ) (l : Line) (left : Bool) → slice_get p.lines k ≡ Some (Some l) → side_edge (map_of p) (looked_up p.points l) left ≡ edge_at l left
line_side p is k l true e = line_edge_of_plan p is k l e
line_side p is k l false e = ap reverse_of (line_edge_of_plan p is k l e)

pub known_all : (p : PlanParts) (ts : List Triangle) (n : ℕ) (ss : List (Option Side)) → IsPlan p → length p.lines ≤ n → AreKnownBelow n p ts ss → AreEdgeSides (map_of p) ts ss
known_all p ts n ss is le f = record { len = f.len; each = λ e i h. by e i (f.each e i h) }
  where
    of_map : (e : Edge) (o : Option Side) → IsKnown (λ k left. k < n) p e o → IsSideOfEdge (map_of p) e o
    of_map e (Some s) (l, on) = (looked_up p.points l, plan_line_at p s.line l on.is, line_side p is s.line l s.left on.is ∙ on.edge)
    of_map e None known = λ w.
        let f = line_of_plan p.points p.lines w.0 w.1 w.3 in
        known w.0 w.2 f.0 (let lt = slice_get_within p.lines w.0 (Some f.0) f.1 in omega arith) (record { is = f.1; edge = sym (line_side p is w.0 f.0 w.2 f.1) ∙ ap (λ (z : MapLine). side_edge (map_of p) z w.2) f.2 ∙ sym w.4 })

    by : (e : Edge) (i : ℕ) → (o : Option Side) × (slice_get ss i ≡ Some o) × IsKnown (λ k left. k < n) p e o → (o : Option Side) × (slice_get ss i ≡ Some o) × IsSideOfEdge (map_of p) e o
    by e i (o, at, known) = (o, at, of_map e o known)
