-- What lies on each edge, line after line.
use Rattle.std.proofs.Common.{◌≡◌, ◌≢◌, ℕ, ◌+◌, ◌*◌, ◌<◌, ◌≤◌, ◌⊎◌, inl, inr, List, ◌++◌, Option, Some, None, length, take, Bool, true, false, refl, sym, ◌∙◌, ap, subst, arith, if◌then◌else◌, option_map, slice_get, get_or}
use Rattle.std.proofs.Math.Seq.{take-append_seam}
use Rattle.std.proofs.lemmas.Bool.{cases_lt, cases_eq, true≢false}
use Rattle.std.proofs.lemmas.Option.{none-some, same_Some, slice_get_within, slice_get-get_or}
use Rattle.sight_names.specs.declared.names.Triangle.{Triangle}
use Rattle.sight_names.specs.declared.plan.Line.{Line}
use Rattle.sight_names.specs.Plan.{PlanParts, IsPlan}
use Rattle.sight_names.specs.Map.{MapLine, map_of, looked_up, line_at}
use Rattle.sight_names.specs.Points.{Edge, reverse_of}
use Rattle.sight_names.specs.Mesh.{AreTriangles, IsLineEdge, side_edge}
use Rattle.sight_names.specs.Sequence.{IsSolidLine}
use Rattle.sight_names.proofs.PlanMap.{line_of_plan}
use Rattle.sight_names.proofs.PlanNumbers.{line_edge_of_plan}
use Rattle.mesh_shape.proofs.RuleLemmas.{plan_line_at}
use Rattle.mesh_shape.specs.declared.half_edges.kinds.EdgeKind.{EdgeKind}
use Rattle.mesh_shape.specs.declared.half_edges.kinds.EdgeKind.TheVariants.{Free, Passable, Solid}
use Rattle.mesh_shape.specs.HalfEdges.Numbers.{half_edge_number}
use Rattle.mesh_shape.specs.HalfEdges.Kinds.{edge_at, IsEdgeKind, portal_on, kind_at, joined, PutsKind, PutsRecordKinds, AreKinds}
use Rattle.mesh_shape.proofs.HalfEdges.Numbers.{one_edge}

-- ---- what is known of an edge when the sides below a rank were seen

-- the left side of a line first
abbrev pub rank : ℕ → Bool → ℕ
rank k true = k * 2
rank k false = k * 2 + 1

-- a line whose side is this edge
pub record IsSideOn (p : PlanParts) (e : Edge) (k : ℕ) (left : Bool) (l : Line) : Type 0 where
  pub is : slice_get p.lines k ≡ Some (Some l)
  pub edge : edge_at l left ≡ e

abbrev pub IsKnown : PlanParts → ℕ → Edge → EdgeKind → Type 0
IsKnown p m e Free = (k : ℕ) (left : Bool) (l : Line) → rank k left < m → ¬ IsSideOn p e k left l
IsKnown p m e (Passable s) = ((l : Line) × (rank s.line s.left < m) × IsSideOn p e s.line s.left l × (l.solid ≡ false))
    × ((k : ℕ) (left : Bool) (l : Line) → rank k left < m → IsSideOn p e k left l → l.solid ≡ false)
IsKnown p m e Solid = (k : ℕ) × (left : Bool) × (l : Line) × (rank k left < m) × IsSideOn p e k left l × (l.solid ≡ true)

-- the sides from m on that were seen too are not this edge
known_more : (p : PlanParts) (m n : ℕ) (e : Edge) (kind : EdgeKind) → m ≤ n → ((k : ℕ) (left : Bool) (l : Line) → rank k left < n → IsSideOn p e k left l → rank k left < m) → IsKnown p m e kind → IsKnown p n e kind
known_more p m n e Free le back h = λ k left l r on. h k left l (back k left l r on) on
known_more p m n e (Passable s) le back h = ((h.0.0, wider (rank s.line s.left) h.0.1, h.0.2, h.0.3), λ k left l r on. h.1 k left l (back k left l r on) on)
  where
    wider : (r : ℕ) → r < m → r < n
    wider r l = omega arith
known_more p m n e Solid le back h = (h.0, h.1, h.2, wider (rank h.0 h.1) h.3, h.4, h.5)
  where
    wider : (r : ℕ) → r < m → r < n
    wider r l = omega arith

-- a side below the next rank is this one or was seen
below_next : (k n : ℕ) (b c : Bool) → rank k b < rank n c + 1 → (rank k b < rank n c) ⊎ ((k ≡ n) × (b ≡ c))
below_next k n true true h = elim (cases_lt (k * 2) (n * 2)) as (λ _. (k * 2 < n * 2) ⊎ ((k ≡ n) × (true ≡ true))) [ inl l ↦ inl l | inr l ↦ inr (omega (arith, h, l), refl) ]
below_next k n true false h = elim (cases_lt (k * 2) (n * 2 + 1)) as (λ _. (k * 2 < n * 2 + 1) ⊎ ((k ≡ n) × (true ≡ false))) [ inl l ↦ inl l | inr l ↦ absurd (omega (arith, h, l)) ]
below_next k n false true h = inl (omega (arith, h))
below_next k n false false h = elim (cases_lt (k * 2 + 1) (n * 2 + 1)) as (λ _. (k * 2 + 1 < n * 2 + 1) ⊎ ((k ≡ n) × (false ≡ false))) [ inl l ↦ inl l | inr l ↦ inr (omega (arith, h, l), refl) ]

module _ (p : PlanParts) (n : ℕ) (c : Bool) (x : Line) (is : slice_get p.lines n ≡ Some (Some x)) (e : Edge) where
  same_line : (k : ℕ) (left : Bool) (l : Line) → k ≡ n → IsSideOn p e k left l → l ≡ x
  same_line k left l q on = some_some l x (sym on.is ∙ ap (slice_get p.lines) q ∙ is)
    where
      some_some : (l x : Line) → ◌≡◌ {A = Option (Option Line)} (Some (Some l)) (Some (Some x)) → l ≡ x
      some_some l x q = same_Some l x (same_Some (Some l) (Some x) q)

  -- the side is another edge
  known_over : (kind : EdgeKind) → edge_at x c ≢ e → IsKnown p (rank n c) e kind → IsKnown p (rank n c + 1) e kind
  known_over kind other h = known_more p (rank n c) (rank n c + 1) e kind (omega arith) back h
    where
      back : (k : ℕ) (left : Bool) (l : Line) → rank k left < rank n c + 1 → IsSideOn p e k left l → rank k left < rank n c
      back k left l r on = elim (below_next k n left c r) as (λ _. rank k left < rank n c) [
        | inl s ↦ s
        | inr s ↦ absurd (other (ap (edge_at x) (sym s.1) ∙ ap (λ (y : Line). edge_at y left) (sym (same_line k left l s.0 on)) ∙ on.edge))
      ]

  -- the side is this edge
  known_with : (kind : EdgeKind) → edge_at x c ≡ e → IsKnown p (rank n c) e kind → IsKnown p (rank n c + 1) e (joined kind (kind_at x n c))
  known_with kind here h = by x.solid refl
    where
      below : rank n c < rank n c + 1
      below = omega arith

      on : IsSideOn p e n c x
      on = record { is = is; edge = here }

      closed : (b : EdgeKind) → x.solid ≡ true → joined b Solid ≡ Solid
      closed Free s = refl
      closed (Passable t) s = refl
      closed Solid s = refl

      at_solid : x.solid ≡ true → kind_at x n c ≡ Solid
      at_solid s = ap (λ (b : Bool). let o : EdgeKind = if b then Solid else Passable (record { line = n; left = c }) in o) s

      at_open : x.solid ≡ false → kind_at x n c ≡ Passable (record { line = n; left = c })
      at_open s = ap (λ (b : Bool). let o : EdgeKind = if b then Solid else Passable (record { line = n; left = c }) in o) s

      wider : (r : ℕ) → r < rank n c → r < rank n c + 1
      wider r l = omega arith

      open_too : x.solid ≡ false → (none : (k : ℕ) (left : Bool) (l : Line) → rank k left < rank n c → IsSideOn p e k left l → l.solid ≡ false) → (k : ℕ) (left : Bool) (l : Line) → rank k left < rank n c + 1 → IsSideOn p e k left l → l.solid ≡ false
      open_too s none k left l r side = elim (below_next k n left c r) as (λ _. l.solid ≡ false) [
        | inl q ↦ none k left l q side
        | inr q ↦ ap (λ (y : Line). y.solid) (same_line k left l q.0 side) ∙ s
      ]

      passing : (kind : EdgeKind) → x.solid ≡ false → IsKnown p (rank n c) e kind → IsKnown p (rank n c + 1) e (joined kind (Passable (record { line = n; left = c })))
      passing Free s h = ((x, below, on, s), open_too s (λ k left l r side. absurd (h k left l r side)))
      passing (Passable t) s h = ((x, below, on, s), open_too s h.1)
      passing Solid s h = (h.0, h.1, h.2, wider (rank h.0 h.1) h.3, h.4, h.5)

      by : (b : Bool) → x.solid ≡ b → IsKnown p (rank n c + 1) e (joined kind (kind_at x n c))
      by true s = subst (IsKnown p (rank n c + 1) e) (sym (ap (joined kind) (at_solid s) ∙ closed kind s)) (n, c, x, below, on, s)
      by false s = subst (λ (o : EdgeKind). IsKnown p (rank n c + 1) e (joined kind o)) (sym (at_open s)) (passing kind s h)

-- ---- the table

pub record KindsBelow (p : PlanParts) (ts : List Triangle) (m : ℕ) (kinds : List EdgeKind) : Type 0 where
  pub len : length kinds ≡ length ts * 3
  pub each : (e : Edge) (i : ℕ) → half_edge_number ts e ≡ Some i → (kind : EdgeKind) × (slice_get kinds i ≡ Some kind) × IsKnown p m e kind

pub same_or_not : (o : Option ℕ) (i : ℕ) → (o ≡ Some i) ⊎ (o ≢ Some i)
same_or_not None i = inr (none-some i)
same_or_not (Some j) i = elim (cases_eq j i) as (λ _. (Some j ≡ Some i) ⊎ (Some j ≢ Some i)) [ inl h ↦ inl (ap (λ (k : ℕ). let o : Option ℕ = Some k in o) h) | inr h ↦ inr (λ q. h (same_Some j i q)) ]

-- one side put
side_put : (p : PlanParts) (ts : List Triangle) (points k : ℕ) (left : Bool) (l : Line) (old new : List EdgeKind) → AreTriangles points ts → slice_get p.lines k ≡ Some (Some l) → KindsBelow p ts (rank k left) old → PutsKind (half_edge_number ts (edge_at l left)) (kind_at l k left) old new → KindsBelow p ts (rank k left + 1) new
side_put p ts points k left l old new all is f g = record { len = g.len ∙ f.len; each = λ e i h. by e i h (f.each e i h) }
  where
    by : (e : Edge) (i : ℕ) → half_edge_number ts e ≡ Some i → (kind : EdgeKind) × (slice_get old i ≡ Some kind) × IsKnown p (rank k left) e kind → (kind : EdgeKind) × (slice_get new i ≡ Some kind) × IsKnown p (rank k left + 1) e kind
    by e i h (kind, at, known) = elim (same_or_not (half_edge_number ts (edge_at l left)) i) as (λ _. (kind : EdgeKind) × (slice_get new i ≡ Some kind) × IsKnown p (rank k left + 1) e kind) [
      | inl q ↦ (joined kind (kind_at l k left), g.here i q ∙ ap (option_map (λ (o : EdgeKind). joined o (kind_at l k left))) at, known_with p k left l is e kind (one_edge points ts all (edge_at l left) e i q h) known)
      | inr q ↦ (kind, g.others i q ∙ at, known_over p k left l is e kind (λ s. q (ap (half_edge_number ts) s ∙ h)) known)
    ]

kinds_same : (p : PlanParts) (ts : List Triangle) (m n : ℕ) (kinds : List EdgeKind) → m ≡ n → KindsBelow p ts m kinds → KindsBelow p ts n kinds
kinds_same p ts m n kinds e h = subst (λ (r : ℕ). KindsBelow p ts r kinds) e h

-- one record put
record_put : (p : PlanParts) (ts : List Triangle) (points k : ℕ) (entry : Option Line) (old new : List EdgeKind) → AreTriangles points ts → slice_get p.lines k ≡ Some entry → KindsBelow p ts (k * 2) old → PutsRecordKinds ts k entry old new → KindsBelow p ts ((k + 1) * 2) new
record_put p ts points k None old new all is f g = record { len = ap length g ∙ f.len; each = λ e i h. by e i (f.each e i h) }
  where
    back : (e : Edge) (j : ℕ) (left : Bool) (l : Line) → rank j left < (k + 1) * 2 → IsSideOn p e j left l → rank j left < k * 2
    back e j left l r on = elim (cases_lt j k) as (λ _. rank j left < k * 2) [
      | inl s ↦ lower left s
      | inr s ↦ absurd (none-some l (same_Some None (Some l) (sym is ∙ ap (slice_get p.lines) (equal left r s) ∙ on.is)))
    ]
      where
        lower : (b : Bool) → j < k → rank j b < k * 2
        lower true s = omega arith
        lower false s = omega arith

        equal : (b : Bool) → rank j b < (k + 1) * 2 → k ≤ j → k ≡ j
        equal true q s = omega arith
        equal false q s = omega arith

    by : (e : Edge) (i : ℕ) → (kind : EdgeKind) × (slice_get old i ≡ Some kind) × IsKnown p (k * 2) e kind → (kind : EdgeKind) × (slice_get new i ≡ Some kind) × IsKnown p ((k + 1) * 2) e kind
    by e i (kind, at, known) = (kind, ap (λ (ks : List EdgeKind). slice_get ks i) g ∙ at, known_more p (k * 2) ((k + 1) * 2) e kind (omega arith) (back e) known)
record_put p ts points k (Some l) old new all is f g =
    let one = side_put p ts points k true l old g.middle all is f g.left in
    let two = side_put p ts points k false l g.middle new all is one g.right in
    kinds_same p ts (k * 2 + 1 + 1) ((k + 1) * 2) new (omega arith) two

pub kinds_step : (p : PlanParts) (ts : List Triangle) (points k : ℕ) (lines : List (Option Line)) (d : Option Line) (old middle new : List EdgeKind) → AreTriangles points ts → lines ≡ p.lines → k < length lines → KindsBelow p ts (k * 2) old → middle ≡ old → PutsRecordKinds ts k (get_or lines k d) middle new → KindsBelow p ts ((k + 1) * 2) new
kinds_step p ts points k lines d old middle new all e l f same g = record_put p ts points k (get_or lines k d) middle new all (subst (λ (ls : List (Option Line)). slice_get ls k ≡ Some (get_or lines k d)) e (slice_get-get_or lines k d l)) (subst (KindsBelow p ts (k * 2)) (sym same) f) g

-- the kinds of a slice put back into their vector
pub put_back : (new rest : List EdgeKind) (n : ℕ) → length new ≡ n → take n (new ++ rest) ≡ new
put_back new rest n e = subst (λ (k : ℕ). take k (new ++ rest) ≡ new) e (take-append_seam new rest)

-- ---- as the map has it

line_side : (p : PlanParts) → IsPlan p → (k : ℕ) (l : Line) (left : Bool) → slice_get p.lines k ≡ Some (Some l) → side_edge (map_of p) (looked_up p.points l) left ≡ edge_at l left
line_side p is k l true e = line_edge_of_plan p is k l e
line_side p is k l false e = ap reverse_of (line_edge_of_plan p is k l e)

module _ (p : PlanParts) (is : IsPlan p) (m : ℕ) (enough : length p.lines * 2 ≤ m) (e : Edge) where
  seen : (k : ℕ) (left : Bool) (l : Line) → slice_get p.lines k ≡ Some (Some l) → rank k left < m
  seen k true l at = let w = slice_get_within p.lines k (Some l) at in omega (arith, w, enough)
  seen k false l at = let w = slice_get_within p.lines k (Some l) at in omega (arith, w, enough)

  -- a line of the map that is this edge is a side of the plan
  side_of_map : (k : ℕ) (y : MapLine) (left : Bool) → line_at (map_of p) k ≡ Some y → side_edge (map_of p) y left ≡ e → (l : Line) × (looked_up p.points l ≡ y) × IsSideOn p e k left l
  side_of_map k y left at h =
      let f = line_of_plan p.points p.lines k y at in
      (f.0, f.2, record { is = f.1; edge = sym (line_side p is k f.0 left f.1) ∙ ap (λ (z : MapLine). side_edge (map_of p) z left) f.2 ∙ h })

  none_solid : ((k : ℕ) (left : Bool) (l : Line) → rank k left < m → IsSideOn p e k left l → l.solid ≡ false) → ¬ IsSolidLine (map_of p) (portal_on e)
  none_solid none (k, y, left, at, s, h) =
      let f = side_of_map k y left at h in
      true≢false (sym s ∙ ap (λ (z : MapLine). z.solid) (sym f.1) ∙ none k left f.0 (seen k left f.0 f.2.is) f.2)

  kind_of_map : (kind : EdgeKind) → IsKnown p m e kind → IsEdgeKind p e kind
  kind_of_map Free h = none
    where
      none : ¬ IsLineEdge (map_of p) e
      none (k, y, left, at, q) = let f = side_of_map k y left at (sym q) in h k left f.0 (seen k left f.0 f.2.is) f.2
  kind_of_map (Passable s) h = (
    record {
      within = slice_get_within p.lines s.line (Some h.0.0) h.0.2.is;
      line = looked_up p.points h.0.0;
      is_line = plan_line_at p s.line h.0.0 h.0.2.is;
      passable = h.0.3;
      edge = line_side p is s.line h.0.0 s.left h.0.2.is ∙ h.0.2.edge;
    },
    none_solid h.1,
  )
  kind_of_map Solid h = (h.0, looked_up p.points h.2, h.1, plan_line_at p h.0 h.2 h.4.is, h.5, line_side p is h.0 h.2 h.1 h.4.is ∙ h.4.edge)

pub kinds_all : (p : PlanParts) (ts : List Triangle) (k : ℕ) (kinds : List EdgeKind) → IsPlan p → length p.lines ≤ k → KindsBelow p ts (k * 2) kinds → AreKinds p ts kinds
kinds_all p ts k kinds is le f = record { len = f.len; each = λ e i h. by e i (f.each e i h) }
  where
    by : (e : Edge) (i : ℕ) → (kind : EdgeKind) × (slice_get kinds i ≡ Some kind) × IsKnown p (k * 2) e kind → (kind : EdgeKind) × (slice_get kinds i ≡ Some kind) × IsEdgeKind p e kind
    by e i (kind, at, known) = (kind, at, kind_of_map p is (k * 2) (omega arith) e kind known)
