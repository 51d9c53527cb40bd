-- Neighbours and kept segments: a pair is crossed by one that shares more with it than ends.
use Rattle.std.proofs.Common.{not, ◌≡◌, ℕ, ◌<◌, ◌≤◌, ◌⊎◌, inl, inr, List, length, get_or, slice_get, Contains, map, pos, Bool, true, false, ◌==◌, cond, Option, Some, option_map, refl, sym, ap, ◌∙◌, subst, arith, eqb-true}
use Rattle.std.proofs.lemmas.Option.{slice_get-get_or, slice_get-map, slice_get_within, get_or_from_slice_get, same_Some, none-some}
use Rattle.std.specs.Bool.{OnTrue}
use Rattle.std.proofs.lemmas.Bool.{cases_eq}
use Rattle.sight_names.specs.Map.{Map, map_of}
use Rattle.sight_names.specs.Plan.{PlanParts, IsPlan}
use Rattle.sight_names.specs.Point.{Point}
use Rattle.sight_names.specs.Points.{Edge, place}
use Rattle.sight_names.specs.Sound.{IsCommon, MeetAtEnds}
use Rattle.sight_names.specs.declared.names.Pt.{Pt}
use Rattle.geom_exact.specs.Formulas.{turn_of}
use Rattle.geom_exact.specs.Common.{IsMeeting}
use Rattle.geom_exact.proofs.RelationLemmas.{turn_at_first, only_of_meeting, end_of_first, end_of_second}
use Rattle.std.proofs.lemmas.Int.{ints}
use Rattle.sight_names.specs.Greedy.{EdgesMeetAtEnds}
use Rattle.sight_names.proofs.Lists.{contains_of_get, get_of_contains}
use Rattle.sight_names.proofs.Meets.{flip_first, flip_second}
use Rattle.mesh_shape.proofs.Separate.{numbers_apart, apart_at_ends, common_swapped}
use Rattle.triangulate.specs.declared.incident_segments.segments.Segment.{Segment}
use Rattle.triangulate.specs.IncidentSegments.Incident.{has_end, other_end, AreSegments}
use Rattle.triangulate.specs.IncidentSegments.Kept.{edge_of, edges_of, MeetsEach, IsCrossedBy}
use Rattle.triangulate.specs.IncidentSegments.Neighbours.{IsNeighbour}
use Rattle.triangulate.specs.GreedySegments.Crossed.{SegmentsMeet, IsSegmentCrossedAt, MayReach}
use Rattle.triangulate.proofs.IncidentSegments.KeptEdges.{any_segment}
use Rattle.triangulate.proofs.IncidentSegments.Chains.{end_cases, other_from, end_to, end_from}

abbrev pub edge : ℕ → ℕ → Edge
edge u v = record { from = u; to = v }

pub same_edge : {a b c d : ℕ} → a ≡ c → b ≡ d → edge a b ≡ edge c d
same_edge e f = cc

pub other_not_from : (u : ℕ) (s : Segment) → ¬ (s.from ≡ u) → other_end u s ≡ s.from
other_not_from u s n = go (s.from == u) (eqb-true s.from u)
  where
    go : (b : Bool) → (b ≡ true → s.from ≡ u) → cond b s.to s.from ≡ s.from
    go true h = absurd (n (h refl))
    go false h = refl

-- ---- a neighbour is a kept segment, in one of its directions

edge_at : (segs : List Segment) (k : ℕ) (d : Segment) → k < length segs → Contains (edges_of segs) (edge_of (get_or segs k d))
edge_at segs k d lt = contains_of_get (map edge_of segs) (edge_of (get_or segs k d)) k (slice_get-map edge_of segs k ∙ ap (option_map edge_of) (slice_get-get_or segs k d lt))

pub neighbour_edge : (segs : List Segment) (u v : ℕ) → IsNeighbour segs u v → Contains (edges_of segs) (edge u v) ⊎ Contains (edges_of segs) (edge v u)
neighbour_edge segs u v (k, lt, end, other) = elim (cases_eq (get_or segs k any_segment).from u) [
  | inl e ↦ inl (subst (Contains (edges_of segs)) (same_edge e (sym (other any_segment ∙ other_from u (get_or segs k any_segment) e))) (edge_at segs k any_segment lt))
  | inr n ↦ inr (subst (Contains (edges_of segs)) (same_edge (sym (other any_segment ∙ other_not_from u (get_or segs k any_segment) n)) (to_end n (end_cases u (get_or segs k any_segment) (end any_segment)))) (edge_at segs k any_segment lt))
]
  where
    to_end : ¬ ((get_or segs k any_segment).from ≡ u) → ((get_or segs k any_segment).from ≡ u) ⊎ ((get_or segs k any_segment).to ≡ u) → (get_or segs k any_segment).to ≡ u
    to_end n (inl e) = absurd (n e)
    to_end n (inr e) = e

-- ---- a kept segment is a neighbour of both its ends

other_second : (s : Segment) → s.from ≡ other_end s.to s
other_second s = elim (cases_eq s.from s.to) [ inl e ↦ e ∙ sym (other_from s.to s e) | inr n ↦ sym (other_not_from s.to s n) ]

kept_at : (segs : List Segment) (f : Edge) (k : ℕ) → slice_get (map edge_of segs) k ≡ Some f → (s : Segment) × (slice_get segs k ≡ Some s) × (edge_of s ≡ f)
kept_at segs f k at = go (slice_get segs k) refl (sym (slice_get-map edge_of segs k) ∙ at)
  where
    go : (o : Option Segment) → slice_get segs k ≡ o → option_map edge_of (slice_get segs k) ≡ Some f → (s : Segment) × (slice_get segs k ≡ Some s) × (edge_of s ≡ f)
    go Option.None there e = absurd (none-some f (sym (ap (option_map edge_of) there) ∙ e))
    go (Some s) there e = (s, there, same_Some (edge_of s) f (sym (ap (option_map edge_of) there) ∙ e))

-- the segment that the edge is
pub kept_segment : (segs : List Segment) (f : Edge) → Contains (edges_of segs) f → (k : ℕ) × (k < length segs) × ((d : Segment) → edge_of (get_or segs k d) ≡ f)
kept_segment segs f c =
    let h = kept_at segs f c.0 (get_of_contains (map edge_of segs) f c.0 c.1 c.2) in
    (c.0, slice_get_within segs c.0 h.0 h.1, λ d. ap edge_of (get_or_from_slice_get segs c.0 h.0 d h.1) ∙ h.2)

pub edge_neighbours : (segs : List Segment) (f : Edge) → Contains (edges_of segs) f → IsNeighbour segs f.from f.to × IsNeighbour segs f.to f.from
edge_neighbours segs f c = go (kept_segment segs f c)
  where
    go : ((k : ℕ) × (k < length segs) × ((d : Segment) → edge_of (get_or segs k d) ≡ f)) → IsNeighbour segs f.from f.to × IsNeighbour segs f.to f.from
    go (k, lt, is) = (
      (
        k,
        lt,
        λ d. subst (λ (u : ℕ). has_end u (get_or segs k d) ≡ true) (ap (λ (e : Edge). e.from) (is d)) (end_from (get_or segs k d)),
        λ d. sym (ap (λ (e : Edge). e.to) (is d)) ∙ sym (other_from f.from (get_or segs k d) (ap (λ (e : Edge). e.from) (is d))),
      ),
      (
        k,
        lt,
        λ d. subst (λ (u : ℕ). has_end u (get_or segs k d) ≡ true) (ap (λ (e : Edge). e.to) (is d)) (end_to (get_or segs k d)),
        λ d. sym (ap (λ (e : Edge). e.from) (is d)) ∙ other_second (get_or segs k d) ∙ ap (λ (u : ℕ). other_end u (get_or segs k d)) (ap (λ (e : Edge). e.to) (is d)),
      ),
    )

-- ---- bars

turned : (m : Map) (e : Edge) (u v : ℕ) → EdgesMeetAtEnds m e (edge v u) → EdgesMeetAtEnds m e (edge u v)
turned m e u v h = flip_second (place m e.from) (place m e.to) (place m v) (place m u) h

pub bar_of_neighbour : (m : Map) (segs : List Segment) (u v : ℕ) (e : Edge) → IsNeighbour segs u v → ¬ EdgesMeetAtEnds m e (edge u v) → IsCrossedBy m (edges_of segs) e
bar_of_neighbour m segs u v e neighbour bars = elim (neighbour_edge segs u v neighbour) [
  | inl c ↦ (edge u v, c, bars)
  | inr c ↦ (edge v u, c, λ h. bars (turned m e u v h))
]

pub bar_at : (m : Map) (segs : List Segment) (u : ℕ) (e : Edge) → IsSegmentCrossedAt m segs u e → IsCrossedBy m (edges_of segs) e
bar_at m segs u e (v, neighbour, bars) = bar_of_neighbour m segs u v e neighbour bars

-- ---- a pair is clear where the segments at the points that can reach it meet it at ends alone

pub free_of_neighbours : (p : PlanParts) → IsPlan p → (segs : List Segment) (i j : ℕ) → i < j → j < length p.points → AreSegments (length p.points) segs
    → ((w : ℕ) → w ≤ j → MayReach segs i j w → SegmentsMeet (map_of p) segs w (edge i j)) → MeetsEach (map_of p) (edges_of segs) (edge i j)
free_of_neighbours p is segs i j ij wj each visited f c =
    let neighbours = edge_neighbours segs f c in
    let range = in_range in
    elim (cases f.from f.to) [
      | inl h ↦ visited f.from h.1 (inl h.0) f.to neighbours.0
      | inr (inl h) ↦ turned (map_of p) (edge i j) f.from f.to (visited f.to h.1 (inl h.0) f.from neighbours.1)
      | inr (inr (inl h)) ↦ visited f.from h.2 (inr (f.to, neighbours.0, h.1)) f.to neighbours.0
      | inr (inr (inr (inl h))) ↦ turned (map_of p) (edge i j) f.from f.to (visited f.to h.2 (inr (f.from, neighbours.1, h.1)) f.from neighbours.1)
      | inr (inr (inr (inr (inl h)))) ↦ apart (λ z k. numbers_apart p is i j f.from f.to range.0 range.1 (omega arith) (omega arith) h.0 h.1 z k)
      | inr (inr (inr (inr (inr h)))) ↦ apart (λ z k. numbers_apart p is f.from f.to i j (omega arith) wj h.0 (omega arith) h.1 (omega arith) z (common_swapped (place (map_of p) i) (place (map_of p) j) (place (map_of p) f.from) (place (map_of p) f.to) z k))
    ]
  where
    cases : (a b : ℕ) → ((i ≤ a) × (a ≤ j)) ⊎ ((i ≤ b) × (b ≤ j)) ⊎ ((a < i) × (j < b) × (a ≤ j)) ⊎ ((b < i) × (j < a) × (b ≤ j)) ⊎ ((j < a) × (j < b)) ⊎ ((a < i) × (b < i))
    cases a b = grind arith

    in_range : (f.from < length p.points) × (f.to < length p.points)
    in_range =
        let h = kept_segment segs f c in
        let s = each h.0 h.1 any_segment in
        let same = h.2 in
        (subst (λ (n : ℕ). n < length p.points) (ap (λ (e : Edge). e.from) (same any_segment)) s.from, subst (λ (n : ℕ). n < length p.points) (ap (λ (e : Edge). e.to) (same any_segment)) s.to)

    apart : ((z : Point) → IsCommon (place (map_of p) i) (place (map_of p) j) (place (map_of p) f.from) (place (map_of p) f.to) z → ⊥) → EdgesMeetAtEnds (map_of p) (edge i j) f
    apart none = apart_at_ends (place (map_of p) i) (place (map_of p) j) (place (map_of p) f.from) (place (map_of p) f.to) none

pub OnTrue_not : (b : Bool) (P : Type 0) → (b ≡ false → P) → OnTrue (not b) P
OnTrue_not true P f = tt
OnTrue_not false P f = f refl

pub bar_turned : (m : Map) (kept : List Edge) (u v : ℕ) → IsCrossedBy m kept (edge v u) → IsCrossedBy m kept (edge u v)
bar_turned m kept u v bar = (bar.0, bar.1, λ h. bar.2 (flip_first (place m u) (place m v) (place m bar.0.from) (place m bar.0.to) h))

-- two segments from p that aren't on one line have p alone in common
pub fan_ends : (p q s : Pt) → ¬ (turn_of p q s ≡ pos 0) → MeetAtEnds p q p s
fan_ends p q s off = record {
  one = λ u v c d. (only_of_meeting p q p s v (at v d)).only u c;
  ends = λ u c. (end_of_first p q p s u (at u c) (inl (turn_at_first p s)), end_of_second p q p s u (at u c) (inl (turn_at_first p q)));
}
  where
    at : (u : Point) → IsCommon p q p s u → IsMeeting p q p s u
    at u c = record { crossing = λ e. off (let z = turn_at_first p q in omega (arith, ints)); common = c }

-- as seen from the pair's other end
pub meet_turned : (m : Map) (segs : List Segment) (w u v : ℕ) → SegmentsMeet m segs w (edge v u) → SegmentsMeet m segs w (edge u v)
meet_turned m segs w u v h x s = flip_first (place m v) (place m u) (place m w) (place m x) (h x s)
