-- A portal that was entered is no solid line, since two lines aren't the same segment.
use Rattle.std.proofs.Common.{◌≡◌, ◌≢◌, ℕ, ◌<◌, inl, inr, Option, Some, None, Bool, slice_index_or, length, sym, ap, ◌∙◌, subst}
use Rattle.std.proofs.lemmas.Bool.{cases_eq, true≢false}
use Rattle.std.proofs.lemmas.Option.{same_Some}
use Rattle.sight_names.specs.declared.names.Pt.{Pt}
use Rattle.sight_names.specs.declared.names.Side.{Side}
use Rattle.sight_names.specs.declared.plan.Line.{Line}
use Rattle.sight_names.specs.Map.{MapLine, map_of, line_at, origin}
use Rattle.sight_names.specs.Mesh.{side_edge}
use Rattle.sight_names.specs.Plan.{PlanParts, IsPlan}
use Rattle.sight_names.specs.Point.{OnSegment, point_of}
use Rattle.sight_names.specs.Sequence.{Portal, IsSolidLine, entry_edge}
use Rattle.sight_names.specs.Sound.{LinesMeetAtEnds, MeetAtEnds}
use Rattle.sight_names.proofs.Laws.{start_on, on_segment_sym}
use Rattle.sight_names.proofs.PlanMap.{line_of_plan, points_differ}
use Rattle.mesh_shape.proofs.RuleLemmas.{Joins, edge_joined}
use Rattle.mesh_shape.specs.HalfEdges.Kinds.{IsEnteredAt}
use Rattle.sight_names.proofs.Records.{whole_same}

-- both points are of the segment
ends_on : (f : ℕ → Pt) (l : Line) (u v : ℕ) → Joins l u v → OnSegment (point_of (f l.a)) (point_of (f l.b)) (point_of (f u)) × OnSegment (point_of (f l.a)) (point_of (f l.b)) (point_of (f v))
ends_on f l u v (inl h) = (
  subst (λ (k : ℕ). OnSegment (point_of (f l.a)) (point_of (f l.b)) (point_of (f k))) h.0 (start_on _ _),
  subst (λ (k : ℕ). OnSegment (point_of (f l.a)) (point_of (f l.b)) (point_of (f k))) h.1 (on_segment_sym _ _ _ (start_on _ _)),
)
ends_on f l u v (inr h) = (
  subst (λ (k : ℕ). OnSegment (point_of (f l.a)) (point_of (f l.b)) (point_of (f k))) h.1 (on_segment_sym _ _ _ (start_on _ _)),
  subst (λ (k : ℕ). OnSegment (point_of (f l.a)) (point_of (f l.b)) (point_of (f k))) h.0 (start_on _ _),
)

-- two records of which each is this edge are one record
pub one_record : (p : PlanParts) → IsPlan p → LinesMeetAtEnds (map_of p) → (d : Portal) (i j : ℕ) (k l : MapLine) (a b : Bool) → line_at (map_of p) i ≡ Some k → line_at (map_of p) j ≡ Some l → side_edge (map_of p) k a ≡ entry_edge d → side_edge (map_of p) l b ≡ entry_edge d → i ≡ j
one_record p is ends d i j k l a b at_i at_j e f = elim (cases_eq i j) [
  | inl same ↦ same
  | inr differ ↦ absurd (clash (ends i j k l differ at_i at_j))
]
  where
    clash : MeetAtEnds k.first k.second l.first l.second → ⊥
    clash h =
        let x = line_of_plan p.points p.lines i k at_i in
        let y = line_of_plan p.points p.lines j l at_j in
        let at : ℕ → Pt = λ n. slice_index_or p.points n origin in
        let jx : Joins x.0 d.left d.right = edge_joined p is i x.0 d.left d.right a x.1 (sym (ap (λ (m : MapLine). side_edge (map_of p) m a) x.2 ∙ e)) in
        let jy : Joins y.0 d.left d.right = edge_joined p is j y.0 d.left d.right b y.1 (sym (ap (λ (m : MapLine). side_edge (map_of p) m b) y.2 ∙ f)) in
        let ox = ends_on at x.0 d.left d.right jx in
        let oy = ends_on at y.0 d.left d.right jy in
        let g : MeetAtEnds (at x.0.a) (at x.0.b) (at y.0.a) (at y.0.b) = subst (λ (m : MapLine). MeetAtEnds (at x.0.a) (at x.0.b) m.first m.second) (sym y.2) (subst (λ (m : MapLine). MeetAtEnds m.first m.second l.first l.second) (sym x.2) h) in
        let q = is.each i x.0 x.1 in
        apart x.0 jx q.first q.second q.differ (whole_same (at d.left) (at d.right) (g.one (point_of (at d.left)) (point_of (at d.right)) (ox.0, oy.0) (ox.1, oy.1)))
      where
        apart : (x : Line) → Joins x d.left d.right → x.a < length p.points → x.b < length p.points → x.a ≢ x.b → slice_index_or p.points d.left origin ≢ slice_index_or p.points d.right origin
        apart x (inl h) s t n = subst (λ (u : ℕ). slice_index_or p.points u origin ≢ slice_index_or p.points d.right origin) h.0 (subst (λ (v : ℕ). slice_index_or p.points x.a origin ≢ slice_index_or p.points v origin) h.1 (points_differ p is x.a x.b s t n))
        apart x (inr h) s t n = subst (λ (u : ℕ). slice_index_or p.points u origin ≢ slice_index_or p.points d.right origin) h.1 (subst (λ (v : ℕ). slice_index_or p.points x.b origin ≢ slice_index_or p.points v origin) h.0 (points_differ p is x.b x.a t s (λ m. n (sym m))))

pub not_solid : (p : PlanParts) → IsPlan p → LinesMeetAtEnds (map_of p) → (d : Portal) (o : Option Side) → IsEnteredAt p d o → ¬ IsSolidLine (map_of p) d
not_solid p is ends d None free (i, l, left, at, solid, edge) = free (i, l, left, at, sym edge)
not_solid p is ends d (Some s) h (i, l, left, at, solid, edge) =
    let same : i ≡ s.line = one_record p is ends d i s.line l h.line left s.left at h.is_line edge h.edge in
    let one : l ≡ h.line = same_Some l h.line (sym at ∙ ap (line_at (map_of p)) same ∙ h.is_line) in
    true≢false (sym solid ∙ ap (λ (m : MapLine). m.solid) one ∙ h.passable)
