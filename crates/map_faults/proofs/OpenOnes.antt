-- The open sides, line after line; in the words of the map; and that the first of them is the one that an audit tells.
use Rattle.std.proofs.Common.{◌≡◌, ℕ, ◌+◌, ◌<◌, ◌≤◌, ◌⊎◌, inl, inr, List, [], ◌∷◌, ◌++◌, length, slice_get, slice_index_or, Bool, true, false, Option, Some, None, Contains, refl, sym, ap, ◌∙◌, subst, arith}
use Rattle.std.proofs.lemmas.Bool.{false≢true}
use Rattle.std.proofs.lemmas.Option.{same_Some, none-some}
use Rattle.math_base.proofs.Lists.{contains_none, contains_append, contains_left, contains_right, contains_one, contains_here}
use Rattle.math_base.proofs.Numbers.{below_or_last, below_or_not}
use Rattle.sight_names.specs.declared.names.Side.{Side}
use Rattle.sight_names.specs.declared.names.Triangle.{Triangle}
use Rattle.sight_names.specs.declared.plan.Line.{Line}
use Rattle.sight_names.specs.Plan.{PlanParts, IsPlan}
use Rattle.sight_names.specs.Map.{Map, MapLine, map_of, looked_up, line_at, named, Names}
use Rattle.sight_names.specs.Point.{Point}
use Rattle.sight_names.specs.Path.{Touches}
use Rattle.sight_names.specs.Mesh.{IsPlainMesh, side_edge, triangle_at}
use Rattle.sight_names.proofs.Lists.{contains_of_get, get_of_contains}
use Rattle.mesh_base.proofs.SightLaws.Paths.{Holds, path_walk}
use Rattle.mesh_base.proofs.SightLaws.Plans.{line_below}
use Rattle.mesh_base.proofs.GoodMesh.{PointFacts}
use Rattle.mesh_base.proofs.PlanFacts.{plan_facts}
use Rattle.mesh_shape.specs.Faults.{IsSideBefore, IsFirstSideAgainst}
use Rattle.mesh_shape.specs.Fills.{FillsSides}
use Rattle.mesh_shape.proofs.RuleLemmas.{plan_line_at, no_line_there}
use Rattle.face_groups.specs.TriSectors.Classes.{class_of}
use Rattle.face_groups.specs.TriSectors.Faces.{AreMarkedFaces}
use Rattle.face_groups.specs.TriSectors.Sides.{IsSealedEdge, IsSealedSide, IsSealedAt}
use Rattle.face_groups.specs.TriSectors.Verdict.{IsClosedSide}
use Rattle.face_groups.proofs.TriSectors.SideLemmas.{side_is, name_is, edge_of_side, name_of_side}
use Rattle.face_groups.proofs.TriSectors.FaceRegion.{Ground, GapOn, face_list, region_of, not_above, touched}
use Rattle.face_groups.proofs.TriSectors.FaceTouches.{LeadsOut, out_of_side, out_of_face}
use Rattle.map_faults.specs.OpenSides.{AreSidesAgainst, AreOpenSides, AreOpenBy, AddsOpen, AddsSides}
use Rattle.map_faults.proofs.Ordered.{one_behind}

-- ---- line after line

pub none_against : (P : Side → Type 0) → AreSidesAgainst (λ s. s.line < 0) P []
none_against P = record { each = λ s c. absurd (contains_none s c); rest = λ s lt. absurd (let h : s.line < 0 = lt in omega arith); ascend = λ i j x y lt a b. absurd (none-some x a) }

-- one side more, behind the others
against_more : (D E P : Side → Type 0) (side : Side) (old new : List Side) → ((s : Side) → D s → E s) → ((s : Side) → E s → D s ⊎ (s ≡ side)) → E side → ((s : Side) → D s → IsSideBefore s side)
    → AddsOpen (P side) side old new → AreSidesAgainst D P old → AreSidesAgainst E P new
against_more D E P side old new wider next here before (inl g) h = subst (AreSidesAgainst E P) (sym g.1) (record {
  each = λ s c. let w = h.each s c in (wider s w.0, w.1);
  rest = λ s e. elim (next s e) as (λ _. P s ⊎ Contains old s) [ inl d ↦ h.rest s d | inr same ↦ inl (subst P (sym same) g.0) ];
  ascend = h.ascend;
})
against_more D E P side old new wider next here before (inr g) h = subst (AreSidesAgainst E P) (sym g.1) (record {
  each = λ s c. elim (contains_append s old (side ∷ []) c) as (λ _. E s × ¬ P s) [ inl d ↦ let w = h.each s d in (wider s w.0, w.1) | inr one ↦ subst (λ (x : Side). E x × ¬ P x) (contains_one s side one) (here, g.0) ];
  rest = λ s e. elim (next s e) as (λ _. P s ⊎ Contains (old ++ side ∷ []) s) [
    | inl d ↦ elim (h.rest s d) as (λ _. P s ⊎ Contains (old ++ side ∷ []) s) [ inl p ↦ inl p | inr c ↦ inr (contains_left s old (side ∷ []) c) ]
    | inr same ↦ inr (contains_right s old (side ∷ []) (subst (Contains (side ∷ [])) (sym same) (contains_here side [])))
  ];
  ascend = one_behind IsSideBefore old side h.ascend (λ s c. before s (h.each s c).0);
})

abbrev side_of : ℕ → Bool → Side
side_of i left = record { line = i; left = left }

sealed_side : (p : PlanParts) → IsPlan p → (ts : List Triangle) (fs : List ℕ) (os : List Bool) (i : ℕ) (l : Line) (left : Bool) → slice_get p.lines i ≡ Some (Some l) → IsSealedSide ts fs os (edge_of_side l left) (name_of_side l left)
    → IsSealedAt (map_of p) ts fs os (side_of i left)
sealed_side p is ts fs os i l left e h k a at names =
    let same : looked_up p.points l ≡ k = same_Some (looked_up p.points l) k (sym (plan_line_at p i l e) ∙ at) in
    subst (IsSealedEdge ts fs os) (sym (side_is p is i l left e) ∙ ap (λ (x : MapLine). side_edge (map_of p) x left) same)
    (subst (IsSealedSide ts fs os (edge_of_side l left)) (sym (name_is p i l left e) ∙ names) h)

side_sealed : (p : PlanParts) → IsPlan p → (ts : List Triangle) (fs : List ℕ) (os : List Bool) (i : ℕ) (l : Line) (left : Bool) → slice_get p.lines i ≡ Some (Some l) → IsSealedAt (map_of p) ts fs os (side_of i left)
    → IsSealedSide ts fs os (edge_of_side l left) (name_of_side l left)
side_sealed p is ts fs os i l left e h = go (name_of_side l left) (name_is p i l left e)
  where
    go : (o : Option ℕ) → named (map_of p) (side_of i left) ≡ o → IsSealedSide ts fs os (edge_of_side l left) o
    go None names = tt
    go (Some a) names = subst (IsSealedEdge ts fs os) (side_is p is i l left e) (h (looked_up p.points l) a (plan_line_at p i l e) names)

adds_so : (P Q : Type 0) (side : Side) (old new : List Side) → (P → Q) → (Q → P) → AddsOpen P side old new → AddsOpen Q side old new
adds_so P Q side old new f g (inl h) = inl (f h.0, h.1)
adds_so P Q side old new f g (inr h) = inr (λ q. h.0 (g q), h.1)

module _ (p : PlanParts) (is : IsPlan p) (ts : List Triangle) (fs : List ℕ) (os : List Bool) where
  abbrev Sealed : Side → Type 0
  Sealed = IsSealedAt (map_of p) ts fs os

  pub line_added : (i : ℕ) (l : Line) (old new : List Side) → slice_get p.lines i ≡ Some (Some l) → AddsSides ts fs os i l old new → AreSidesAgainst (λ s. s.line < i) Sealed old → AreSidesAgainst (λ s. s.line < i + 1) Sealed new
  line_added i l old new at adds h =
      let one = against_more (λ s. s.line < i) (λ s. (s.line < i) ⊎ (s ≡ side_of i false)) Sealed (side_of i false) old adds.middle (λ s lt. inl lt) (λ s e. e) (inr refl) (λ s lt. inl lt)
      (adds_so _ (Sealed (side_of i false)) (side_of i false) old adds.middle (sealed_side p is ts fs os i l false at) (side_sealed p is ts fs os i l false at) adds.right) h in
      against_more (λ s. (s.line < i) ⊎ (s ≡ side_of i false)) (λ s. s.line < i + 1) Sealed (side_of i true) adds.middle new wider last (let g : i < i + 1 = omega arith in g) before
      (adds_so _ (Sealed (side_of i true)) (side_of i true) adds.middle new (sealed_side p is ts fs os i l true at) (side_sealed p is ts fs os i l true at) adds.left) one
    where
      wider : (s : Side) → (s.line < i) ⊎ (s ≡ side_of i false) → s.line < i + 1
      wider s (inl lt) = omega arith
      wider s (inr e) = let g = ap (λ (x : Side). x.line) e in omega arith

      before : (s : Side) → (s.line < i) ⊎ (s ≡ side_of i false) → IsSideBefore s (side_of i true)
      before s (inl lt) = inl lt
      before s (inr e) = inr (ap (λ (x : Side). x.line) e, ap (λ (x : Side). x.left) e, refl)

      last : (s : Side) → s.line < i + 1 → ((s.line < i) ⊎ (s ≡ side_of i false)) ⊎ (s ≡ side_of i true)
      last s lt = elim (below_or_last s.line i lt) as (λ _. ((s.line < i) ⊎ (s ≡ side_of i false)) ⊎ (s ≡ side_of i true)) [ inl below ↦ inl (inl below) | inr same ↦ which s.line s.left same ]
        where
          which : (k : ℕ) (left : Bool) → k ≡ i → ((k < i) ⊎ (side_of k left ≡ side_of i false)) ⊎ (side_of k left ≡ side_of i true)
          which k true e = inr (ap (λ (n : ℕ). side_of n true) e)
          which k false e = inl (inr (ap (λ (n : ℕ). side_of n false) e))

  sealed_without : (s : Side) → line_at (map_of p) s.line ≡ None → Sealed s
  sealed_without s none l a at names = absurd (none-some l (sym none ∙ at))

  pub no_line_added : (i : ℕ) (open_ : List Side) → slice_get p.lines i ≡ Some None → AreSidesAgainst (λ s. s.line < i) Sealed open_ → AreSidesAgainst (λ s. s.line < i + 1) Sealed open_
  no_line_added i open_ none h = record {
    each = λ s c. let w = h.each s c in (let lt = w.0 in let g : s.line < i + 1 = omega arith in g, w.1);
    rest = λ s lt. elim (below_or_last s.line i lt) as (λ _. Sealed s ⊎ Contains open_ s) [ inl below ↦ h.rest s below | inr same ↦ inl (sealed_without s (ap (line_at (map_of p)) same ∙ no_line_there p i none)) ];
    ascend = h.ascend;
  }

  pub all_added : (n : ℕ) (open_ : List Side) → length p.lines ≤ n → AreSidesAgainst (λ s. s.line < n) Sealed open_ → AreOpenBy (map_of p) ts fs os open_
  all_added n open_ past h = record {
    each = λ s c. (tt, (h.each s c).1);
    rest = λ s u. elim (below_or_not s.line n) as (λ _. Sealed s ⊎ Contains open_ s) [ inl below ↦ h.rest s below | inr beyond ↦ inl (λ l a at names. absurd (let lt = line_below p s.line l at in omega arith)) ];
    ascend = h.ascend;
  }

-- ---- in the words of the map

module _ (m : Map) (ts : List Triangle) (fs : List ℕ) (os : List Bool) (facts : PointFacts m) (plain : IsPlainMesh m ts) (filled : FillsSides m ts) (g : AreMarkedFaces m ts fs os) where
  ground : Ground m ts g.walls fs
  ground = record { facts = facts; plain = plain; walls = g.are_walls; faces = g.are_faces }

  abbrev Shut : ℕ → Type 0
  Shut k = slice_index_or os (class_of fs k) false ≡ false

  shut_face : (k : ℕ) → Shut k → ¬ GapOn ts g.walls fs (class_of fs k)
  shut_face k shut gap = false≢true (sym shut ∙ ap (λ (f : ℕ). slice_index_or os f false) (sym gap.face) ∙ g.are_open.gap gap.k gap.within gap.gap)

  leads_out : (s : Side) (a : ℕ) → Names m s a → IsClosedSide m s → LeadsOut m ts g.walls fs ground s → ⊥
  leads_out s a names closed o = closed a o.p o.q names o.touches o.leads o.outside

  closed_is_sealed : (s : Side) → IsClosedSide m s → IsSealedAt m ts fs os s
  closed_is_sealed s closed l a at names = go (triangle_at ts (side_edge m l s.left)) refl
    where
      shut_or_not : (k : ℕ) (b : Bool) → triangle_at ts (side_edge m l s.left) ≡ Some k → slice_index_or os (class_of fs k) false ≡ b → Shut k
      shut_or_not k false there e = e
      shut_or_not k true there e = absurd (leads_out s a names closed (out_of_face m ts g.walls fs ground s l k at there filled.beyond (let w = g.are_open.only (class_of fs k) e in record { k = w.0; within = w.1; face = w.2; gap = w.3 })))

      go : (o : Option ℕ) → triangle_at ts (side_edge m l s.left) ≡ o → (k : ℕ) × (triangle_at ts (side_edge m l s.left) ≡ Some k) × Shut k
      go None there = absurd (leads_out s a names closed (out_of_side m ts g.walls fs ground s l at (filled.lines (side_edge m l s.left) (s.line, l, s.left, at, refl)) there))
      go (Some k) there = (k, there, shut_or_not k (slice_index_or os (class_of fs k) false) there refl)

  holds_at : (s : Side) (k : ℕ) (p : Point) (t : Touches m p s) → triangle_at ts (side_edge m t.line s.left) ≡ Some k → Shut k → Holds (face_list m ts fs (class_of fs k)) p
  holds_at s k p t there shut = elim (touched m ts g.walls fs ground s k p t there) as (λ _. Holds (face_list m ts fs (class_of fs k)) p) [ inl h ↦ h | inr gap ↦ absurd (shut_face k shut gap) ]

  sealed_is_closed : (s : Side) → IsSealedAt m ts fs os s → IsClosedSide m s
  sealed_is_closed s sealed a p q names t leads outside =
      let h = sealed t.line a t.is names in
      let f = class_of fs h.0 in
      elim (path_walk m (face_list m ts fs f) (GapOn ts g.walls fs f) (region_of m ts g.walls fs ground f) p leads.0 q leads.1 (holds_at s h.0 p t h.1 h.2)) as (λ _. ⊥) [
        | inl holds ↦ not_above m ts g.walls fs ground f q holds outside
        | inr gap ↦ shut_face h.0 h.2 gap
      ]

  against_closed : (ss : List Side) → AreOpenBy m ts fs os ss → AreOpenSides m ss
  against_closed ss h = record {
    each = λ s c. (tt, λ closed. (h.each s c).1 (closed_is_sealed s closed));
    rest = λ s u. elim (h.rest s u) as (λ _. IsClosedSide m s ⊎ Contains ss s) [ inl sealed ↦ inl (sealed_is_closed s sealed) | inr c ↦ inr c ];
    ascend = h.ascend;
  }

pub open_in_map : (p : PlanParts) → IsPlan p → (ts : List Triangle) (fs : List ℕ) (os : List Bool) → AreMarkedFaces (map_of p) ts fs os → IsPlainMesh (map_of p) ts → FillsSides (map_of p) ts → (ss : List Side) → AreOpenBy (map_of p) ts fs os ss → AreOpenSides (map_of p) ss
open_in_map p is ts fs os g plain filled ss h = against_closed (map_of p) ts fs os (plan_facts p is) plain filled g ss h

-- ---- the first

pub first_is_told : (P : Side → Type 0) (ss : List Side) (s : Side) → AreSidesAgainst (λ s. Unit {0}) P ss → slice_get ss 0 ≡ Some s → IsFirstSideAgainst P s
first_is_told P ss s h first = record {
  against = (h.each s (contains_of_get ss s 0 first)).1;
  before = λ t order. elim (h.rest t tt) as (λ _. P t) [ inl p ↦ p | inr c ↦ absurd (later t order c.0 (get_of_contains ss t c.0 c.1 c.2)) ];
}
  where
    turned : (s t : Side) → IsSideBefore s t → IsSideBefore t s → ⊥
    turned s t (inl x) (inl y) = omega arith
    turned s t (inl x) (inr y) = let e = y.0 in omega arith
    turned s t (inr x) (inl y) = let e = x.0 in omega arith
    turned s t (inr x) (inr y) = false≢true (sym x.1 ∙ y.2)

    later : (t : Side) → IsSideBefore t s → (k : ℕ) → slice_get ss k ≡ Some t → ⊥
    later t order k at = elim (below_or_not 0 k) as (λ _. ⊥) [
      | inl lt ↦ turned s t (h.ascend 0 k s t lt first at) order
      | inr past ↦ turned s t (subst (IsSideBefore s) (same_Some s t (sym first ∙ ap (slice_get ss) (let e : 0 ≡ k = omega arith in e) ∙ at)) (subst (λ (x : Side). IsSideBefore x s) (same_Some t s (sym at ∙ ap (slice_get ss) (let e : k ≡ 0 = omega arith in e) ∙ first)) order)) order
    ]
