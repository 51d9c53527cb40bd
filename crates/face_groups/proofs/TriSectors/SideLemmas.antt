-- Open sides, sides that have triangles, and the names of faces.
use Rattle.std.proofs.Common.{◌≡◌, ℕ, ◌+◌, ◌<◌, ◌≤◌, ◌⊎◌, inl, inr, List, [], ◌∷◌, ◌++◌, length, slice_get, slice_index_or, get_or, Bool, true, false, Option, Some, None, MatchOption, option_and_then, All, refl, sym, ap, ◌∙◌, subst, arith}
use Rattle.std.proofs.lemmas.Bool.{false≢true}
use Rattle.std.proofs.lemmas.Option.{slice_get_within, slice_get-get_or, same_Some, none-some}
use Rattle.sight_names.specs.declared.names.Side.{Side}
use Rattle.sight_names.specs.declared.names.Triangle.{Triangle}
use Rattle.sight_names.specs.declared.plan.Line.{Line}
use Rattle.sight_names.specs.Plan.{PlanParts, IsPlan}
use Rattle.sight_names.specs.Map.{Map, MapLine, map_of, looked_up, line_at, named, sector_on}
use Rattle.sight_names.specs.Points.{Edge, reverse_of}
use Rattle.sight_names.specs.Mesh.{side_edge, triangle_at}
use Rattle.sight_names.proofs.PlanNumbers.{line_edge_of_plan}
use Rattle.mesh_base.proofs.SightLaws.Plans.{line_below}
use Rattle.mesh_shape.specs.Faults.{IsSideBefore}
use Rattle.mesh_shape.proofs.RuleLemmas.{plan_line_at, no_line_there}
use Rattle.face_groups.specs.declared.tri_sectors.sides.FacedSide.{FacedSide}
use Rattle.face_groups.specs.TriSectors.Classes.{IsBelow, class_of}
use Rattle.face_groups.specs.TriSectors.Sides.{IsSealedEdge, IsSealedSide, IsSealedAt, IsFirstOfLine, IsOpenLine, IsFaced, AreFacedOf, AreFaced, AreSidesAdded, IsSideAdded, AreAlike, IsFacedBelow}
use Rattle.math_base.proofs.Lists.{get_pushed, get_before_pushed, pushed_at}
use Rattle.math_base.proofs.Numbers.{below_or_last}
use Rattle.sight_names.proofs.Portals.{triangle_within}

-- ---- a plan's sides

abbrev pub edge_of_side : Line → Bool → Edge
edge_of_side l true = record { from = l.a; to = l.b }
edge_of_side l false = record { from = l.b; to = l.a }

abbrev pub name_of_side : Line → Bool → Option ℕ
name_of_side l true = l.left
name_of_side l false = l.right

pub side_is : (p : PlanParts) → IsPlan p → (i : ℕ) (l : Line) (left : Bool) → slice_get p.lines i ≡ Some (Some l) → side_edge (map_of p) (looked_up p.points l) left ≡ edge_of_side l left
side_is p is i l true e = line_edge_of_plan p is i l e
side_is p is i l false e = ap reverse_of (line_edge_of_plan p is i l e)

pub name_is : (p : PlanParts) (i : ℕ) (l : Line) (left : Bool) → slice_get p.lines i ≡ Some (Some l) → named (map_of p) (record { line = i; left = left }) ≡ name_of_side l left
name_is p i l true e = ap (option_and_then (λ (k : MapLine). sector_on k true)) (plan_line_at p i l e)
name_is p i l false e = ap (option_and_then (λ (k : MapLine). sector_on k false)) (plan_line_at p i l e)

-- ---- open sides

sealed_side : (p : PlanParts) → IsPlan p → (ts : List Triangle) (fs : List ℕ) (os : List Bool) (i : ℕ) (l : Line) (left : Bool) → slice_get p.lines i ≡ Some (Some l) → IsSealedSide ts fs os (edge_of_side l left) (name_of_side l left)
    → IsSealedAt (map_of p) ts fs os (record { line = i; left = left })
sealed_side p is ts fs os i l left e h k a at names =
    let same : looked_up p.points l ≡ k = same_Some (looked_up p.points l) k (sym (plan_line_at p i l e) ∙ at) in
    subst (IsSealedEdge ts fs os) (sym (side_is p is i l left e) ∙ ap (λ (x : MapLine). side_edge (map_of p) x left) same)
    (subst (IsSealedSide ts fs os (edge_of_side l left)) (sym (name_is p i l left e) ∙ names) h)

side_sealed : (p : PlanParts) → IsPlan p → (ts : List Triangle) (fs : List ℕ) (os : List Bool) (i : ℕ) (l : Line) (left : Bool) → slice_get p.lines i ≡ Some (Some l) → IsSealedAt (map_of p) ts fs os (record { line = i; left = left })
    → IsSealedSide ts fs os (edge_of_side l left) (name_of_side l left)
side_sealed p is ts fs os i l left e h = go (name_of_side l left) (name_is p i l left e)
  where
    go : (o : Option ℕ) → named (map_of p) (record { line = i; left = left }) ≡ o → IsSealedSide ts fs os (edge_of_side l left) o
    go None names = tt
    go (Some a) names = subst (IsSealedEdge ts fs os) (side_is p is i l left e) (h (looked_up p.points l) a (plan_line_at p i l e) names)

pub open_of_line : (p : PlanParts) → IsPlan p → (ts : List Triangle) (fs : List ℕ) (os : List Bool) (i : ℕ) (l : Line) (o : Option Bool) → slice_get p.lines i ≡ Some (Some l) → IsOpenLine ts fs os l o → IsFirstOfLine (IsSealedAt (map_of p) ts fs os) i o
open_of_line p is ts fs os i l None e h = both
  where
    both : (left : Bool) → IsSealedAt (map_of p) ts fs os (record { line = i; left = left })
    both true = sealed_side p is ts fs os i l true e h.1
    both false = sealed_side p is ts fs os i l false e h.0
open_of_line p is ts fs os i l (Some true) e h = (λ f. h.0 (side_sealed p is ts fs os i l true e f), λ w. sealed_side p is ts fs os i l false e h.1)
open_of_line p is ts fs os i l (Some false) e h = (λ f. h (side_sealed p is ts fs os i l false e f), λ w. absurd (false≢true w))

pub no_side_open : (p : PlanParts) (ts : List Triangle) (fs : List ℕ) (os : List Bool) (i : ℕ) (left : Bool) → line_at (map_of p) i ≡ None → IsSealedAt (map_of p) ts fs os (record { line = i; left = left })
no_side_open p ts fs os i left h k a at names = absurd (none-some k (sym h ∙ at))

-- ---- one more at the end of a list

-- ---- sides that have triangles

pub changed_faced : (D E : Side → Type 0) (m : Map) (ts : List Triangle) (fs : List ℕ) (ss : List FacedSide) → ((s : Side) → D s → E s) → ((s : Side) (l : MapLine) → line_at m s.line ≡ Some l → E s → D s) → AreFacedOf D m ts fs ss → AreFacedOf E m ts fs ss
changed_faced D E m ts fs ss f g h = record {
  each = λ i s e. let w = h.each i s e in (w.0, f s.side w.1);
  all = λ s l k d at there. h.all s l k (g s l at d) at there;
  ascend = h.ascend;
}

-- a side without a triangle changes nothing
added_none : (D E : Side → Type 0) (m : Map) (ts : List Triangle) (fs : List ℕ) (ss : List FacedSide) (s0 : Side) (l0 : MapLine) → line_at m s0.line ≡ Some l0 → triangle_at ts (side_edge m l0 s0.left) ≡ None
    → ((s : Side) → D s → E s) → ((s : Side) → E s → D s ⊎ (s ≡ s0)) → AreFacedOf D m ts fs ss → AreFacedOf E m ts fs ss
added_none D E m ts fs ss s0 l0 at0 none f g h = record {
  each = λ i s e. let w = h.each i s e in (w.0, f s.side w.1);
  all = λ s l k d at there. elim (g s d) as (λ _. (i : ℕ) × (x : FacedSide) × (slice_get ss i ≡ Some x) × (x.side ≡ s)) [
    | inl old ↦ h.all s l k old at there
    | inr same ↦ absurd (none-some k (sym none ∙ ap (λ (x : MapLine). triangle_at ts (side_edge m x s0.left)) (same_Some l0 l (sym at0 ∙ ap (λ (x : Side). line_at m x.line) (sym same) ∙ at))
        ∙ ap (λ (x : Side). triangle_at ts (side_edge m l x.left)) (sym same) ∙ there))
  ];
  ascend = h.ascend;
}

added_some : (D E : Side → Type 0) (m : Map) (ts : List Triangle) (fs : List ℕ) (ss : List FacedSide) (f0 : FacedSide) → IsFaced m ts fs f0 → E f0.side
    → ((s : Side) → D s → E s) → ((s : Side) → E s → D s ⊎ (s ≡ f0.side)) → ((s : Side) → D s → IsSideBefore s f0.side) → AreFacedOf D m ts fs ss → AreFacedOf E m ts fs (ss ++ f0 ∷ [])
added_some D E m ts fs ss f0 is d0 f g order h = record {
  each = λ i s e. elim (pushed_at ss f0 s i e) as (λ _. IsFaced m ts fs s × E s.side) [
    | inl old ↦ let w = h.each i s old in (w.0, f s.side w.1)
    | inr new ↦ subst (λ (x : FacedSide). IsFaced m ts fs x × E x.side) new.1 (is, d0)
  ];
  all = λ s l k d at there. elim (g s d) as (λ _. (i : ℕ) × (x : FacedSide) × (slice_get (ss ++ f0 ∷ []) i ≡ Some x) × (x.side ≡ s)) [
    | inl old ↦ let w = h.all s l k old at there in (w.0, w.1, get_before_pushed ss f0 w.1 w.0 w.2, w.3)
    | inr same ↦ (length ss, f0, get_pushed ss f0, sym same)
  ];
  ascend = λ i j s t lt e e2. elim (pushed_at ss f0 t j e2) as (λ _. IsSideBefore s.side t.side) [
    | inl old2 ↦ elim (pushed_at ss f0 s i e) as (λ _. IsSideBefore s.side t.side) [
      | inl old ↦ h.ascend i j s t lt old old2
      | inr new ↦ absurd (let w = slice_get_within ss j t old2 in let x = new.0 in omega (arith, lt, w, x))
    ]
    | inr new2 ↦ elim (pushed_at ss f0 s i e) as (λ _. IsSideBefore s.side t.side) [
      | inl old ↦ subst (λ (x : FacedSide). IsSideBefore s.side x.side) new2.1 (order s.side (h.each i s old).1)
      | inr new ↦ absurd (let x = new.0 in let y = new2.0 in omega (arith, lt, x, y))
    ]
  ];
}

-- one side of a plan's line
one_added : (D E : Side → Type 0) (p : PlanParts) → IsPlan p → (ts : List Triangle) (fs : List ℕ) (old new : List FacedSide) (n : ℕ) (l : Line) (left : Bool) → slice_get p.lines n ≡ Some (Some l) → E (record { line = n; left = left })
    → ((s : Side) → D s → E s) → ((s : Side) → E s → D s ⊎ (s ≡ record { line = n; left = left })) → ((s : Side) → D s → IsSideBefore s (record { line = n; left = left }))
    → IsSideAdded ts fs (edge_of_side l left) (record { line = n; left = left }) (name_of_side l left) old new → AreFacedOf D (map_of p) ts fs old → AreFacedOf E (map_of p) ts fs new
one_added D E p is ts fs old new n l left e d0 f g order added h = go (triangle_at ts (edge_of_side l left)) refl added
  where
    go : (o : Option ℕ) → triangle_at ts (edge_of_side l left) ≡ o → MatchOption o (new ≡ old) (λ k. new ≡ old ++ record { side = record { line = n; left = left }; face = class_of fs k; sector = name_of_side l left } ∷ []) → AreFacedOf E (map_of p) ts fs new
    go None there same = subst (λ (xs : List FacedSide). AreFacedOf E (map_of p) ts fs xs) (sym same)
        (added_none D E (map_of p) ts fs old (record { line = n; left = left }) (looked_up p.points l) (plan_line_at p n l e) (ap (triangle_at ts) (side_is p is n l left e) ∙ there) f g h)
    go (Some k) there same = subst (λ (xs : List FacedSide). AreFacedOf E (map_of p) ts fs xs) (sym same)
        (added_some D E (map_of p) ts fs old (record { side = record { line = n; left = left }; face = class_of fs k; sector = name_of_side l left })
        (record { line = looked_up p.points l; is = plan_line_at p n l e; k = k; at = ap (triangle_at ts) (side_is p is n l left e) ∙ there; face = refl; sector = sym (name_is p n l left e) }) d0 f g order h)

same_side : (s : Side) (n : ℕ) (left : Bool) → s.line ≡ n → s.left ≡ left → s ≡ record { line = n; left = left }
same_side s n left e f = go s.line s.left e f
  where
    go : (a : ℕ) (b : Bool) → a ≡ n → b ≡ left → ◌≡◌ {A = Side} (record { line = a; left = b }) (record { line = n; left = left })
    go a b e f = cc

left_or_right : (b : Bool) → (b ≡ false) ⊎ (b ≡ true)
left_or_right false = inl refl
left_or_right true = inr refl

pub line_added : (p : PlanParts) → IsPlan p → (ts : List Triangle) (fs : List ℕ) (old new : List FacedSide) (n : ℕ) (l : Line) → slice_get p.lines n ≡ Some (Some l) → AreSidesAdded ts fs n l old new
    → AreFacedOf (λ s. s.line < n) (map_of p) ts fs old → AreFacedOf (λ s. s.line < n + 1) (map_of p) ts fs new
line_added p is ts fs old new n l e added h =
    one_added (λ s. (s.line < n) ⊎ ((s.line ≡ n) × (s.left ≡ false))) (λ s. s.line < n + 1) p is ts fs added.middle new n l true e (omega arith)
    (λ s d. elim d as (λ _. s.line < n + 1) [ inl lt ↦ omega (arith, lt) | inr w ↦ let x = w.0 in omega (arith, x) ])
    (λ s lt. elim (below_or_last s.line n lt) as (λ _. ((s.line < n) ⊎ ((s.line ≡ n) × (s.left ≡ false))) ⊎ (s ≡ record { line = n; left = true })) [
      | inl less ↦ inl (inl less)
      | inr same ↦ elim (left_or_right s.left) as (λ _. ((s.line < n) ⊎ ((s.line ≡ n) × (s.left ≡ false))) ⊎ (s ≡ record { line = n; left = true })) [ inl b ↦ inl (inr (same, b)) | inr b ↦ inr (same_side s n true same b) ]
    ])
    (λ s d. elim d as (λ _. IsSideBefore s (record { line = n; left = true })) [ inl lt ↦ inl lt | inr w ↦ inr (w.0, w.1, refl) ])
    added.left
    (one_added (λ s. s.line < n) (λ s. (s.line < n) ⊎ ((s.line ≡ n) × (s.left ≡ false))) p is ts fs old added.middle n l false e (inr (refl, refl))
    (λ s lt. inl lt)
    (λ s d. elim d as (λ _. (s.line < n) ⊎ (s ≡ record { line = n; left = false })) [ inl lt ↦ inl lt | inr w ↦ inr (same_side s n false w.0 w.1) ])
    (λ s lt. inl lt)
    added.right h)

pub no_line_added : (p : PlanParts) (ts : List Triangle) (fs : List ℕ) (ss : List FacedSide) (n : ℕ) → slice_get p.lines n ≡ Some None → AreFacedOf (λ s. s.line < n) (map_of p) ts fs ss → AreFacedOf (λ s. s.line < n + 1) (map_of p) ts fs ss
no_line_added p ts fs ss n e h = changed_faced _ _ (map_of p) ts fs ss (λ s lt. omega (arith, lt)) (λ s l at lt. elim (below_or_last s.line n lt) as (λ _. s.line < n) [
  | inl less ↦ less
  | inr same ↦ absurd (none-some l (sym (no_line_there p n e) ∙ ap (line_at (map_of p)) (sym same) ∙ at))
]) h

pub all_added : (p : PlanParts) (ts : List Triangle) (fs : List ℕ) (ss : List FacedSide) (n : ℕ) → length p.lines ≤ n → AreFacedOf (λ s. s.line < n) (map_of p) ts fs ss → AreFaced (map_of p) ts fs ss
all_added p ts fs ss n past h = changed_faced _ _ (map_of p) ts fs ss (λ s lt. tt) (λ s l at u. let lt = line_below p s.line l at in omega (arith, lt, past)) h

pub faced_below : (m : Map) (ts : List Triangle) (fs : List ℕ) (ss : List FacedSide) → length fs ≡ length ts → All (IsBelow (length ts)) fs → AreFaced m ts fs ss → All (IsFacedBelow (length ts)) ss
faced_below m ts fs ss len range h i d lt =
    let w = (h.each i (get_or ss i d) (slice_get-get_or ss i d lt)).0 in
    let k = triangle_within ts (side_edge m w.line (get_or ss i d).side.left) w.k w.at in
    let r = range w.k 0 (omega (arith, len, k)) in let f = w.face in omega (arith, f, r)

-- ---- sides on one face

pub record AreAlikeBefore (ss : List FacedSide) (n : ℕ) (seen : List Bool) : Type 0 where
  pub alike : (i j : ℕ) → i < n → i < j → AreAlike ss i j
  pub noted : (f : ℕ) → slice_index_or seen f false ≡ true → (i : ℕ) × (s : FacedSide) × (i < n) × (slice_get ss i ≡ Some s) × (s.face ≡ f)

-- ---- the names of faces

pub record AreNamesBefore (ss : List FacedSide) (n : ℕ) (ns : List (Option ℕ)) : Type 0 where
  pub given : (f a : ℕ) → slice_index_or ns f None ≡ Some a → (i : ℕ) × (s : FacedSide) × (slice_get ss i ≡ Some s) × (s.face ≡ f) × (s.sector ≡ Some a)
  pub none : (i : ℕ) (s : FacedSide) → i < n → slice_get ss i ≡ Some s → slice_index_or ns s.face None ≡ None → s.sector ≡ None
