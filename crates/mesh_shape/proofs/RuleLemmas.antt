-- Steps of the searches for a broken rule.
use Rattle.std.proofs.Common.{◌≡◌, ◌≢◌, ℕ, ◌<◌, ◌≤◌, ◌⊎◌, inl, inr, List, length, get_or, slice_get, Bool, true, false, ◌==◌, ◌&&◌, ◌||◌, Option, Some, None, refl, sym, ap, ◌∙◌, subst, arith, option_map, option_and_then, IsTrue, eqb-true, ltb, cond, ℤ, pos, ◌<ℤ◌}
use Rattle.std.specs.Bool.{OnTrue}
use Rattle.std.specs.List.{position, position_or_len}
use Rattle.std.proofs.lemmas.List.Sums.{fails_before_first}
use Rattle.std.proofs.lemmas.Option.{slice_get_within, slice_get_past, none-some, get_or_from_slice_get, slice_get-map, same_Some}
use Rattle.std.proofs.lemmas.List.Quantifiers.{position-Some}
use Rattle.std.proofs.lemmas.Bool.{false≢true}
use Rattle.sight_names.specs.declared.names.Side.{Side}
use Rattle.sight_names.specs.declared.names.Pt.{Pt}
use Rattle.sight_names.specs.declared.names.Triangle.{Triangle}
use Rattle.sight_names.specs.declared.plan.Line.{Line}
use Rattle.sight_names.specs.Plan.{PlanParts, IsPlan, IsPlanLine}
use Rattle.sight_names.specs.Map.{Map, MapLine, map_of, looked_up, line_at, named}
use Rattle.sight_names.specs.Point.{Point, point_of, turn_at}
use Rattle.sight_names.specs.Sound.{IsCommon, MeetAtEnds}
use Rattle.mesh_shape.proofs.Separate.{apart_at_ends, numbers_apart, below_apart, common_swapped, inside_numbers}
use Rattle.sight_names.specs.Points.{Edge, reverse_of, points_of, place, line_edge}
use Rattle.sight_names.specs.Mesh.{IsGoodMesh, HasEdge, has_edge, IsLineEdge, InsideTriangle, MeetsFairly, IsTriangle, AreTriangles, triangle_at, label_of, side_edge}
use Rattle.sight_names.proofs.PlanMap.{points_differ}
use Rattle.sight_names.proofs.PlanNumbers.{line_edge_of_plan, number_of_plan, place_of_plan, count_of_plan}
use Rattle.geom_exact.specs.Formulas.{turn_of}
use Rattle.geom_exact.proofs.SegmentLemmas.{turn_is_at}
use Rattle.geom_exact.proofs.InsideLemmas.{inside_of_turns}
use Rattle.mesh_shape.specs.Search.{IsEdgeOf, IsUnfitLine, IsUnfitSide, IsFitting, IsMetFairly, IsLineMetFairly, IsOutsideOf, AreBeforeLeast, AreBehind}
use Rattle.mesh_shape.specs.Faults.{TurnsAt, IsNewAt, HasMate, HasMatesAt, FitsAt, IsFairAt, IsEmptyAt, IsFirstAgainst, IsFirstSideAgainst, IsFirstPairAgainst}
use Rattle.math_base.proofs.Numbers.{below_or_above, same_or_below, below_or_not}
use Rattle.mesh_base.proofs.GoodMesh.{found_at}
use Rattle.sight_names.proofs.Records.{same_edge}
use Rattle.math_base.proofs.Lists.{item_there}

-- what holds of the triangle that stands there holds of what stands there
pub at_this : {X : Type 0} (P : X → Type 0) (xs : List X) (k : ℕ) (x : X) → slice_get xs k ≡ Some x → P x → (y : X) → slice_get xs k ≡ Some y → P y
at_this P xs k x e h y f = subst P (same_Some x y (sym e ∙ f)) h

-- nothing stands behind the end
pub behind : {X : Type 0} (P : X → Type 0) (xs : List X) (k : ℕ) → length xs ≤ k → (y : X) → slice_get xs k ≡ Some y → P y
behind P xs k le y f = absurd (let lt = slice_get_within xs k y f in omega arith)

-- from each number below n and each from n on
pub everywhere : (P : ℕ → Type 0) (n : ℕ) → ((j : ℕ) → j < n → P j) → ((j : ℕ) → n ≤ j → P j) → (j : ℕ) → P j
everywhere P n below above j = elim (below_or_not j n) [ inl h ↦ below j h | inr h ↦ above j h ]

-- ---- lines as edges

abbrev pub Joins : Line → ℕ → ℕ → Type 0
Joins l u v = ((l.a ≡ u) × (l.b ≡ v)) ⊎ ((l.a ≡ v) × (l.b ≡ u))

pub plan_line_at : (p : PlanParts) (i : ℕ) (l : Line) → slice_get p.lines i ≡ Some (Some l) → line_at (map_of p) i ≡ Some (looked_up p.points l)
plan_line_at p i l e = ap (option_and_then (λ (k : Option MapLine). k)) (slice_get-map (option_map (looked_up p.points)) p.lines i ∙ ap (option_map (option_map (looked_up p.points))) e)

edge_from : {a b c d : ℕ} → ◌≡◌ {A = Edge} (record { from = a; to = b }) (record { from = c; to = d }) → a ≡ c
edge_from e = ap (λ (x : Edge). x.from) e

edge_to : {a b c d : ℕ} → ◌≡◌ {A = Edge} (record { from = a; to = b }) (record { from = c; to = d }) → b ≡ d
edge_to e = ap (λ (x : Edge). x.to) e

pub joined_edge : (p : PlanParts) → IsPlan p → (i : ℕ) (l : Line) (u v : ℕ) → slice_get p.lines i ≡ Some (Some l) → Joins l u v
    → (left : Bool) × (record { from = u; to = v } ≡ side_edge (map_of p) (looked_up p.points l) left)
joined_edge p is i l u v e (inl h) = (true, same_edge (sym h.0) (sym h.1) ∙ sym (line_edge_of_plan p is i l e))
joined_edge p is i l u v e (inr h) = (false, same_edge (sym h.1) (sym h.0) ∙ ap reverse_of (sym (line_edge_of_plan p is i l e)))

pub edge_joined : (p : PlanParts) → IsPlan p → (i : ℕ) (l : Line) (u v : ℕ) (left : Bool) → slice_get p.lines i ≡ Some (Some l) → record { from = u; to = v } ≡ side_edge (map_of p) (looked_up p.points l) left → Joins l u v
edge_joined p is i l u v true e h = let f = h ∙ line_edge_of_plan p is i l e in inl (sym (edge_from f), sym (edge_to f))
edge_joined p is i l u v false e h = let f = h ∙ ap reverse_of (line_edge_of_plan p is i l e) in inr (sym (edge_to f), sym (edge_from f))

pub edge_of_line : (p : PlanParts) → IsPlan p → (i : ℕ) (l : Line) (u v : ℕ) → slice_get p.lines i ≡ Some (Some l) → Joins l u v → IsEdgeOf (map_of p) (record { from = u; to = v }) i
edge_of_line p is i l u v e h = let s = joined_edge p is i l u v e h in (looked_up p.points l, s.0, plan_line_at p i l e, s.1)

pub line_of_edge : (p : PlanParts) → IsPlan p → (i : ℕ) (l : Line) (u v : ℕ) → slice_get p.lines i ≡ Some (Some l) → IsEdgeOf (map_of p) (record { from = u; to = v }) i → Joins l u v
line_of_edge p is i l u v e (k, left, at, same) = edge_joined p is i l u v left e (same ∙ ap (λ (x : MapLine). side_edge (map_of p) x left) (same_Some k (looked_up p.points l) (sym at ∙ plan_line_at p i l e)))

pub no_line_there : (p : PlanParts) (i : ℕ) → slice_get p.lines i ≡ Some None → line_at (map_of p) i ≡ None
no_line_there p i e = ap (option_and_then (λ (k : Option MapLine). k)) (slice_get-map (option_map (looked_up p.points)) p.lines i ∙ ap (option_map (option_map (looked_up p.points))) e)

pub no_line_behind : (p : PlanParts) (i : ℕ) → length p.lines ≤ i → line_at (map_of p) i ≡ None
no_line_behind p i le = ap (option_and_then (λ (k : Option MapLine). k)) (slice_get-map (option_map (looked_up p.points)) p.lines i ∙ ap (option_map (option_map (looked_up p.points))) (slice_get_past p.lines i le))

none_is_not : {X P : Type 0} (o : Option X) (x : X) → o ≡ None → o ≡ Some x → P
none_is_not o x h k = absurd (none-some x (sym h ∙ k))

pub no_edge_of : (p : PlanParts) (i : ℕ) (e : Edge) → line_at (map_of p) i ≡ None → ¬ IsEdgeOf (map_of p) e i
no_edge_of p i e h (l, left, at, same) = none_is_not (line_at (map_of p) i) l h at

-- ---- sides

abbrev side_of_line : Line → Bool → Edge
side_of_line l true = record { from = l.a; to = l.b }
side_of_line l false = record { from = l.b; to = l.a }

abbrev name_of_line : Line → Bool → Option ℕ
name_of_line l true = l.left
name_of_line l false = l.right

side_is : (p : PlanParts) → IsPlan p → (i : ℕ) (l : Line) (left : Bool) → slice_get p.lines i ≡ Some (Some l) → side_edge (map_of p) (looked_up p.points l) left ≡ side_of_line l left
side_is p is i l true e = line_edge_of_plan p is i l e
side_is p is i l false e = ap reverse_of (line_edge_of_plan p is i l e)

name_is : (p : PlanParts) (i : ℕ) (l : Line) (left : Bool) → slice_get p.lines i ≡ Some (Some l) → named (map_of p) (record { line = i; left = left }) ≡ name_of_line l left
name_is p i l true e = ap (option_and_then (λ (k : MapLine). k.left)) (plan_line_at p i l e)
name_is p i l false e = ap (option_and_then (λ (k : MapLine). k.right)) (plan_line_at p i l e)

pub side_fits : (p : PlanParts) → IsPlan p → (ts : List Triangle) (ls : List (Option ℕ)) (i : ℕ) (l : Line) (left : Bool) → slice_get p.lines i ≡ Some (Some l) → IsFitting ts ls (side_of_line l left) (name_of_line l left)
    → FitsAt (map_of p) ts ls (record { line = i; left = left })
side_fits p is ts ls i l left e h = record {
  sector = λ k a at names. subst (λ (x : Edge). (n : ℕ) × (triangle_at ts x ≡ Some n) × (label_of ls n ≡ Some a)) (same_side k at) (subst (IsFitting ts ls (side_of_line l left)) (sym (name_is p i l left e) ∙ names) h);
  none = λ k n at names there. subst (IsFitting ts ls (side_of_line l left)) (sym (name_is p i l left e) ∙ names) h n (subst (λ (x : Edge). triangle_at ts x ≡ Some n) (sym (same_side k at)) there);
}
  where
    same_side : (k : MapLine) → line_at (map_of p) i ≡ Some k → side_of_line l left ≡ side_edge (map_of p) k left
    same_side k at = sym (side_is p is i l left e) ∙ ap (λ (x : MapLine). side_edge (map_of p) x left) (same_Some (looked_up p.points l) k (sym (plan_line_at p i l e) ∙ at))

pub fits_side : (p : PlanParts) → IsPlan p → (ts : List Triangle) (ls : List (Option ℕ)) (i : ℕ) (l : Line) (left : Bool) → slice_get p.lines i ≡ Some (Some l) → FitsAt (map_of p) ts ls (record { line = i; left = left })
    → IsFitting ts ls (side_of_line l left) (name_of_line l left)
fits_side p is ts ls i l left e h = go (name_of_line l left) (name_is p i l left e)
  where
    go : (o : Option ℕ) → named (map_of p) (record { line = i; left = left }) ≡ o → IsFitting ts ls (side_of_line l left) o
    go (Some a) names = subst (λ (x : Edge). (n : ℕ) × (triangle_at ts x ≡ Some n) × (label_of ls n ≡ Some a)) (side_is p is i l left e) (h.sector (looked_up p.points l) a (plan_line_at p i l e) names)
    go None names = λ n there. h.none (looked_up p.points l) n (plan_line_at p i l e) names (subst (λ (x : Edge). triangle_at ts x ≡ Some n) (sym (side_is p is i l left e)) there)

pub unfit_side_of : (p : PlanParts) → IsPlan p → (ts : List Triangle) (ls : List (Option ℕ)) (i : ℕ) (l : Line) (o : Option Bool) → slice_get p.lines i ≡ Some (Some l) → IsUnfitLine ts ls l o → IsUnfitSide (map_of p) ts ls i o
unfit_side_of p is ts ls i l None e h = both
  where
    both : (left : Bool) → FitsAt (map_of p) ts ls (record { line = i; left = left })
    both true = side_fits p is ts ls i l true e h.1
    both false = side_fits p is ts ls i l false e h.0
unfit_side_of p is ts ls i l (Some true) e h = (λ f. h.0 (fits_side p is ts ls i l true e f), λ w. side_fits p is ts ls i l false e h.1)
unfit_side_of p is ts ls i l (Some false) e h = (λ f. h (fits_side p is ts ls i l false e f), λ w. absurd (false≢true w))

pub no_side_fits : (p : PlanParts) (ts : List Triangle) (ls : List (Option ℕ)) (i : ℕ) (left : Bool) → line_at (map_of p) i ≡ None → FitsAt (map_of p) ts ls (record { line = i; left = left })
no_side_fits p ts ls i left h = record {
  sector = λ k a at names. none_is_not (line_at (map_of p) i) k h at;
  none = λ k n at names there. none_is_not (line_at (map_of p) i) k h at;
}

-- ---- edges of a triangle

-- a directed edge is one of the three
pub edge_cases : (t : Triangle) (e : Edge) (P : Edge → Type 0) → P (record { from = t.p; to = t.q }) → P (record { from = t.q; to = t.r }) → P (record { from = t.r; to = t.p }) → HasEdge t e → P e
edge_cases t e P x y z h = go (t.p == e.from) (t.q == e.to) (t.q == e.from) (t.r == e.to) (t.r == e.from) (t.p == e.to)
    (eqb-true t.p e.from) (eqb-true t.q e.to) (eqb-true t.q e.from) (eqb-true t.r e.to) (eqb-true t.r e.from) (eqb-true t.p e.to) h
  where
    go_to : {a b : ℕ} → a ≡ e.from → b ≡ e.to → P (record { from = a; to = b }) → P e
    go_to f g w = subst P (same_edge f g) w

    go : (a b c d f g : Bool) → (a ≡ true → t.p ≡ e.from) → (b ≡ true → t.q ≡ e.to) → (c ≡ true → t.q ≡ e.from) → (d ≡ true → t.r ≡ e.to) → (f ≡ true → t.r ≡ e.from) → (g ≡ true → t.p ≡ e.to)
        → (a && b || c && d || f && g) ≡ true → P e
    go true true c d f g h1 h2 h3 h4 h5 h6 w = go_to (h1 refl) (h2 refl) x
    go true false true true f g h1 h2 h3 h4 h5 h6 w = go_to (h3 refl) (h4 refl) y
    go false b true true f g h1 h2 h3 h4 h5 h6 w = go_to (h3 refl) (h4 refl) y
    go true false true false true true h1 h2 h3 h4 h5 h6 w = go_to (h5 refl) (h6 refl) z
    go true false false d true true h1 h2 h3 h4 h5 h6 w = go_to (h5 refl) (h6 refl) z
    go false b true false true true h1 h2 h3 h4 h5 h6 w = go_to (h5 refl) (h6 refl) z
    go false b false d true true h1 h2 h3 h4 h5 h6 w = go_to (h5 refl) (h6 refl) z
    go true false true false true false h1 h2 h3 h4 h5 h6 w = absurd (false≢true w)
    go true false true false false g h1 h2 h3 h4 h5 h6 w = absurd (false≢true w)
    go true false false d true false h1 h2 h3 h4 h5 h6 w = absurd (false≢true w)
    go true false false d false g h1 h2 h3 h4 h5 h6 w = absurd (false≢true w)
    go false b true false true false h1 h2 h3 h4 h5 h6 w = absurd (false≢true w)
    go false b true false false g h1 h2 h3 h4 h5 h6 w = absurd (false≢true w)
    go false b false d true false h1 h2 h3 h4 h5 h6 w = absurd (false≢true w)
    go false b false d false g h1 h2 h3 h4 h5 h6 w = absurd (false≢true w)

-- ---- the first triangle with an edge

position_None : {X : Type 0} (p : X → Bool) (xs : List X) → position p xs ≡ None → (k : ℕ) → k < length xs → (d : X) → p (get_or xs k d) ≡ false
position_None p xs h k lt d = elim (below_or_not (position_or_len p xs) (length xs)) [
  | inl less ↦ absurd (some (position_or_len p xs) (length xs) less h)
  | inr le ↦ fails_before_first p xs k d (omega arith)
]
  where
    some : (j n : ℕ) → j < n → cond (ltb j n) (Some j) None ≡ None → ⊥
    some j n lt h = grind arith

pub none_before : (ts : List Triangle) (e : Edge) (k j : ℕ) (t : Triangle) → triangle_at ts e ≡ Some k → j < k → slice_get ts j ≡ Some t → ¬ HasEdge t e
none_before ts e k j t h lt at edge = let s = position-Some (has_edge e) ts k t h in false≢true (sym (s.2 j lt) ∙ ap (has_edge e) (get_or_from_slice_get ts j t t at) ∙ edge)

-- no triangle has the edge where there is no first one
pub no_first : (ts : List Triangle) (e : Edge) (k : ℕ) (t : Triangle) → triangle_at ts e ≡ None → slice_get ts k ≡ Some t → ¬ HasEdge t e
no_first ts e k t h at edge =
    let lt = slice_get_within ts k t at in
    let n = position_None (has_edge e) ts h k lt t in
    false≢true (sym n ∙ ap (has_edge e) (get_or_from_slice_get ts k t t at) ∙ edge)

-- ---- loops over a list that is read through a slice

-- what holds of the item that a loop is at holds of what stands there
pub at_item : {X : Type 0} (P : X → Type 0) (xs ys : List X) (k : ℕ) (d : X) → xs ≡ ys → k < length xs → P (get_or xs k d) → (x : X) → slice_get ys k ≡ Some x → P x
at_item P xs ys k d e lt h = at_this P ys k (get_or xs k d) (item_there xs ys k d e lt) h

-- ---- the rules of a triangle

pub new_if : (ts : List Triangle) (k : ℕ) (t : Triangle) → slice_get ts k ≡ Some t
    → triangle_at ts (record { from = t.p; to = t.q }) ≡ Some k → triangle_at ts (record { from = t.q; to = t.r }) ≡ Some k → triangle_at ts (record { from = t.r; to = t.p }) ≡ Some k → IsNewAt ts k
new_if ts k t at x y z j lt u v e here there edge edge_too =
    edge_cases t e (λ (f : Edge). HasEdge u f → ⊥) (none_before ts _ k j u x lt here) (none_before ts _ k j u y lt here) (none_before ts _ k j u z lt here)
    (subst (λ (w : Triangle). HasEdge w e) (same_Some v t (sym there ∙ at)) edge_too) edge

-- a triangle with an edge: the first one that has it is there
pub some_first : (ts : List Triangle) (e : Edge) (k : ℕ) (t : Triangle) → slice_get ts k ≡ Some t → HasEdge t e → (j : ℕ) × (triangle_at ts e ≡ Some j) × (j ≤ k)
some_first ts e k t at edge = go (triangle_at ts e) refl
  where
    go : (o : Option ℕ) → triangle_at ts e ≡ o → (j : ℕ) × (triangle_at ts e ≡ Some j) × (j ≤ k)
    go (Some j) h = elim (cases j k) as (λ _. (j : ℕ) × (triangle_at ts e ≡ Some j) × (j ≤ k)) [ inl le ↦ (j, h, le) | inr lt ↦ absurd (none_before ts e j k t h lt at edge) ]
      where
        cases : (j k : ℕ) → (j ≤ k) ⊎ (k < j)
        cases j k = grind arith
    go None h = absurd (no_first ts e k t h at edge)

pub new_only : (ts : List Triangle) (k : ℕ) (t : Triangle) (e : Edge) → slice_get ts k ≡ Some t → HasEdge t e → IsNewAt ts k → triangle_at ts e ≡ Some k
new_only ts k t e at edge new =
    let f = some_first ts e k t at edge in
    elim (same_or_below f.0 k f.2) [
      | inl same ↦ f.1 ∙ ap (λ (n : ℕ). Some n) same
      | inr lt ↦ absurd (let h = found_at ts e f.0 f.1 in new f.0 lt h.0 t e h.1 at h.2 edge)
    ]

-- ---- mates

abbrev pub IsTied : Map → List Triangle → List (Option ℕ) → ℕ → Edge → Type 0
IsTied m ts ls a e = HasMate ts ls e a ⊎ IsLineEdge m e

pub mates_if : (m : Map) (ts : List Triangle) (ls : List (Option ℕ)) (k a : ℕ) (t : Triangle) → slice_get ts k ≡ Some t → label_of ls k ≡ Some a
    → IsTied m ts ls a (record { from = t.p; to = t.q }) → IsTied m ts ls a (record { from = t.q; to = t.r }) → IsTied m ts ls a (record { from = t.r; to = t.p }) → HasMatesAt m ts ls k
mates_if m ts ls k a t at label x y z b u e here named edge free =
    subst (λ (c : ℕ). HasMate ts ls e c) (same_Some a b (sym label ∙ named))
    (edge_cases t e (λ (f : Edge). ¬ IsLineEdge m f → HasMate ts ls f a) (mate _ x) (mate _ y) (mate _ z) (subst (λ (w : Triangle). HasEdge w e) (same_Some u t (sym here ∙ at)) edge) free)
  where
    mate : (f : Edge) → IsTied m ts ls a f → ¬ IsLineEdge m f → HasMate ts ls f a
    mate f (inl h) free = h
    mate f (inr h) free = absurd (free h)

pub mates_only : (m : Map) (ts : List Triangle) (ls : List (Option ℕ)) (k a : ℕ) (t : Triangle) (e : Edge) (b : Bool) → slice_get ts k ≡ Some t → label_of ls k ≡ Some a → HasEdge t e
    → (IsTrue b → IsTied m ts ls a e) → (IsTied m ts ls a e → IsTrue b) → HasMatesAt m ts ls k → IsTrue b
mates_only m ts ls k a t e true at label edge there back mates = refl
mates_only m ts ls k a t e false at label edge there back mates = back (inl (mates a t e at label edge (λ line. false≢true (back (inr line)))))

-- ---- fair meetings

pub all_fair : (m : Map) (t : Triangle) (l : MapLine) → MeetsFairly m (record { from = t.p; to = t.q }) l → MeetsFairly m (record { from = t.q; to = t.r }) l → MeetsFairly m (record { from = t.r; to = t.p }) l → IsMetFairly m t l
all_fair m t l x y z e edge = edge_cases t e (λ (f : Edge). MeetsFairly m f l) x y z edge

-- a triangle whose edges share no point with the line
pub apart_fair : (m : Map) (t : Triangle) (l : MapLine) → ((e : Edge) → HasEdge t e → (z : Point) → IsCommon (place m e.from) (place m e.to) l.first l.second z → ⊥) → IsMetFairly m t l
apart_fair m t l none e edge = inl (apart_at_ends (place m e.from) (place m e.to) l.first l.second (none e edge))

-- the ends of a plan's line are the places of its numbers
pub ends_of_line : (p : PlanParts) → IsPlan p → (l : Line) → ((looked_up p.points l).first ≡ place (map_of p) l.a) × ((looked_up p.points l).second ≡ place (map_of p) l.b)
ends_of_line p is l = (sym (place_of_plan p is l.a), sym (place_of_plan p is l.b))

same_ends : (p : PlanParts) → IsPlan p → (l : Line) (P : Pt → Pt → Type 0) → P (place (map_of p) l.a) (place (map_of p) l.b) → P (looked_up p.points l).first (looked_up p.points l).second
same_ends p is l P h = let e = ends_of_line p is l in subst (λ (b : Pt). P (looked_up p.points l).first b) (sym e.1) (subst (λ (a : Pt). P a (place (map_of p) l.b)) (sym e.0) h)

back_ends : (p : PlanParts) → IsPlan p → (l : Line) (P : Pt → Pt → Type 0) → P (looked_up p.points l).first (looked_up p.points l).second → P (place (map_of p) l.a) (place (map_of p) l.b)
back_ends p is l P h = let e = ends_of_line p is l in subst (λ (b : Pt). P (place (map_of p) l.a) b) e.1 (subst (λ (a : Pt). P a (looked_up p.points l).second) e.0 h)

pub places_differ : (p : PlanParts) → IsPlan p → (i j : ℕ) → i < length p.points → j < length p.points → i ≢ j → place (map_of p) i ≢ place (map_of p) j
places_differ p is i j a b differ e = points_differ p is i j a b differ (sym (place_of_plan p is i) ∙ e ∙ place_of_plan p is j)

-- ---- one edge and one line

edge_of_numbers : (p : PlanParts) → IsPlan p → (l : Line) → IsPlanLine p.sectors (length p.points) l → line_edge (map_of p) (looked_up p.points l) ≡ record { from = l.a; to = l.b }
edge_of_numbers p is l in_range = same_edge (number_of_plan p is l.a in_range.first) (number_of_plan p is l.b in_range.second)

pub joins_fairly : (p : PlanParts) → IsPlan p → (l : Line) (u v : ℕ) → IsPlanLine p.sectors (length p.points) l → Joins l u v → MeetsFairly (map_of p) (record { from = u; to = v }) (looked_up p.points l)
joins_fairly p is l u v r (inl h) = inr (true, same_edge (sym h.0) (sym h.1) ∙ sym (edge_of_numbers p is l r))
joins_fairly p is l u v r (inr h) = inr (false, same_edge (sym h.1) (sym h.0) ∙ ap reverse_of (sym (edge_of_numbers p is l r)))

pub meets_fairly : (p : PlanParts) → IsPlan p → (l : Line) (u v : ℕ) → MeetAtEnds (place (map_of p) u) (place (map_of p) v) (place (map_of p) l.a) (place (map_of p) l.b) → MeetsFairly (map_of p) (record { from = u; to = v }) (looked_up p.points l)
meets_fairly p is l u v h = inl (same_ends p is l (λ (a b : Pt). MeetAtEnds (place (map_of p) u) (place (map_of p) v) a b) h)

pub fairly_meets : (p : PlanParts) → IsPlan p → (l : Line) (u v : ℕ) → IsPlanLine p.sectors (length p.points) l → ¬ Joins l u v → MeetsFairly (map_of p) (record { from = u; to = v }) (looked_up p.points l) → MeetAtEnds (place (map_of p) u) (place (map_of p) v) (place (map_of p) l.a) (place (map_of p) l.b)
fairly_meets p is l u v r free (inl h) = back_ends p is l (λ (a b : Pt). MeetAtEnds (place (map_of p) u) (place (map_of p) v) a b) h
fairly_meets p is l u v r free (inr (true, e)) = absurd (let f = e ∙ edge_of_numbers p is l r in free (inl (sym (edge_from f), sym (edge_to f))))
fairly_meets p is l u v r free (inr (false, e)) = absurd (let f = e ∙ ap reverse_of (edge_of_numbers p is l r) in free (inr (sym (edge_to f), sym (edge_from f))))

-- ---- lines beside a triangle

-- no edge of the triangle has a common point with the line
all_apart : (p : PlanParts) → IsPlan p → (t : Triangle) (l : Line)
    → ((e : Edge) → HasEdge t e → (z : Point) → IsCommon (place (map_of p) e.from) (place (map_of p) e.to) (place (map_of p) l.a) (place (map_of p) l.b) z → ⊥) → IsMetFairly (map_of p) t (looked_up p.points l)
all_apart p is t l none = apart_fair (map_of p) t (looked_up p.points l) (λ e edge. same_ends p is l (λ (a b : Pt). (z : Point) → IsCommon (place (map_of p) e.from) (place (map_of p) e.to) a b z → ⊥) (none e edge))

pub numbered_apart : (p : PlanParts) → IsPlan p → (t : Triangle) (l : Line) → IsTriangle (length p.points) t → IsPlanLine p.sectors (length p.points) l → AreBeforeLeast l.a l.b t.p t.q t.r ⊎ AreBehind l.a l.b t.p t.q t.r → IsMetFairly (map_of p) t (looked_up p.points l)
numbered_apart p is t l tri line (inl h) =
    let pq : t.p < t.q = tri.least in let pr : t.p < t.r = tri.least_too in let q : t.q < length p.points = tri.second in let r : t.r < length p.points = tri.third in
    all_apart p is t l (λ e edge. edge_cases t e (λ (f : Edge). (z : Point) → IsCommon (place (map_of p) f.from) (place (map_of p) f.to) (place (map_of p) l.a) (place (map_of p) l.b) z → ⊥)
    (λ z c. numbers_apart p is l.a l.b t.p t.q (omega arith) q h.0 (omega (arith, h.0)) h.1 (omega (arith, h.1)) z (common_swapped (place (map_of p) t.p) (place (map_of p) t.q) (place (map_of p) l.a) (place (map_of p) l.b) z c))
    (λ z c. numbers_apart p is l.a l.b t.q t.r q r (omega (arith, h.0)) (omega (arith, h.0)) (omega (arith, h.1)) (omega (arith, h.1)) z (common_swapped (place (map_of p) t.q) (place (map_of p) t.r) (place (map_of p) l.a) (place (map_of p) l.b) z c))
    (λ z c. numbers_apart p is l.a l.b t.r t.p r (omega arith) (omega (arith, h.0)) h.0 (omega (arith, h.1)) h.1 z (common_swapped (place (map_of p) t.r) (place (map_of p) t.p) (place (map_of p) l.a) (place (map_of p) l.b) z c)) edge)
numbered_apart p is t l tri line (inr h) =
    all_apart p is t l (λ e edge. edge_cases t e (λ (f : Edge). (z : Point) → IsCommon (place (map_of p) f.from) (place (map_of p) f.to) (place (map_of p) l.a) (place (map_of p) l.b) z → ⊥)
    (λ z c. numbers_apart p is t.p t.q l.a l.b line.first line.second h.0 h.3 h.1 h.4 z c)
    (λ z c. numbers_apart p is t.q t.r l.a l.b line.first line.second h.1 h.4 h.2 h.5 z c)
    (λ z c. numbers_apart p is t.r t.p l.a l.b line.first line.second h.2 h.5 h.0 h.3 z c) edge)

abbrev height : PlanParts → ℕ → ℤ
height p k = (place (map_of p) k).y

abbrev pub IsUnder : PlanParts → ℕ → Triangle → Type 0
IsUnder p k t = (height p k <ℤ height p t.p) × (height p k <ℤ height p t.q) × (height p k <ℤ height p t.r)

abbrev pub IsOver : PlanParts → ℕ → Triangle → Type 0
IsOver p k t = (height p t.p <ℤ height p k) × (height p t.q <ℤ height p k) × (height p t.r <ℤ height p k)

pub under_apart : (p : PlanParts) → IsPlan p → (t : Triangle) (l : Line) → IsUnder p l.a t → IsUnder p l.b t → IsMetFairly (map_of p) t (looked_up p.points l)
under_apart p is t l a b =
    all_apart p is t l (λ e edge. edge_cases t e (λ (f : Edge). (z : Point) → IsCommon (place (map_of p) f.from) (place (map_of p) f.to) (place (map_of p) l.a) (place (map_of p) l.b) z → ⊥)
    (λ z c. below_apart (place (map_of p) l.a) (place (map_of p) l.b) (place (map_of p) t.p) (place (map_of p) t.q) a.0 a.1 b.0 b.1 z (common_swapped (place (map_of p) t.p) (place (map_of p) t.q) (place (map_of p) l.a) (place (map_of p) l.b) z c))
    (λ z c. below_apart (place (map_of p) l.a) (place (map_of p) l.b) (place (map_of p) t.q) (place (map_of p) t.r) a.1 a.2 b.1 b.2 z (common_swapped (place (map_of p) t.q) (place (map_of p) t.r) (place (map_of p) l.a) (place (map_of p) l.b) z c))
    (λ z c. below_apart (place (map_of p) l.a) (place (map_of p) l.b) (place (map_of p) t.r) (place (map_of p) t.p) a.2 a.0 b.2 b.0 z (common_swapped (place (map_of p) t.r) (place (map_of p) t.p) (place (map_of p) l.a) (place (map_of p) l.b) z c)) edge)

pub over_apart : (p : PlanParts) → IsPlan p → (t : Triangle) (l : Line) → IsOver p l.a t → IsOver p l.b t → IsMetFairly (map_of p) t (looked_up p.points l)
over_apart p is t l a b =
    all_apart p is t l (λ e edge. edge_cases t e (λ (f : Edge). (z : Point) → IsCommon (place (map_of p) f.from) (place (map_of p) f.to) (place (map_of p) l.a) (place (map_of p) l.b) z → ⊥)
    (λ z c. below_apart (place (map_of p) t.p) (place (map_of p) t.q) (place (map_of p) l.a) (place (map_of p) l.b) a.0 b.0 a.1 b.1 z c)
    (λ z c. below_apart (place (map_of p) t.q) (place (map_of p) t.r) (place (map_of p) l.a) (place (map_of p) l.b) a.1 b.1 a.2 b.2 z c)
    (λ z c. below_apart (place (map_of p) t.r) (place (map_of p) t.p) (place (map_of p) l.a) (place (map_of p) l.b) a.2 b.2 a.0 b.0 z c) edge)

-- ---- points in a triangle

pub turn_at_places : (a b c x y z : Pt) → a ≡ x → b ≡ y → c ≡ z → turn_of a b c ≡ turn_at x y (point_of z)
turn_at_places a b c x y z e f g = turn_is_at a b c ∙ ap (λ (k : Pt). turn_at k b (point_of c)) e ∙ ap (λ (k : Pt). turn_at x k (point_of c)) f ∙ ap (λ (k : Pt). turn_at x y (point_of k)) g

-- strictly inside, by the three turns of whole points
pub inside_turns : (m : Map) (t : Triangle) (a b c z : Pt) (k : ℕ) → a ≡ place m t.p → b ≡ place m t.q → c ≡ place m t.r → z ≡ place m k
    → (pos 0 <ℤ turn_of a b z) × (pos 0 <ℤ turn_of b c z) × (pos 0 <ℤ turn_of c a z) → InsideTriangle m t (point_of (place m k))
inside_turns m t a b c z k e f g h i = record {
  pq = subst (λ (v : ℤ). pos 0 <ℤ v) (turn_at_places a b z _ _ _ e f h) i.0;
  qr = subst (λ (v : ℤ). pos 0 <ℤ v) (turn_at_places b c z _ _ _ f g h) i.1;
  rp = subst (λ (v : ℤ). pos 0 <ℤ v) (turn_at_places c a z _ _ _ g e h) i.2;
}

pub turns_inside : (m : Map) (t : Triangle) (a b c z : Pt) (k : ℕ) → a ≡ place m t.p → b ≡ place m t.q → c ≡ place m t.r → z ≡ place m k
    → InsideTriangle m t (point_of (place m k)) → (pos 0 <ℤ turn_of a b z) × (pos 0 <ℤ turn_of b c z) × (pos 0 <ℤ turn_of c a z)
turns_inside m t a b c z k e f g h i = (
  subst (λ (v : ℤ). pos 0 <ℤ v) (sym (turn_at_places a b z _ _ _ e f h)) i.pq,
  subst (λ (v : ℤ). pos 0 <ℤ v) (sym (turn_at_places b c z _ _ _ f g h)) i.qr,
  subst (λ (v : ℤ). pos 0 <ℤ v) (sym (turn_at_places c a z _ _ _ g e h)) i.rp,
)

pub inside_range : (p : PlanParts) → IsPlan p → (t : Triangle) (k last : ℕ) → IsTriangle (length p.points) t → t.q ≤ last → t.r ≤ last → last < length p.points → k < length (points_of (map_of p))
    → InsideTriangle (map_of p) t (point_of (place (map_of p) k)) → (t.p < k) × (k < last)
inside_range p is t k last tri ql rl lw kw inside =
    let s = turns_inside (map_of p) t (place (map_of p) t.p) (place (map_of p) t.q) (place (map_of p) t.r) (place (map_of p) k) k refl refl refl refl inside in
    inside_numbers p is t.p t.q t.r k last tri.least tri.least_too tri.second tri.third (let e = count_of_plan p is in omega (arith, e, kw)) ql rl lw
    (inside_of_turns (place (map_of p) t.p) (place (map_of p) t.q) (place (map_of p) t.r) (place (map_of p) k) s.0 s.1 s.2)

-- ---- sides in order

pub first_side : (P : Side → Type 0) (i : ℕ) (left : Bool) → ((j : ℕ) → j < i → (b : Bool) → P (record { line = j; left = b }))
    → (¬ P (record { line = i; left = left })) × (left ≡ true → P (record { line = i; left = false })) → IsFirstSideAgainst P (record { line = i; left = left })
first_side P i left before here = record {
  against = here.0;
  before = λ t h. elim h [
    | inl lt ↦ before t.line lt t.left
    | inr e ↦ subst (λ (n : ℕ). P (record { line = n; left = t.left })) (sym e.0) (subst (λ (b : Bool). P (record { line = i; left = b })) (sym e.1) (here.1 e.2))
  ];
}

pub sides_everywhere : (P : Side → Type 0) (n : ℕ) → ((j : ℕ) → j < n → (b : Bool) → P (record { line = j; left = b })) → ((j : ℕ) → n ≤ j → (b : Bool) → P (record { line = j; left = b })) → (s : Side) → P s
sides_everywhere P n below above s = everywhere (λ (j : ℕ). (b : Bool) → P (record { line = j; left = b })) n below above s.line s.left

pub OnTrue_if : (b : Bool) (P : Type 0) → (b ≡ true → P) → OnTrue b P
OnTrue_if true P f = f refl
OnTrue_if false P f = tt

pub heights_under : (p : PlanParts) (t : Triangle) (k : ℕ) (a x y z : Pt) → a ≡ place (map_of p) k → x ≡ place (map_of p) t.p → y ≡ place (map_of p) t.q → z ≡ place (map_of p) t.r → (a.y <ℤ x.y) × (a.y <ℤ y.y) × (a.y <ℤ z.y) → IsUnder p k t
heights_under p t k a x y z e f g h l = (both a x e f l.0, both a y e g l.1, both a z e h l.2)
  where
    both : (a x : Pt) {b y : Pt} → a ≡ b → x ≡ y → a.y <ℤ x.y → b.y <ℤ y.y
    both a x {b} {y} e f l = subst (λ (v : Pt). v.y <ℤ y.y) e (subst (λ (w : Pt). a.y <ℤ w.y) f l)

pub heights_over : (p : PlanParts) (t : Triangle) (k : ℕ) (a x y z : Pt) → a ≡ place (map_of p) k → x ≡ place (map_of p) t.p → y ≡ place (map_of p) t.q → z ≡ place (map_of p) t.r → (x.y <ℤ a.y) × (y.y <ℤ a.y) × (z.y <ℤ a.y) → IsOver p k t
heights_over p t k a x y z e f g h l = (both x a f e l.0, both y a g e l.1, both z a h e l.2)
  where
    both : (a x : Pt) {b y : Pt} → a ≡ b → x ≡ y → a.y <ℤ x.y → b.y <ℤ y.y
    both a x {b} {y} e f l = subst (λ (v : Pt). v.y <ℤ y.y) e (subst (λ (w : Pt). a.y <ℤ w.y) f l)

pub moved_ends : (a b c d x y z w : Pt) → a ≡ x → b ≡ y → c ≡ z → d ≡ w → MeetAtEnds a b c d → MeetAtEnds x y z w
moved_ends a b c d x y z w e f g h m = subst (λ (k : Pt). MeetAtEnds k y z w) e (subst (λ (k : Pt). MeetAtEnds a k z w) f (subst (λ (k : Pt). MeetAtEnds a b k w) g (subst (λ (k : Pt). MeetAtEnds a b c k) h m)))

pub back_moved : (a b c d x y z w : Pt) → a ≡ x → b ≡ y → c ≡ z → d ≡ w → MeetAtEnds x y z w → MeetAtEnds a b c d
back_moved a b c d x y z w e f g h m = moved_ends x y z w a b c d (sym e) (sym f) (sym g) (sym h) m

pub line_met : (p : PlanParts) (t : Triangle) (i : ℕ) (l : Line) → slice_get p.lines i ≡ Some (Some l) → IsMetFairly (map_of p) t (looked_up p.points l) → IsLineMetFairly (map_of p) t i
line_met p t i l there h k at = subst (λ (x : MapLine). IsMetFairly (map_of p) t x) (same_Some (looked_up p.points l) k (sym (plan_line_at p i l there) ∙ at)) h

-- ---- pairs

pub fair_here : (m : Map) (ts : List Triangle) (k : ℕ) (t : Triangle) → slice_get ts k ≡ Some t → ((i : ℕ) → IsLineMetFairly m t i) → (i : ℕ) → IsFairAt m ts k i
fair_here m ts k t there h i u e l at edge line = h i l line e (subst (λ (w : Triangle). HasEdge w e) (same_Some u t (sym at ∙ there)) edge)

one_fair : (m : Map) (ts : List Triangle) (k i : ℕ) (t : Triangle) → slice_get ts k ≡ Some t → IsLineMetFairly m t i → IsFairAt m ts k i
one_fair m ts k i t there h u e l at edge line = h l line e (subst (λ (w : Triangle). HasEdge w e) (same_Some u t (sym at ∙ there)) edge)

pub meeting_found : (m : Map) (ts : List Triangle) (k i : ℕ) (t : Triangle) → slice_get ts k ≡ Some t → ((j : ℕ) → j < k → (h : ℕ) → IsFairAt m ts j h) → IsFirstAgainst (IsLineMetFairly m t) i → IsFirstPairAgainst (IsFairAt m ts) k i
meeting_found m ts k i t there before first = record {
  against = λ h. first.against (λ l line e edge. h t e l there edge line);
  before = before;
  before_here = λ h lt. one_fair m ts k h t there (first.before h lt);
}

one_empty : (m : Map) (ts : List Triangle) (k i : ℕ) (t : Triangle) → slice_get ts k ≡ Some t → IsOutsideOf m t i → IsEmptyAt m ts k i
one_empty m ts k i t there h u at w inside = h w (subst (λ (x : Triangle). InsideTriangle m x (point_of (place m i))) (same_Some u t (sym at ∙ there)) inside)

pub empty_here : (m : Map) (ts : List Triangle) (k : ℕ) (t : Triangle) → slice_get ts k ≡ Some t → ((i : ℕ) → IsOutsideOf m t i) → (i : ℕ) → IsEmptyAt m ts k i
empty_here m ts k t there h i = one_empty m ts k i t there (h i)

pub inside_found : (m : Map) (ts : List Triangle) (k i : ℕ) (t : Triangle) → slice_get ts k ≡ Some t → ((j : ℕ) → j < k → (h : ℕ) → IsEmptyAt m ts j h) → IsFirstAgainst (IsOutsideOf m t) i → IsFirstPairAgainst (IsEmptyAt m ts) k i
inside_found m ts k i t there before first = record {
  against = λ h. first.against (λ w inside. h t there w inside);
  before = before;
  before_here = λ h lt. one_empty m ts k h t there (first.before h lt);
}

-- ---- the verdict

pub all_good : (m : Map) (ts : List Triangle) (ls : List (Option ℕ)) → AreTriangles (length (points_of m)) ts → length ls ≡ length ts
    → ((j : ℕ) → TurnsAt m ts j) → ((j : ℕ) → IsNewAt ts j) → ((j : ℕ) → HasMatesAt m ts ls j) → ((s : Side) → FitsAt m ts ls s) → ((j i : ℕ) → IsFairAt m ts j i) → ((j p : ℕ) → IsEmptyAt m ts j p) → IsGoodMesh m ts ls
all_good m ts ls are each turns new mates fits fair empty = record {
  plain = record {
    triangles = are;
    turn = λ k t at. turns k t at;
    once = λ i j t u e differ a b x y. elim (below_or_above i j differ) [
      | inl lt ↦ new j i lt t u e a b x y
      | inr lt ↦ new i j lt u t e b a y x
    ];
    fair = λ k i t e l at edge line. fair k i t e l at edge line;
    empty = λ k t at p w inside. empty k p t at w inside;
  };
  one_each = each;
  mates = λ k a t e at label edge free. mates k a t e at label edge free;
  fits = record {
    sides = λ s l a at names. (fits s).sector l a at names;
    no_sides = λ s l k at names there. (fits s).none l k at names there;
  };
}

pub plan_triangles : (p : PlanParts) → IsPlan p → (points : ℕ) (ts : List Triangle) → points ≡ length p.points → AreTriangles points ts → AreTriangles (length (points_of (map_of p))) ts
plan_triangles p is points ts e are = subst (λ (n : ℕ). AreTriangles n ts) (e ∙ sym (count_of_plan p is)) are

-- ---- points of a triangle in order

pub next_outside : (m : Map) (t : Triangle) (a b c z : Pt) (k : ℕ) → a ≡ place m t.p → b ≡ place m t.q → c ≡ place m t.r → z ≡ place m k
    → ((pos 0 <ℤ turn_of a b z) × (pos 0 <ℤ turn_of b c z) × (pos 0 <ℤ turn_of c a z) → ⊥) → IsOutsideOf m t k
next_outside m t a b c z k e f g h none w inside = none (turns_inside m t a b c z k e f g h inside)
