-- Walls, links and gaps: the steps of the loops over lines and triangles.
use Rattle.std.proofs.Common.{◌≡◌, ℕ, ◌+◌, ◌<◌, ◌≤◌, ◌⊎◌, inl, inr, ◌↔◌, List, [], ◌∷◌, ◌++◌, length, slice_get, slice_index_or, set, Bool, true, false, IsTrue, Option, Some, None, MatchOption, refl, sym, ap, ◌∙◌, subst, arith}
use Rattle.std.proofs.lemmas.Bool.{cases_eq, false≢true}
use Rattle.std.proofs.lemmas.Option.{slice_get_within, slice_get-get_or, get_or_from_slice_get, same_Some, none-some}
use Rattle.std.proofs.lemmas.List.{get_or-set_same, get_or-set_other, length-set}
use Rattle.sight_names.specs.declared.names.Triangle.{Triangle}
use Rattle.sight_names.specs.declared.plan.Line.{Line}
use Rattle.sight_names.specs.Plan.{PlanParts, IsPlan}
use Rattle.sight_names.specs.Map.{Map, MapLine, map_of, looked_up, line_at}
use Rattle.sight_names.specs.Points.{Edge, reverse_of}
use Rattle.sight_names.specs.Mesh.{IsTriangle, AreTriangles, HasEdge, triangle_at, side_edge}
use Rattle.sight_names.proofs.PlanNumbers.{line_edge_of_plan}
use Rattle.mesh_base.proofs.SightLaws.Plans.{line_below}
use Rattle.mesh_shape.specs.Search.{IsEdgeOf}
use Rattle.mesh_shape.proofs.RuleLemmas.{edge_cases, plan_line_at, no_line_there}
use Rattle.face_groups.specs.declared.tri_sectors.faces.Walls.{Walls}
use Rattle.face_groups.specs.TriSectors.Classes.{AreLeast, AreMerged, AreSingles, class_of}
use Rattle.face_groups.specs.TriSectors.Faces.{edge_pq, edge_qr, edge_rp, HasMarks, AreWallsMarked, AreWalls, IsWallBefore, IsMarkedMore, IsPutHere, IsPutAt, IsWallPut, IsFreeEdge, IsLink, HasGap, HasGapHere, IsRowOfLinks, AreLinked, AreFaces, JoinsAcross, AreCrossed, AreOpen}
use Rattle.math_base.proofs.Numbers.{below_or_last}
use Rattle.math_base.proofs.Options.{one_value}
use Rattle.mesh_base.proofs.GoodMesh.{found_at}
use Rattle.sight_names.proofs.Portals.{triangle_within}

abbrev pub any_walls : Walls
any_walls = record { pq = false; qr = false; rp = false }

-- ---- one edge marked

put_nothing : (b : Bool) (ts : List Triangle) (e f : Edge) (k : ℕ) → ¬ (triangle_at ts e ≡ Some k) → IsTrue b ↔ IsPutHere ts e k b f
put_nothing b ts e f k n = (λ h. inl h, λ w. elim w as (λ _. IsTrue b) [ inl h ↦ h | inr h ↦ absurd (n h.1) ])

put_at_none : (ts : List Triangle) (e : Edge) (k : ℕ) (t : Triangle) (v : Walls) → ¬ (triangle_at ts e ≡ Some k) → IsPutAt ts e k t v v
put_at_none ts e k t v n = record { pq = put_nothing v.pq ts e (edge_pq t) k n; qr = put_nothing v.qr ts e (edge_qr t) k n; rp = put_nothing v.rp ts e (edge_rp t) k n }

-- the edge from u on is the one with this start
starts : (t : Triangle) (e : Edge) (n : ℕ) → IsTriangle n t → HasEdge t e → (t.p ≡ e.from → edge_pq t ≡ e) × (t.q ≡ e.from → edge_qr t ≡ e) × (t.r ≡ e.from → edge_rp t ≡ e)
starts t e n is h =
    let a = is.least in let b = is.least_too in let d = is.differ in
    edge_cases t e (λ (f : Edge). (t.p ≡ f.from → edge_pq t ≡ f) × (t.q ≡ f.from → edge_qr t ≡ f) × (t.r ≡ f.from → edge_rp t ≡ f))
    (λ s. refl, λ s. absurd (omega arith), λ s. absurd (omega arith))
    (λ s. absurd (omega arith), λ s. refl, λ s. absurd (d (sym s)))
    (λ s. absurd (omega arith), λ s. absurd (d s), λ s. refl) h

put_one : (ts : List Triangle) (e f : Edge) (k x : ℕ) (old new : Bool) → triangle_at ts e ≡ Some k → f.from ≡ x → (x ≡ e.from → f ≡ e) → (IsTrue new ↔ (IsTrue old ⊎ (x ≡ e.from))) → IsTrue new ↔ IsPutHere ts e k old f
put_one ts e f k x old new at from start m = (
  λ h. elim (m.0 h) as (λ _. IsPutHere ts e k old f) [ inl o ↦ inl o | inr s ↦ inr (start s, at) ],
  λ w. elim w as (λ _. IsTrue new) [ inl o ↦ m.1 (inl o) | inr s ↦ m.1 (inr (sym from ∙ ap (λ (x : Edge). x.from) s.0)) ],
)

pub put_some : (n : ℕ) (ts : List Triangle) (e : Edge) (k : ℕ) (old : List Walls) (t : Triangle) (w d0 : Walls) → AreTriangles n ts → triangle_at ts e ≡ Some k → length old ≡ length ts → slice_get ts k ≡ Some t
    → IsMarkedMore t e.from (slice_index_or old k d0) w → IsWallPut ts e old (set old k w)
put_some n ts e k old t w d0 are at len there m = record {
  len = length-set old k w;
  each = λ j u d here. elim (cases_eq j k) as (λ _. IsPutAt ts e j u (slice_index_or old j d) (slice_index_or (set old k w) j d)) [
    | inl same ↦ this j u d same here
    | inr other ↦ subst (λ (x : Walls). IsPutAt ts e j u (slice_index_or old j d) x) (sym (get_or-set_other old k j w d other)) (put_at_none ts e j u (slice_index_or old j d) (λ s. other (one_value (triangle_at ts e) j k s at)))
  ];
}
  where
    lt : k < length old
    lt = let h = slice_get_within ts k t there in omega (arith, len, h)

    any : (d : Walls) → slice_index_or old k d0 ≡ slice_index_or old k d
    any d = get_or_from_slice_get old k (slice_index_or old k d) d0 (slice_get-get_or old k d lt)

    has : HasEdge t e
    has = let f = found_at ts e k at in subst (λ (x : Triangle). HasEdge x e) (same_Some f.0 t (sym f.1 ∙ there)) f.2

    here_put : (v : Walls) → IsMarkedMore t e.from v w → IsPutAt ts e k t v w
    here_put v m = let s = starts t e n (are.each k t there) has in record {
      pq = put_one ts e (edge_pq t) k t.p v.pq w.pq at refl s.0 m.pq;
      qr = put_one ts e (edge_qr t) k t.q v.qr w.qr at refl s.1 m.qr;
      rp = put_one ts e (edge_rp t) k t.r v.rp w.rp at refl s.2 m.rp;
    }

    this : (j : ℕ) (u : Triangle) (d : Walls) → j ≡ k → slice_get ts j ≡ Some u → IsPutAt ts e j u (slice_index_or old j d) (slice_index_or (set old k w) j d)
    this j u d same here =
        let e1 : t ≡ u = same_Some t u (sym there ∙ ap (slice_get ts) (sym same) ∙ here) in
        subst (λ (i : ℕ). IsPutAt ts e i u (slice_index_or old i d) (slice_index_or (set old k w) i d)) (sym same)
        (subst (λ (x : Walls). IsPutAt ts e k u (slice_index_or old k d) x) (sym (get_or-set_same old k w d lt))
        (subst (λ (x : Triangle). IsPutAt ts e k x (slice_index_or old k d) w) e1
        (here_put (slice_index_or old k d) (subst (λ (x : Walls). IsMarkedMore t e.from x w) (any d) m))))

-- ---- the loop over the lines

wall_later : (m : Map) (ts : List Triangle) (n k : ℕ) (e : Edge) → IsWallBefore m ts n k e → IsWallBefore m ts (n + 1) k e
wall_later m ts n k e ((i, lt, h), at) = ((i, omega (arith, lt), h), at)

-- the two edges of a line
right_edge : (p : PlanParts) → IsPlan p → (n : ℕ) (l : Line) → slice_get p.lines n ≡ Some (Some l) → (e : Edge) → e ≡ record { from = l.b; to = l.a } → IsEdgeOf (map_of p) e n
right_edge p is n l at e f = (looked_up p.points l, false, plan_line_at p n l at, f ∙ sym (ap reverse_of (line_edge_of_plan p is n l at)))

left_edge : (p : PlanParts) → IsPlan p → (n : ℕ) (l : Line) → slice_get p.lines n ≡ Some (Some l) → (e : Edge) → e ≡ record { from = l.a; to = l.b } → IsEdgeOf (map_of p) e n
left_edge p is n l at e f = (looked_up p.points l, true, plan_line_at p n l at, f ∙ sym (line_edge_of_plan p is n l at))

which_edge : (p : PlanParts) → IsPlan p → (n : ℕ) (l : Line) → slice_get p.lines n ≡ Some (Some l) → (e : Edge) → IsEdgeOf (map_of p) e n → (e ≡ record { from = l.a; to = l.b }) ⊎ (e ≡ record { from = l.b; to = l.a })
which_edge p is n l at e (k, left, there, f) = go left (f ∙ ap (λ (x : MapLine). side_edge (map_of p) x left) (same_Some k (looked_up p.points l) (sym there ∙ plan_line_at p n l at)))
  where
    go : (left : Bool) → e ≡ side_edge (map_of p) (looked_up p.points l) left → (e ≡ record { from = l.a; to = l.b }) ⊎ (e ≡ record { from = l.b; to = l.a })
    go true f = inl (f ∙ line_edge_of_plan p is n l at)
    go false f = inr (f ∙ ap reverse_of (line_edge_of_plan p is n l at))

one_edge_more : (p : PlanParts) → IsPlan p → (ts : List Triangle) (n k : ℕ) (l : Line) → slice_get p.lines n ≡ Some (Some l) → (e : Edge) (b0 b1 b2 : Bool) → (IsTrue b0 ↔ IsWallBefore (map_of p) ts n k e)
    → (IsTrue b1 ↔ IsPutHere ts (record { from = l.a; to = l.b }) k b0 e) → (IsTrue b2 ↔ IsPutHere ts (record { from = l.b; to = l.a }) k b1 e) → IsTrue b2 ↔ IsWallBefore (map_of p) ts (n + 1) k e
one_edge_more p is ts n k l at e b0 b1 b2 m0 m1 m2 = (
  λ h. elim (m2.0 h) as (λ _. IsWallBefore (map_of p) ts (n + 1) k e) [
    | inl h1 ↦ elim (m1.0 h1) as (λ _. IsWallBefore (map_of p) ts (n + 1) k e) [
      | inl h0 ↦ wall_later (map_of p) ts n k e (m0.0 h0)
      | inr s ↦ ((n, omega arith, left_edge p is n l at e s.0), ap (triangle_at ts) s.0 ∙ s.1)
    ]
    | inr s ↦ ((n, omega arith, right_edge p is n l at e s.0), ap (triangle_at ts) s.0 ∙ s.1)
  ],
  back,
)
  where
    back : IsWallBefore (map_of p) ts (n + 1) k e → IsTrue b2
    back ((i, lt, h), there) = elim (below_or_last i n lt) as (λ _. IsTrue b2) [
      | inl less ↦ m2.1 (inl (m1.1 (inl (m0.1 ((i, less, h), there)))))
      | inr same ↦ elim (which_edge p is n l at e (subst (λ (j : ℕ). IsEdgeOf (map_of p) e j) same h)) as (λ _. IsTrue b2) [
        | inl s ↦ m2.1 (inl (m1.1 (inr (s, ap (triangle_at ts) (sym s) ∙ there))))
        | inr s ↦ m2.1 (inr (s, ap (triangle_at ts) (sym s) ∙ there))
      ]
    ]

pub line_marked : (p : PlanParts) → IsPlan p → (ts : List Triangle) (n : ℕ) (l : Line) (ws vs us : List Walls) → slice_get p.lines n ≡ Some (Some l) → AreWallsMarked (IsWallBefore (map_of p) ts n) ts ws
    → IsWallPut ts (record { from = l.a; to = l.b }) ws vs → IsWallPut ts (record { from = l.b; to = l.a }) vs us → AreWallsMarked (IsWallBefore (map_of p) ts (n + 1)) ts us
line_marked p is ts n l ws vs us at m f g = record {
  one_each = g.len ∙ f.len ∙ m.one_each;
  each = λ k t d there. let a = m.each k t d there in let b = f.each k t d there in let c = g.each k t d there in record {
    pq = one_edge_more p is ts n k l at (edge_pq t) _ _ _ a.pq b.pq c.pq;
    qr = one_edge_more p is ts n k l at (edge_qr t) _ _ _ a.qr b.qr c.qr;
    rp = one_edge_more p is ts n k l at (edge_rp t) _ _ _ a.rp b.rp c.rp;
  };
}

changed : (V W : Edge → Type 0) (t : Triangle) (w : Walls) → ((e : Edge) → V e ↔ W e) → HasMarks V t w → HasMarks W t w
changed V W t w h m = record { pq = both m.pq (h _); qr = both m.qr (h _); rp = both m.rp (h _) }
  where
    both : {A B C : Type 0} → A ↔ B → B ↔ C → A ↔ C
    both f g = (λ x. g.0 (f.0 x), λ z. f.1 (g.1 z))

changed_all : (V W : ℕ → Edge → Type 0) (ts : List Triangle) (ws : List Walls) → ((k : ℕ) (e : Edge) → V k e ↔ W k e) → AreWallsMarked V ts ws → AreWallsMarked W ts ws
changed_all V W ts ws h m = record { one_each = m.one_each; each = λ k t d at. changed (V k) (W k) t (slice_index_or ws k d) (h k) (m.each k t d at) }

pub none_marked : (m : Map) (ts : List Triangle) (ws : List Walls) → AreWallsMarked (λ k e. ⊥) ts ws → AreWallsMarked (IsWallBefore m ts 0) ts ws
none_marked m ts ws h = changed_all _ _ ts ws (λ k e. (λ x. absurd x, λ w. let lt = w.0.1 in omega arith)) h

pub no_line_marked : (p : PlanParts) (ts : List Triangle) (n : ℕ) (ws : List Walls) → slice_get p.lines n ≡ Some None → AreWallsMarked (IsWallBefore (map_of p) ts n) ts ws → AreWallsMarked (IsWallBefore (map_of p) ts (n + 1)) ts ws
no_line_marked p ts n ws at h = changed_all _ _ ts ws (λ k e. (wall_later (map_of p) ts n k e, back k e)) h
  where
    no_line : (l : MapLine) → line_at (map_of p) n ≡ Some l → ⊥
    no_line l e = none-some l (sym (no_line_there p n at) ∙ e)

    back : (k : ℕ) (e : Edge) → IsWallBefore (map_of p) ts (n + 1) k e → IsWallBefore (map_of p) ts n k e
    back k e ((i, lt, h), there) = elim (below_or_last i n lt) as (λ _. IsWallBefore (map_of p) ts n k e) [
      | inl less ↦ ((i, less, h), there)
      | inr same ↦ absurd (no_line h.0 (subst (λ (j : ℕ). line_at (map_of p) j ≡ Some h.0) same h.2))
    ]

pub walls_done : (p : PlanParts) (ts : List Triangle) (n : ℕ) (ws : List Walls) → length p.lines ≤ n → AreWallsMarked (IsWallBefore (map_of p) ts n) ts ws → AreWalls (map_of p) ts ws
walls_done p ts n ws past h = changed_all _ _ ts ws (λ k e. (
  λ w. ((w.0.0, w.0.2.0, w.0.2.1, w.0.2.2, w.0.2.3), w.1),
  λ w. ((w.0.0, (let lt = line_below p w.0.0 w.0.1 w.0.3 in omega (arith, lt, past)), (w.0.1, w.0.2, w.0.3, w.0.4)), w.1),
)) h

-- ---- links

row_joined : (ts : List Triangle) (ws : List Walls) (a b c : ℕ) (xs ys : List ℕ) → IsRowOfLinks ts ws a xs b → IsRowOfLinks ts ws b ys c → IsRowOfLinks ts ws a (xs ++ ys) c
row_joined ts ws a b c [] ys e h = subst (λ (k : ℕ). IsRowOfLinks ts ws k ys c) (sym e) h
row_joined ts ws a b c (x ∷ xs) ys g h = (g.0, row_joined ts ws x b c xs ys g.1 h)

pub linked_joined : (ts : List Triangle) (ws : List Walls) (a b c : ℕ) → AreLinked ts ws a b → AreLinked ts ws b c → AreLinked ts ws a c
linked_joined ts ws a b c g h = (g.0 ++ h.0, row_joined ts ws a b c g.0 h.0 g.1 h.1)

abbrev pub OnlyLinked : List Triangle → List Walls → List ℕ → Type 0
OnlyLinked ts ws fs = (k j : ℕ) → k < length ts → j < length ts → class_of fs k ≡ class_of fs j → AreLinked ts ws k j

pub record AreLinkedBefore (ts : List Triangle) (ws : List Walls) (n : ℕ) (fs : List ℕ) : Type 0 where
  pub len : length fs ≡ length ts
  pub named : AreLeast fs
  pub linked : (k j : ℕ) → k < n → IsLink ts ws k j → class_of fs k ≡ class_of fs j
  pub only : OnlyLinked ts ws fs

-- what one edge of the triangle at n brings
record IsStage (ts : List Triangle) (ws : List Walls) (n : ℕ) (e : Edge) (b : Bool) (old new : List ℕ) : Type 0 where
  len : length new ≡ length ts
  keeps : (k j : ℕ) → k < length ts → j < length ts → class_of old k ≡ class_of old j → class_of new k ≡ class_of new j
  joins : (j : ℕ) → b ≡ false → triangle_at ts (reverse_of e) ≡ Some j → class_of new n ≡ class_of new j
  only : OnlyLinked ts ws new

same_stage : (ts : List Triangle) (ws : List Walls) (n : ℕ) (e : Edge) (b : Bool) (old new : List ℕ) → length old ≡ length ts → OnlyLinked ts ws old → new ≡ old → ((j : ℕ) → b ≡ false → triangle_at ts (reverse_of e) ≡ Some j → ⊥) → IsStage ts ws n e b old new
same_stage ts ws n e b old new len only same none = record {
  len = ap length same ∙ len;
  keeps = λ k j hk hj h. ap (λ (xs : List ℕ). class_of xs k) same ∙ h ∙ ap (λ (xs : List ℕ). class_of xs j) (sym same);
  joins = λ j f at. absurd (none j f at);
  only = λ k j hk hj h. only k j hk hj (ap (λ (xs : List ℕ). class_of xs k) (sym same) ∙ h ∙ ap (λ (xs : List ℕ). class_of xs j) same);
}

one_link : (ts : List Triangle) (ws : List Walls) (a b : ℕ) → IsLink ts ws a b → AreLinked ts ws a b
one_link ts ws a b h = (b ∷ [], (inl h, refl))

one_link_back : (ts : List Triangle) (ws : List Walls) (a b : ℕ) → IsLink ts ws a b → AreLinked ts ws b a
one_link_back ts ws a b h = (a ∷ [], (inr h, refl))

merged_stage : (ts : List Triangle) (ws : List Walls) (n : ℕ) (e : Edge) (j : ℕ) (old new : List ℕ) → n < length ts → triangle_at ts (reverse_of e) ≡ Some j → IsLink ts ws n j → length old ≡ length ts → OnlyLinked ts ws old → AreMerged n j old new → IsStage ts ws n e false old new
merged_stage ts ws n e j old new hn at link len only m =
    let lj = triangle_within ts (reverse_of e) j at in record {
      len = m.len ∙ len;
      keeps = λ k i hk hi h. (m.exactly k i (omega (arith, len, hk)) (omega (arith, len, hi))).1 (inl h);
      joins = λ i f there. (m.exactly n j (omega (arith, len, hn)) (omega (arith, len, lj))).1 (inr (inl (refl, refl))) ∙ ap (class_of new) (one_value (triangle_at ts (reverse_of e)) j i at there);
      only = λ k i hk hi h. elim ((m.exactly k i (omega (arith, len, hk)) (omega (arith, len, hi))).0 h) as (λ _. AreLinked ts ws k i) [
        | inl same ↦ only k i hk hi same
        | inr (inl both) ↦ linked_joined ts ws k n i (only k n hk hn both.0) (linked_joined ts ws n j i (one_link ts ws n j link) (only j i lj hi (sym both.1)))
        | inr (inr both) ↦ linked_joined ts ws k j i (only k j hk lj both.0) (linked_joined ts ws j n i (one_link_back ts ws n j link) (only n i hn hi (sym both.1)))
      ];
    }

stage : (ts : List Triangle) (ws : List Walls) (n : ℕ) (t : Triangle) (w : Walls) (e : Edge) (b : Bool) (old new : List ℕ) → slice_get ts n ≡ Some t → slice_get ws n ≡ Some w → (b ≡ false → IsFreeEdge t w e)
    → length old ≡ length ts → OnlyLinked ts ws old → JoinsAcross ts b n e old new → IsStage ts ws n e b old new
stage ts ws n t w e true old new at marks free len only c = same_stage ts ws n e true old new len only c (λ j f there. false≢true (sym f))
stage ts ws n t w e false old new at marks free len only c = go (triangle_at ts (reverse_of e)) refl c
  where
    go : (o : Option ℕ) → triangle_at ts (reverse_of e) ≡ o → MatchOption o (new ≡ old) (λ j. AreMerged n j old new) → IsStage ts ws n e false old new
    go None h same = same_stage ts ws n e false old new len only same (λ j f there. none-some j (sym h ∙ there))
    go (Some j) h m = merged_stage ts ws n e j old new (slice_get_within ts n t at) h (record { t = t; w = w; e = e; at = at; marks = marks; free = free refl; behind = h }) len only m

pub triangle_linked : (ts : List Triangle) (ws : List Walls) (n : ℕ) (t : Triangle) (w : Walls) (old new : List ℕ) → slice_get ts n ≡ Some t → slice_get ws n ≡ Some w → AreLinkedBefore ts ws n old → AreCrossed ts w n t old new → AreLeast new → AreLinkedBefore ts ws (n + 1) new
triangle_linked ts ws n t w old new at marks h c named =
    let s1 = stage ts ws n t w (edge_pq t) w.pq old c.after_pq at marks (λ f. inl (refl, f)) h.len h.only c.pq in
    let s2 = stage ts ws n t w (edge_qr t) w.qr c.after_pq c.after_qr at marks (λ f. inr (inl (refl, f))) s1.len s1.only c.qr in
    let s3 = stage ts ws n t w (edge_rp t) w.rp c.after_qr new at marks (λ f. inr (inr (refl, f))) s2.len s2.only c.rp in
    let hn = slice_get_within ts n t at in record {
      len = s3.len;
      named = named;
      linked = λ k j lt link. elim (below_or_last k n lt) as (λ _. class_of new k ≡ class_of new j) [
        | inl less ↦ let hk = slice_get_within ts k link.t link.at in let hj = triangle_within ts (reverse_of link.e) j link.behind in
            s3.keeps k j hk hj (s2.keeps k j hk hj (s1.keeps k j hk hj (h.linked k j less link)))
        | inr same ↦ let hj = triangle_within ts (reverse_of link.e) j link.behind in
            let et : link.t ≡ t = same_Some link.t t (sym link.at ∙ ap (slice_get ts) same ∙ at) in
            let ew : link.w ≡ w = same_Some link.w w (sym link.marks ∙ ap (slice_get ws) same ∙ marks) in
            let free : IsFreeEdge t w link.e = subst (λ (x : Triangle). IsFreeEdge x w link.e) et (subst (λ (x : Walls). IsFreeEdge link.t x link.e) ew link.free) in
            ap (class_of new) same ∙ (elim free as (λ _. class_of new n ≡ class_of new j) [
              | inl f ↦ s3.keeps n j hn hj (s2.keeps n j hn hj (s1.joins j f.1 (ap (λ (x : Edge). triangle_at ts (reverse_of x)) (sym f.0) ∙ link.behind)))
              | inr (inl f) ↦ s3.keeps n j hn hj (s2.joins j f.1 (ap (λ (x : Edge). triangle_at ts (reverse_of x)) (sym f.0) ∙ link.behind))
              | inr (inr f) ↦ s3.joins j f.1 (ap (λ (x : Edge). triangle_at ts (reverse_of x)) (sym f.0) ∙ link.behind)
            ])
      ];
      only = s3.only;
    }

single_named : (n : ℕ) (cs : List ℕ) → AreSingles n cs → AreLeast cs
single_named n cs s = record {
  least = λ k h. let e = s.alone k (let l = s.len in omega arith) in omega (arith, e);
  own = λ k h. ap (class_of cs) (s.alone k (let l = s.len in omega arith));
}

pub none_linked : (ts : List Triangle) (ws : List Walls) (fs : List ℕ) → AreSingles (length ts) fs → AreLinkedBefore ts ws 0 fs
none_linked ts ws fs s = record {
  len = s.len;
  named = single_named (length ts) fs s;
  linked = λ k j lt. absurd (omega arith);
  only = λ k j hk hj e. ([], sym (s.alone k hk) ∙ e ∙ s.alone j hj);
}

pub all_linked : (ts : List Triangle) (ws : List Walls) (n : ℕ) (fs : List ℕ) → length ts ≤ n → AreLinkedBefore ts ws n fs → AreFaces ts ws fs
all_linked ts ws n fs past h = record { one_each = h.len; named = h.named; linked = λ k j link. h.linked k j (let lt = slice_get_within ts k link.t link.at in omega (arith, lt, past)) link; only = h.only }

-- ---- gaps

pub gap_if : (ts : List Triangle) (ws : List Walls) (k : ℕ) (t : Triangle) (w : Walls) → slice_get ts k ≡ Some t → slice_get ws k ≡ Some w → HasGapHere ts w t → HasGap ts ws k
gap_if ts ws k t w at marks h = elim h as (λ _. HasGap ts ws k) [
  | inl g ↦ record { t = t; w = w; e = edge_pq t; at = at; marks = marks; free = inl (refl, g.0); behind = g.1 }
  | inr (inl g) ↦ record { t = t; w = w; e = edge_qr t; at = at; marks = marks; free = inr (inl (refl, g.0)); behind = g.1 }
  | inr (inr g) ↦ record { t = t; w = w; e = edge_rp t; at = at; marks = marks; free = inr (inr (refl, g.0)); behind = g.1 }
]

pub gap_only : (ts : List Triangle) (ws : List Walls) (k : ℕ) (t : Triangle) (w : Walls) → slice_get ts k ≡ Some t → slice_get ws k ≡ Some w → HasGap ts ws k → HasGapHere ts w t
gap_only ts ws k t w at marks g =
    let et : g.t ≡ t = same_Some g.t t (sym g.at ∙ at) in
    let ew : g.w ≡ w = same_Some g.w w (sym g.marks ∙ marks) in
    let free : IsFreeEdge t w g.e = subst (λ (x : Triangle). IsFreeEdge x w g.e) et (subst (λ (x : Walls). IsFreeEdge g.t x g.e) ew g.free) in
    elim free as (λ _. HasGapHere ts w t) [
      | inl f ↦ inl (f.1, ap (λ (x : Edge). triangle_at ts (reverse_of x)) (sym f.0) ∙ g.behind)
      | inr (inl f) ↦ inr (inl (f.1, ap (λ (x : Edge). triangle_at ts (reverse_of x)) (sym f.0) ∙ g.behind))
      | inr (inr f) ↦ inr (inr (f.1, ap (λ (x : Edge). triangle_at ts (reverse_of x)) (sym f.0) ∙ g.behind))
    ]

pub record AreOpenBefore (ts : List Triangle) (ws : List Walls) (fs : List ℕ) (n : ℕ) (os : List Bool) : Type 0 where
  pub one_each : length os ≡ length ts
  pub gap : (k : ℕ) → k < n → k < length ts → HasGap ts ws k → slice_index_or os (class_of fs k) false ≡ true
  pub only : (f : ℕ) → slice_index_or os f false ≡ true → (k : ℕ) × (k < length ts) × (class_of fs k ≡ f) × HasGap ts ws k

pub none_opened : (ts : List Triangle) (ws : List Walls) (fs : List ℕ) (os : List Bool) → length os ≡ length ts → ((f : ℕ) → slice_index_or os f false ≡ false) → AreOpenBefore ts ws fs 0 os
none_opened ts ws fs os len none = record { one_each = len; gap = λ k lt. absurd (omega arith); only = λ f h. absurd (false≢true (sym (none f) ∙ h)) }

pub gap_opened : (ts : List Triangle) (ws : List Walls) (fs : List ℕ) (n f : ℕ) (os : List Bool) → n < length ts → f ≡ class_of fs n → f < length ts → HasGap ts ws n → AreOpenBefore ts ws fs n os → AreOpenBefore ts ws fs (n + 1) (set os f true)
gap_opened ts ws fs n f os lt e hf g h =
    let len = h.one_each in record {
      one_each = length-set os f true ∙ len;
      gap = λ k less hk gk. elim (cases_eq (class_of fs k) f) as (λ _. slice_index_or (set os f true) (class_of fs k) false ≡ true) [
        | inl same ↦ ap (λ (i : ℕ). slice_index_or (set os f true) i false) same ∙ get_or-set_same os f true false (omega (arith, len, hf))
        | inr other ↦ get_or-set_other os f (class_of fs k) true false other ∙ h.gap k (elim (below_or_last k n less) as (λ _. k < n) [ inl l ↦ l | inr same ↦ absurd (other (ap (class_of fs) same ∙ sym e)) ]) hk gk
      ];
      only = λ i o. elim (cases_eq i f) as (λ _. (k : ℕ) × (k < length ts) × (class_of fs k ≡ i) × HasGap ts ws k) [
        | inl same ↦ (n, lt, sym e ∙ sym same, g)
        | inr other ↦ h.only i (sym (get_or-set_other os f i true false other) ∙ o)
      ];
    }

pub gap_passed : (ts : List Triangle) (ws : List Walls) (fs : List ℕ) (n : ℕ) (os : List Bool) → ¬ HasGap ts ws n → AreOpenBefore ts ws fs n os → AreOpenBefore ts ws fs (n + 1) os
gap_passed ts ws fs n os none h = record {
  one_each = h.one_each;
  gap = λ k less hk gk. elim (below_or_last k n less) as (λ _. slice_index_or os (class_of fs k) false ≡ true) [ inl l ↦ h.gap k l hk gk | inr same ↦ absurd (none (subst (HasGap ts ws) same gk)) ];
  only = h.only;
}

pub all_opened : (ts : List Triangle) (ws : List Walls) (fs : List ℕ) (n : ℕ) (os : List Bool) → length ts ≤ n → AreOpenBefore ts ws fs n os → AreOpen ts ws fs os
all_opened ts ws fs n os past h = record { one_each = h.one_each; gap = λ k hk g. h.gap k (omega (arith, hk, past)) hk g; only = h.only }
