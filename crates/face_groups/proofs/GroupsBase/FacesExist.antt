-- Each plain mesh of a map has its marked edges and its faces.
use Rattle.std.proofs.Common.{◌≡◌, ℕ, zero, suc, ◌+◌, ◌<◌, ◌≤◌, refl, sym, ap, ◌∙◌, subst, ◌⊎◌, inl, inr, ◌↔◌, List, [], ◌∷◌, length, map, slice_get, slice_index_or, Option, Some, None, MatchOption, Bool, true, false, IsTrue, option_map, arith}
use Rattle.std.proofs.lemmas.Bool.{false≢true}
use Rattle.std.proofs.lemmas.Option.{slice_get-get_or, get_or_from_slice_get, slice_get-map, same_Some, none-some}
use Rattle.math_base.proofs.Numbers.{below_above_or_same}
use Rattle.sight_names.specs.declared.names.Triangle.{Triangle}
use Rattle.sight_names.specs.Map.{Map}
use Rattle.sight_names.specs.Points.{Edge, reverse_of}
use Rattle.sight_names.specs.Mesh.{IsLineEdge, IsPlainMesh, triangle_at}
use Rattle.sight_names.proofs.Portals.{triangle_within}
use Rattle.mesh_base.proofs.GoodMesh.{PointFacts}
use Rattle.face_groups.specs.declared.tri_sectors.faces.Walls.{Walls}
use Rattle.face_groups.specs.TriSectors.Classes.{class_of, AreLeast, AreSingles, AreMerged, WillBeOne, renamed}
use Rattle.face_groups.specs.TriSectors.Faces.{edge_pq, edge_qr, edge_rp, HasMarks, IsWallAt, AreWalls, AreFaces, JoinsAcross}
use Rattle.face_groups.proofs.TriSectors.FaceLemmas.{AreLinkedBefore, none_linked, triangle_linked, all_linked, any_walls}
use Rattle.face_groups.proofs.TriSectors.FaceRegion.{Ground}
use Rattle.face_groups.proofs.TriSectors.ClassLemmas.{merged_back, renamed_cases}

-- ---- marked edges

module _ (m : Map) (facts : PointFacts m) (ts : List Triangle) where
  no_mark : (k : ℕ) (e : Edge) → (IsWallAt m ts k e → ⊥) → (b : Bool) × (IsTrue b ↔ IsWallAt m ts k e)
  no_mark k e n = (false, (λ h. absurd (false≢true h), λ w. absurd (n w)))

  mark : (k : ℕ) (e : Edge) → (b : Bool) × (IsTrue b ↔ IsWallAt m ts k e)
  mark k e = elim (facts.dec_line e) as (λ _. (b : Bool) × (IsTrue b ↔ IsWallAt m ts k e)) [
    | inr n ↦ no_mark k e (λ w. n w.0)
    | inl line ↦ first line (triangle_at ts e) refl
  ]
    where
      first : IsLineEdge m e → (o : Option ℕ) → triangle_at ts e ≡ o → (b : Bool) × (IsTrue b ↔ IsWallAt m ts k e)
      first line None there = no_mark k e (λ w. none-some k (sym there ∙ w.1))
      first line (Some j) there = elim (below_above_or_same j k) as (λ _. (b : Bool) × (IsTrue b ↔ IsWallAt m ts k e)) [
        | inl lt ↦ no_mark k e (λ w. let q = same_Some j k (sym there ∙ w.1) in omega (arith, lt, q))
        | inr (inl gt) ↦ no_mark k e (λ w. let q = same_Some j k (sym there ∙ w.1) in omega (arith, gt, q))
        | inr (inr q) ↦ (true, (λ h. (line, there ∙ ap (λ (x : ℕ). Some x) q), λ w. refl))
      ]

  record AreMarks (n : ℕ) (us : List Triangle) (ws : List Walls) : Type 0 where
    len : length ws ≡ length us
    each : (k : ℕ) (t : Triangle) (d : Walls) → slice_get us k ≡ Some t → HasMarks (IsWallAt m ts (n + k)) t (slice_index_or ws k d)

  marks_from : (n : ℕ) (us : List Triangle) → (ws : List Walls) × AreMarks n us ws
  marks_from n [] = ([], record { len = refl; each = λ k t d e. absurd (none-some t e) })
  marks_from n (u ∷ us) =
      let r = marks_from (suc n) us in
      let a = mark n (edge_pq u) in let b = mark n (edge_qr u) in let c = mark n (edge_rp u) in
      let w : Walls = record { pq = a.0; qr = b.0; rp = c.0 } in
      let marks : HasMarks (IsWallAt m ts n) u w = record { pq = a.1; qr = b.1; rp = c.1 } in
      (w ∷ r.0, record { len = ap suc r.1.len; each = λ k t d e. each w marks r.0 r.1 k t d e })
    where
      each : (w : Walls) → HasMarks (IsWallAt m ts n) u w → (ws : List Walls) → AreMarks (suc n) us ws → (k : ℕ) (t : Triangle) (d : Walls) → slice_get (u ∷ us) k ≡ Some t → HasMarks (IsWallAt m ts (n + k)) t (slice_index_or (w ∷ ws) k d)
      each w h ws r zero t d e = subst (λ (x : ℕ). HasMarks (IsWallAt m ts x) t w) (omega arith) (subst (λ (y : Triangle). HasMarks (IsWallAt m ts n) y w) (same_Some u t e) h)
      each w h ws r (suc k) t d e = subst (λ (x : ℕ). HasMarks (IsWallAt m ts x) t (slice_index_or ws k d)) (omega arith) (r.each k t d e)

  pub walls_exist : (ws : List Walls) × AreWalls m ts ws
  walls_exist = let r = marks_from 0 ts in (r.0, record { one_each = r.1.len; each = λ k t d e. subst (λ (x : ℕ). HasMarks (IsWallAt m ts x) t (slice_index_or r.0 k d)) (omega arith) (r.1.each k t d e) })

-- ---- classes

class_is : (f : ℕ → ℕ) (cs : List ℕ) (k : ℕ) → k < length cs → class_of (map f cs) k ≡ f (class_of cs k)
class_is f cs k lt = get_or_from_slice_get (map f cs) k (f (class_of cs k)) 0 (slice_get-map f cs k ∙ ap (λ (o : Option ℕ). option_map f o) (slice_get-get_or cs k 0 lt))

length_map : (f : ℕ → ℕ) (cs : List ℕ) → length (map f cs) ≡ length cs
length_map f [] = refl
length_map f (c ∷ cs) = ap suc (length_map f cs)

numbers_from : (s n : ℕ) → (cs : List ℕ) × ((length cs ≡ n) × ((k : ℕ) → k < n → class_of cs k ≡ s + k))
numbers_from s zero = ([], (refl, λ k lt. omega (arith, lt)))
numbers_from s (suc n) = let r = numbers_from (suc s) n in (s ∷ r.0, (ap suc r.1.0, λ k lt. at r.0 r.1.1 k lt))
  where
    at : (cs : List ℕ) → ((k : ℕ) → k < n → class_of cs k ≡ suc s + k) → (k : ℕ) → k < suc n → class_of (s ∷ cs) k ≡ s + k
    at cs h zero lt = omega arith
    at cs h (suc k) lt = let e = h k (omega (arith, lt)) in omega (arith, e)

pub singles_exist : (n : ℕ) → (cs : List ℕ) × AreSingles n cs
singles_exist n = let r = numbers_from 0 n in (r.0, record { len = r.1.0; alone = λ k lt. let e = r.1.1 k lt in omega (arith, e) })

-- the class from gets the name of the class to, which is less
rename : (a b : ℕ) (old : List ℕ) → a < length old → b < length old → AreLeast old → class_of old a < class_of old b → (new : List ℕ) × AreMerged a b old new
rename a b old ha hb least lt =
    let from = class_of old b in let to = class_of old a in
    let new = map (renamed from to) old in (
      new,
      record {
        len = length_map (renamed from to) old;
        named = record { least = λ k h. below k (len_of k h); own = λ k h. own k (len_of k h) };
        exactly = λ k j hk hj. exactly k j hk hj;
      },
    )
  where
    len_of : (k : ℕ) → k < length (map (renamed (class_of old b) (class_of old a)) old) → k < length old
    len_of k h = let e = length_map (renamed (class_of old b) (class_of old a)) old in omega (arith, h, e)

    one : (k : ℕ) → k < length old → ((class_of old k ≡ class_of old b) × (class_of (map (renamed (class_of old b) (class_of old a)) old) k ≡ class_of old a))
        ⊎ ((class_of old k ≡ class_of old b → ⊥) × (class_of (map (renamed (class_of old b) (class_of old a)) old) k ≡ class_of old k))
    one k h =
        let e = class_is (renamed (class_of old b) (class_of old a)) old k h in
        elim (renamed_cases (class_of old b) (class_of old a) (class_of old k)) as (λ _. ((class_of old k ≡ class_of old b) × (class_of (map (renamed (class_of old b) (class_of old a)) old) k ≡ class_of old a))
        ⊎ ((class_of old k ≡ class_of old b → ⊥) × (class_of (map (renamed (class_of old b) (class_of old a)) old) k ≡ class_of old k))) [
          | inl c ↦ inl (c.0, e ∙ c.1)
          | inr c ↦ inr (c.0, e ∙ c.1)
        ]

    below : (k : ℕ) → k < length old → class_of (map (renamed (class_of old b) (class_of old a)) old) k ≤ k
    below k h = let l = least.least k h in elim (one k h) as (λ _. class_of (map (renamed (class_of old b) (class_of old a)) old) k ≤ k) [
      | inl c ↦ (let x = c.0 in let y = c.1 in omega (arith, lt, l, x, y))
      | inr c ↦ (let y = c.1 in omega (arith, l, y))
    ]

    own : (k : ℕ) → k < length old → class_of (map (renamed (class_of old b) (class_of old a)) old) (class_of (map (renamed (class_of old b) (class_of old a)) old) k) ≡ class_of (map (renamed (class_of old b) (class_of old a)) old) k
    own k h =
        let P : ℕ → Type 0 = λ x. class_of (map (renamed (class_of old b) (class_of old a)) old) x ≡ x in
        elim (one k h) as (λ _. P (class_of (map (renamed (class_of old b) (class_of old a)) old) k)) [
          | inl c ↦ subst P (sym c.1) (self a (class_of old a) ha refl (λ q. omega (arith, lt, q)))
          | inr c ↦ subst P (sym c.1) (self k (class_of old k) h refl c.0)
        ]
      where
        -- the name of a class that stays
        self : (i c : ℕ) → i < length old → class_of old i ≡ c → (c ≡ class_of old b → ⊥) → class_of (map (renamed (class_of old b) (class_of old a)) old) c ≡ c
        self i c hi e n =
            let l = least.least i hi in
            let hc : c < length old = omega (arith, l, e, hi) in
            let o : class_of old c ≡ c = ap (class_of old) (sym e) ∙ least.own i hi ∙ e in
            elim (one c hc) as (λ _. class_of (map (renamed (class_of old b) (class_of old a)) old) c ≡ c) [
              | inl x ↦ absurd (n (sym o ∙ x.0))
              | inr x ↦ x.1 ∙ o
            ]

    exactly : (k j : ℕ) → k < length old → j < length old → (class_of (map (renamed (class_of old b) (class_of old a)) old) k ≡ class_of (map (renamed (class_of old b) (class_of old a)) old) j) ↔ WillBeOne old a b k j
    exactly k j hk hj = split (class_of old k) (class_of old j) (class_of old a) (class_of old b) _ _ (one k hk) (one j hj) lt
      where
        split : (ck cj ca cb nk nj : ℕ) → ((ck ≡ cb) × (nk ≡ ca)) ⊎ ((ck ≡ cb → ⊥) × (nk ≡ ck)) → ((cj ≡ cb) × (nj ≡ ca)) ⊎ ((cj ≡ cb → ⊥) × (nj ≡ cj)) → ca < cb
            → (nk ≡ nj) ↔ ((ck ≡ cj) ⊎ ((ck ≡ ca) × (cj ≡ cb)) ⊎ ((ck ≡ cb) × (cj ≡ ca)))
        split ck cj ca cb nk nj (inl x) (inl y) less = (λ e. inl (x.0 ∙ sym y.0), λ h. x.1 ∙ sym y.1)
        split ck cj ca cb nk nj (inl x) (inr y) less = (
          λ e. inr (inr (x.0, sym y.1 ∙ sym e ∙ x.1)),
          λ h. elim h as (λ _. nk ≡ nj) [ inl q ↦ absurd (y.0 (sym q ∙ x.0)) | inr (inl q) ↦ absurd (y.0 q.1) | inr (inr q) ↦ x.1 ∙ sym q.1 ∙ sym y.1 ],
        )
        split ck cj ca cb nk nj (inr x) (inl y) less = (
          λ e. inr (inl (sym x.1 ∙ e ∙ y.1, y.0)),
          λ h. elim h as (λ _. nk ≡ nj) [ inl q ↦ absurd (x.0 (q ∙ y.0)) | inr (inl q) ↦ x.1 ∙ q.0 ∙ sym y.1 | inr (inr q) ↦ absurd (x.0 q.0) ],
        )
        split ck cj ca cb nk nj (inr x) (inr y) less = (
          λ e. inl (sym x.1 ∙ e ∙ y.1),
          λ h. elim h as (λ _. nk ≡ nj) [ inl q ↦ x.1 ∙ q ∙ sym y.1 | inr (inl q) ↦ absurd (y.0 q.1) | inr (inr q) ↦ absurd (x.0 q.0) ],
        )

pub merge_exists : (a b : ℕ) (old : List ℕ) → a < length old → b < length old → AreLeast old → (new : List ℕ) × AreMerged a b old new
merge_exists a b old ha hb least = elim (below_above_or_same (class_of old a) (class_of old b)) as (λ _. (new : List ℕ) × AreMerged a b old new) [
  | inl lt ↦ rename a b old ha hb least lt
  | inr (inl gt) ↦ (let r = rename b a old hb ha least gt in (r.0, merged_back a b old r.0 r.1))
  | inr (inr e) ↦ (old, record { len = refl; named = least; exactly = λ k j hk hj. (λ q. inl q, λ w. elim w as (λ _. class_of old k ≡ class_of old j) [ inl q ↦ q | inr (inl q) ↦ q.0 ∙ e ∙ sym q.1 | inr (inr q) ↦ q.0 ∙ sym e ∙ sym q.1 ]) })
]

-- ---- faces

module _ (ts : List Triangle) where
  record Crosses (is_line : Bool) (k : ℕ) (e : Edge) (old new : List ℕ) : Type 0 where
    crossed : JoinsAcross ts is_line k e old new
    named : AreLeast new
    len : length new ≡ length old

  stays_so : (k : ℕ) (e : Edge) (old : List ℕ) → AreLeast old → triangle_at ts (reverse_of e) ≡ None → Crosses false k e old old
  stays_so k e old least none = record { crossed = subst (λ (o : Option ℕ). MatchOption o (old ≡ old) (λ j. AreMerged k j old old)) (sym none) refl; named = least; len = refl }

  cross : (is_line : Bool) (k : ℕ) (e : Edge) (old : List ℕ) → k < length old → length old ≡ length ts → AreLeast old → (new : List ℕ) × Crosses is_line k e old new
  cross true k e old lt len least = (old, record { crossed = refl; named = least; len = refl })
  cross false k e old lt len least = go (triangle_at ts (reverse_of e)) refl
    where
      go : (o : Option ℕ) → triangle_at ts (reverse_of e) ≡ o → (new : List ℕ) × Crosses false k e old new
      go None none = (old, stays_so k e old least none)
      go (Some j) there =
          let b = triangle_within ts (reverse_of e) j there in
          let r = merge_exists k j old lt (omega (arith, b, len)) least in
          (r.0, record { crossed = subst (λ (o : Option ℕ). MatchOption o (r.0 ≡ old) (λ i. AreMerged k i old r.0)) (sym there) r.1; named = r.1.named; len = r.1.len })

  linked_once : (ws : List Walls) → length ws ≡ length ts → (n : ℕ) (fs : List ℕ) → n < length ts → AreLinkedBefore ts ws n fs → (new : List ℕ) × AreLinkedBefore ts ws (n + 1) new
  linked_once ws len n fs lt h =
      let d : Triangle = record { p = 0; q = 0; r = 0 } in
      let t = slice_index_or ts n d in
      let w = slice_index_or ws n any_walls in
      let l = h.len in
      let a = cross w.pq n (edge_pq t) fs (omega (arith, lt, l)) l h.named in let la = a.1.len in
      let b = cross w.qr n (edge_qr t) a.0 (omega (arith, lt, l, la)) (omega (arith, l, la)) a.1.named in let lb = b.1.len in
      let c = cross w.rp n (edge_rp t) b.0 (omega (arith, lt, l, la, lb)) (omega (arith, l, la, lb)) b.1.named in
      (c.0, triangle_linked ts ws n t w fs c.0 (slice_get-get_or ts n d lt) (slice_get-get_or ws n any_walls (omega (arith, lt, len))) h (record { after_pq = a.0; after_qr = b.0; pq = a.1.crossed; qr = b.1.crossed; rp = c.1.crossed }) c.1.named)

  linked_upto : (ws : List Walls) → length ws ≡ length ts → (n : ℕ) → n ≤ length ts → (fs : List ℕ) × AreLinkedBefore ts ws n fs
  linked_upto ws len zero le = let s = singles_exist (length ts) in (s.0, none_linked ts ws s.0 s.1)
  linked_upto ws len (suc n) le =
      let r = linked_upto ws len n (omega (arith, le)) in
      let s = linked_once ws len n r.0 (omega (arith, le)) r.1 in
      (s.0, subst (λ (x : ℕ). AreLinkedBefore ts ws x s.0) (omega arith) s.1)

  pub faces_exist : (ws : List Walls) → length ws ≡ length ts → (fs : List ℕ) × AreFaces ts ws fs
  faces_exist ws len = let r = linked_upto ws len (length ts) (omega arith) in (r.0, all_linked ts ws (length ts) r.0 (omega arith) r.1)

pub ground_exists : (m : Map) (ts : List Triangle) → PointFacts m → IsPlainMesh m ts → (ws : List Walls) × (fs : List ℕ) × Ground m ts ws fs
ground_exists m ts facts plain =
    let w = walls_exist m facts ts in
    let f = faces_exist ts w.0 w.1.one_each in
    (w.0, f.0, record { facts = facts; plain = plain; walls = w.1; faces = f.1 })
