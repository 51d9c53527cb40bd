-- The sectors of a face: on a closed map a point that touches a side is in exactly the sectors that the sides of the face name.
use Rattle.std.proofs.Common.{◌≡◌, ℕ, ◌<◌, refl, sym, ap, ◌∙◌, subst, inl, inr, ◌↔◌, List, [], ◌∷◌, length, slice_get, Option, Some, None, Contains, Bool, false, slice_index_or, arith}
use Rattle.std.proofs.lemmas.Bool.{false≢true}
use Rattle.std.proofs.lemmas.Option.{slice_get_within, same_Some, none-some}
use Rattle.sight_names.specs.declared.names.Side.{Side}
use Rattle.sight_names.specs.declared.names.Triangle.{Triangle}
use Rattle.sight_names.specs.Point.{Point}
use Rattle.sight_names.specs.Map.{Map, MapLine, line_at, Names}
use Rattle.sight_names.specs.Path.{OnNoLine, MissesSolid, Touches, Leads, InSector}
use Rattle.sight_names.specs.Sees.{Sees}
use Rattle.sight_names.specs.Sound.{IsOutside, IsClosed}
use Rattle.sight_names.specs.Mesh.{side_edge, triangle_at}
use Rattle.sight_names.specs.Groups.{AscendStrictly, AreSectorsAt}
use Rattle.plane_base.proofs.Vec.{V}
use Rattle.plane_base.proofs.Search.{In}
use Rattle.plane_base.proofs.Walk.{Tri, sides}
use Rattle.mesh_base.proofs.SightLaws.Bridge.{vec}
use Rattle.mesh_base.proofs.SightLaws.Paths.{Holds, path_walk, free_first}
use Rattle.mesh_base.proofs.GoodMesh.{tri_of, found_at, in_class}
use Rattle.mesh_base.proofs.Joined.{Strict, CleanAll, joined}
use Rattle.mesh_shape.specs.Fills.{FillsSides}
use Rattle.face_groups.specs.declared.tri_sectors.faces.Walls.{Walls}
use Rattle.face_groups.specs.TriSectors.Classes.{class_of}
use Rattle.face_groups.specs.TriSectors.Faces.{AreLinked, IsRowOfLinks, AreMarkedFaces}
use Rattle.face_groups.specs.TriSectors.Sides.{IsSealedAt}
use Rattle.face_groups.proofs.TriSectors.GoodLabels.{HasNamedSide}
use Rattle.face_groups.proofs.TriSectors.PlainFaces.{clean_of}
use Rattle.face_groups.proofs.TriSectors.FacePaths.{leads_join, one_leg}
use Rattle.face_groups.proofs.TriSectors.FaceRegion.{Ground, GapOn, face_list, numbers, face_of_member, region_of, not_above, touched, reaches}
use Rattle.face_groups.proofs.TriSectors.FaceTouches.{centre_of, clean_at, centre_inside, stays, linked_leads, touches, closed_of_strict, LeadsOut, out_of_side, out_of_face}

-- the ascending list of the sectors that the sides of the triangle's face name
pub record AreNamedOn (m : Map) (ts : List Triangle) (fs : List ℕ) (k : ℕ) (names : List ℕ) : Type 0 where
  pub ascend : AscendStrictly names
  pub exactly : (a : ℕ) → Contains names a ↔ HasNamedSide m ts fs k a

strict_in : (t g : Tri) (r : V) → In g (sides t) → Strict t r → Strict g r
strict_in t g r i s =
    let P : Tri → Type 0 = λ x. Strict x r in
    elim i as (λ _. Strict g r) [
      | inl e ↦ subst P e s
      | inr j ↦ elim j as (λ _. Strict g r) [
        | inl e ↦ subst P e (record { ab = s.bc; bc = s.ca; ca = s.ab })
        | inr k ↦ elim k as (λ _. Strict g r) [ inl e ↦ subst P e (record { ab = s.ca; bc = s.ab; ca = s.bc }) | inr n ↦ absurd n ]
      ]
    ]

-- faces in the words of links: one face has the triangles that links join
row_class : (m : Map) (ts : List Triangle) (ws : List Walls) (fs : List ℕ) → Ground m ts ws fs → (k : ℕ) (is : List ℕ) (j : ℕ) → IsRowOfLinks ts ws k is j → class_of fs k ≡ class_of fs j
row_class m ts ws fs d k [] j e = ap (class_of fs) e
row_class m ts ws fs d k (i ∷ is) j (inl link, row) = d.faces.linked k i link ∙ row_class m ts ws fs d i is j row
row_class m ts ws fs d k (i ∷ is) j (inr link, row) = sym (d.faces.linked i k link) ∙ row_class m ts ws fs d i is j row

pub one_face : (m : Map) (ts : List Triangle) (ws : List Walls) (fs : List ℕ) → Ground m ts ws fs → (k j : ℕ) → k < length ts → j < length ts → (class_of fs k ≡ class_of fs j) ↔ AreLinked ts ws k j
one_face m ts ws fs d k j hk hj = (d.faces.only k j hk hj, λ row. row_class m ts ws fs d k row.0 j row.1)

-- a side that names a sector has its triangle, on a face without a gap
abbrev pub NamedAreSealed : Map → List Triangle → List Walls → List ℕ → Type 0
NamedAreSealed m ts ws fs = (s : Side) (l : MapLine) (a : ℕ) → line_at m s.line ≡ Some l → Names m s a → (k : ℕ) × (triangle_at ts (side_edge m l s.left) ≡ Some k) × ¬ GapOn ts ws fs (class_of fs k)

-- so it is where the map is closed and the mesh fills its hull
pub sealed_where_closed : (m : Map) (ts : List Triangle) (ws : List Walls) (fs : List ℕ) → Ground m ts ws fs → FillsSides m ts → IsClosed m → NamedAreSealed m ts ws fs
sealed_where_closed m ts ws fs d filled closed s l a is names = go (triangle_at ts (side_edge m l s.left)) refl
  where
    leads_out : LeadsOut m ts ws fs d s → ⊥
    leads_out o = closed s a o.p o.q names o.touches o.leads o.outside

    go : (o : Option ℕ) → triangle_at ts (side_edge m l s.left) ≡ o → (k : ℕ) × (triangle_at ts (side_edge m l s.left) ≡ Some k) × ¬ GapOn ts ws fs (class_of fs k)
    go None there = absurd (leads_out (out_of_side m ts ws fs d s l is (filled.lines (side_edge m l s.left) (s.line, l, s.left, is, refl)) there))
    go (Some k) there = (k, there, λ gap. leads_out (out_of_face m ts ws fs d s l k is there filled.beyond gap))

-- so it is where the faces are marked and no side is open, as the labelling of faces finds it
pub sealed_where_marked : (m : Map) (ts : List Triangle) (fs : List ℕ) (os : List Bool) (g : AreMarkedFaces m ts fs os) → ((s : Side) → IsSealedAt m ts fs os s) → NamedAreSealed m ts g.walls fs
sealed_where_marked m ts fs os g each s l a is names =
    let h = each s l a is names in
    (h.0, h.1, λ gap. false≢true (sym h.2 ∙ ap (λ (f : ℕ). slice_index_or os f false) (sym gap.face) ∙ g.are_open.gap gap.k gap.within gap.gap))

module _ (m : Map) (ts : List Triangle) (ws : List Walls) (fs : List ℕ) (d : Ground m ts ws fs) (sealed : NamedAreSealed m ts ws fs) where
  pub named_no_gap : (k a : ℕ) → HasNamedSide m ts fs k a → ¬ GapOn ts ws fs (class_of fs k)
  named_no_gap k a h gap =
      let s = sealed h.side h.line a h.is h.names in
      s.2 (subst (GapOn ts ws fs) (h.face ∙ ap (class_of fs) (same_Some h.j s.0 (sym h.at ∙ s.1))) gap)

  -- a point that touches a side is on the face of the side's triangle
  pub on_side_face : (s : Side) (k : ℕ) (p : Point) (t : Touches m p s) → triangle_at ts (side_edge m t.line s.left) ≡ Some k → ¬ GapOn ts ws fs (class_of fs k) → Holds (face_list m ts fs (class_of fs k)) p
  on_side_face s k p t there none = elim (touched m ts ws fs d s k p t there) as (λ _. Holds (face_list m ts fs (class_of fs k)) p) [ inl h ↦ h | inr gap ↦ absurd (none gap) ]

  in_named : (k a : ℕ) (t : Triangle) (p : Point) → HasNamedSide m ts fs k a → slice_get ts k ≡ Some t → OnNoLine m p → Leads m p (centre_of m t) → InSector m p a
  in_named k a t p h at free leads =
      let u = found_at ts (side_edge m h.line h.side.left) h.j h.at in
      let linked = d.faces.only k h.j (slice_get_within ts k t at) (slice_get_within ts h.j u.0 u.1) h.face in record {
        free = free;
        side = h.side;
        touches = touches m ts ws fs d h.side h.line h.j p u.0 h.is h.at u.1 (leads_join m p (centre_of m t) (centre_of m u.0) leads (linked_leads m ts ws fs d k h.j t u.0 at u.1 linked));
        names = h.names;
      }

  -- a free point of a face is in each sector that its sides name
  pub in_each : (k a : ℕ) (p : Point) → HasNamedSide m ts fs k a → OnNoLine m p → Holds (face_list m ts fs (class_of fs k)) p → InSector m p a
  in_each k a p h free (g, i, c) =
      let f = class_of fs k in
      let x = in_class m f ts (numbers fs) (length ts) g i in
      let same : class_of fs x.k ≡ f = face_of_member m ts ws fs d f g x in
      let strict : Strict g (vec (centre_of m x.t)) = strict_in (tri_of m x.t) g (vec (centre_of m x.t)) x.turn (centre_inside m ts ws fs d x.k x.t x.is) in
      let there = stays m ts ws fs d x.k x.t x.is in
      let clean : CleanAll m g = record { each = λ n l is. clean_of m d.facts ts (numbers fs) d.plain f g x n l is } in
      in_named x.k a x.t p (record { side = h.side; line = h.line; is = h.is; names = h.names; j = h.j; at = h.at; face = same ∙ h.face }) x.is free
      (one_leg m p (centre_of m x.t) free (joined m g p (centre_of m x.t) clean c free strict) (free_first m (centre_of m x.t) there.0 (centre_of m x.t) there.1))

  -- two sectors that sides of one face name see each other: the centre of a triangle is in both
  pub face_sees : (k a b : ℕ) (t : Triangle) → slice_get ts k ≡ Some t → HasNamedSide m ts fs k a → HasNamedSide m ts fs k b → Sees m a b
  face_sees k a b t at ha hb =
      let c = centre_of m t in
      let here = stays m ts ws fs d k t at in
      let free = free_first m c here.0 c here.1 in
      record { p = c; q = c; from = in_named k a t c ha at free here; to = in_named k b t c hb at free here; clear = clear free }
    where
      clear : OnNoLine m (centre_of m t) → MissesSolid m (centre_of m t) (centre_of m t)
      clear free i l is solid =
          let inside = centre_inside m ts ws fs d k t at in
          joined m (tri_of m t) (centre_of m t) (centre_of m t) (clean_at m ts ws fs d k t (tri_of m t) at (inl refl)) (closed_of_strict m ts ws fs d (tri_of m t) (vec (centre_of m t)) inside) free inside i l is

  -- a point that touches a side and is in a sector: the side's triangle is on a face of which a side names the sector
  pub record IsAtSide (s : Side) (l : MapLine) (p : Point) (a : ℕ) : Type 0 where
    pub k : ℕ
    pub there : triangle_at ts (side_edge m l s.left) ≡ Some k
    pub named : HasNamedSide m ts fs k a
    pub holds : Holds (face_list m ts fs (class_of fs k)) p

  pub at_side : (s : Side) (p : Point) (a : ℕ) (t : Touches m p s) → InSector m p a → IsAtSide s t.line p a
  at_side s p a t i =
      let u = sealed i.side i.touches.line a i.touches.is i.names in
      let holds = on_side_face i.side u.0 p i.touches u.1 u.2 in
      elim (reaches m ts ws fs d (class_of fs u.0) s p t holds) as (λ _. IsAtSide s t.line p a) [
        | inl (k, there, face) ↦ record {
          k = k;
          there = there;
          named = record { side = i.side; line = i.touches.line; is = i.touches.is; names = i.names; j = u.0; at = u.1; face = face };
          holds = subst (λ (f : ℕ). Holds (face_list m ts fs f) p) (sym face) holds;
        }
        | inr gap ↦ absurd (u.2 gap)
      ]

  -- a point that touches the side and is in a sector that the face's sides name
  pub some_at_side : (s : Side) (l : MapLine) (k a : ℕ) → line_at m s.line ≡ Some l → triangle_at ts (side_edge m l s.left) ≡ Some k → HasNamedSide m ts fs k a → (p : Point) × Touches m p s × InSector m p a
  some_at_side s l k a is there named =
      let u = found_at ts (side_edge m l s.left) k there in
      let c = centre_of m u.0 in
      let here = stays m ts ws fs d k u.0 u.1 in
      (c, touches m ts ws fs d s l k c u.0 is there u.1 here, in_named k a u.0 c named u.1 (free_first m c here.0 c here.1) here)

  -- the sectors at a side are those that the sides of its triangle's face name
  pub at_side_exactly : (s : Side) (l : MapLine) (k a : ℕ) → line_at m s.line ≡ Some l → triangle_at ts (side_edge m l s.left) ≡ Some k → ((p : Point) × Touches m p s × InSector m p a) ↔ HasNamedSide m ts fs k a
  at_side_exactly s l k a is there = (there_named, λ h. some_at_side s l k a is there h)
    where
      there_named : (p : Point) × Touches m p s × InSector m p a → HasNamedSide m ts fs k a
      there_named (p, t, i) =
          let r = at_side s p a t i in
          let same : r.k ≡ k = same_Some r.k k (sym r.there ∙ ap (λ (x : MapLine). triangle_at ts (side_edge m x s.left)) (same_Some t.line l (sym t.is ∙ is)) ∙ there) in
          subst (λ (x : ℕ). HasNamedSide m ts fs x a) same r.named

  pub named_are_sectors : (s : Side) (l : MapLine) (k : ℕ) (names : List ℕ) → line_at m s.line ≡ Some l → triangle_at ts (side_edge m l s.left) ≡ Some k → AreNamedOn m ts fs k names ↔ AreSectorsAt m s names
  named_are_sectors s l k names is there = (
    λ n. record { ascend = n.ascend; exactly = λ a. let e = at_side_exactly s l k a is there in let x = n.exactly a in (λ c. e.1 (x.0 c), λ h. x.1 (e.0 h)) },
    λ n. record { ascend = n.ascend; exactly = λ a. let e = at_side_exactly s l k a is there in let x = n.exactly a in (λ c. e.0 (x.0 c), λ h. x.1 (e.1 h)) },
  )

  -- a side without a triangle has none
  pub no_sectors : (s : Side) (l : MapLine) → line_at m s.line ≡ Some l → triangle_at ts (side_edge m l s.left) ≡ None → AreSectorsAt m s []
  no_sectors s l is none = record { ascend = λ i j x y lt ei ej. absurd (none-some x ei); exactly = λ a. (λ c. absurd (empty c), λ h. absurd (nowhere a h)) }
    where
      empty : {a : ℕ} → Contains [] a → ⊥
      empty (k, lt, e) = omega (arith, lt)

      nowhere : (a : ℕ) → (p : Point) × Touches m p s × InSector m p a → ⊥
      nowhere a (p, t, i) =
          let r = at_side s p a t i in
          none-some r.k (sym none ∙ ap (λ (x : MapLine). triangle_at ts (side_edge m x s.left)) (same_Some l t.line (sym is ∙ t.is)) ∙ r.there)

  -- nothing leads from a face that a side names out of the hull
  pub stays_inside : (k a : ℕ) (p q : Point) → HasNamedSide m ts fs k a → Holds (face_list m ts fs (class_of fs k)) p → Leads m p q → ¬ IsOutside m q
  stays_inside k a p q named holds leads outside =
      let f = class_of fs k in
      elim (path_walk m (face_list m ts fs f) (GapOn ts ws fs f) (region_of m ts ws fs d f) p leads.0 q leads.1 holds) as (λ _. ⊥) [
        | inl there ↦ not_above m ts ws fs d f q there outside
        | inr gap ↦ named_no_gap k a named gap
      ]

  -- a free point of such a face touches a side: the side's triangle is on the face
  pub same_face : (k a : ℕ) (s : Side) (p : Point) (t : Touches m p s) → HasNamedSide m ts fs k a → Holds (face_list m ts fs (class_of fs k)) p → (j : ℕ) × (triangle_at ts (side_edge m t.line s.left) ≡ Some j) × (class_of fs j ≡ class_of fs k)
  same_face k a s p t named holds = elim (reaches m ts ws fs d (class_of fs k) s p t holds) as (λ _. (j : ℕ) × (triangle_at ts (side_edge m t.line s.left) ≡ Some j) × (class_of fs j ≡ class_of fs k)) [
    | inl h ↦ h
    | inr gap ↦ absurd (named_no_gap k a named gap)
  ]

  -- the map is closed
  pub closed_where_sealed : IsClosed m
  closed_where_sealed s a p q names t leads =
      let x = sealed s t.line a t.is names in
      let named : HasNamedSide m ts fs x.0 a = record { side = s; line = t.line; is = t.is; names = names; j = x.0; at = x.1; face = refl } in
      stays_inside x.0 a p q named (on_side_face s x.0 p t x.1 x.2) leads
