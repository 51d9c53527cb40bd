-- The answers of label, in the words of the map: open sides, mixed pairs, labels.
use Rattle.std.proofs.Common.{◌≡◌, ℕ, ◌<◌, ◌⊎◌, inl, inr, List, slice_get, slice_index_or, Bool, true, false, Option, Some, None, Result, Ok, Err, refl, sym, ap, ◌∙◌, subst, arith}
use Rattle.std.proofs.lemmas.Bool.{false≢true}
use Rattle.std.proofs.lemmas.Option.{slice_get_within, same_Some, none-some}
use Rattle.sight_names.specs.declared.names.Side.{Side}
use Rattle.sight_names.specs.declared.names.Triangle.{Triangle}
use Rattle.sight_names.specs.declared.faults.LabelFault.{LabelFault}
use Rattle.sight_names.specs.declared.faults.LabelFault.TheVariants.{Open, Mixed, Memory}
use Rattle.sight_names.specs.Point.{Point}
use Rattle.sight_names.specs.Map.{Map, MapLine, line_at, named, Names}
use Rattle.sight_names.specs.Path.{Touches, InSector}
use Rattle.sight_names.specs.Sound.{IsClosed}
use Rattle.sight_names.specs.Mesh.{InsideTriangle, IsPlainMesh, label_of, side_edge, triangle_at}
use Rattle.mesh_base.proofs.SightLaws.Paths.{Holds, path_walk}
use Rattle.mesh_base.proofs.GoodMesh.{PointFacts, tri_of, found_at, good_mesh_closed, good_mesh_agree, in_all}
use Rattle.mesh_shape.specs.Faults.{IsSideBefore, IsFirstSideAgainst}
use Rattle.face_groups.specs.declared.tri_sectors.sides.FacedSide.{FacedSide}
use Rattle.face_groups.specs.TriSectors.Classes.{class_of}
use Rattle.face_groups.specs.TriSectors.Faces.{AreMarkedFaces}
use Rattle.face_groups.specs.TriSectors.Sides.{IsSealedAt, IsFirstMixed}
use Rattle.face_groups.specs.TriSectors.Labels.{AreFaceLabels, AreSealed, IsMixedPair, IsLabelsVerdict}
use Rattle.mesh_shape.specs.Fills.{FillsSides}
use Rattle.face_groups.specs.TriSectors.Verdict.{IsClosedSide, AgreeAt, IsFirstSidePairAgainst, AreFoundLabels, IsLabelVerdict}
use Rattle.face_groups.proofs.TriSectors.GoodLabels.{good_mesh, named_side, side_label, label_name}
use Rattle.face_groups.proofs.TriSectors.FaceRegion.{Ground, GapOn, face_list, numbers, on_face, region_of, not_above, touched, reaches}
use Rattle.face_groups.proofs.TriSectors.FacePaths.{leads_join}
use Rattle.face_groups.proofs.TriSectors.FaceTouches.{centre_of, stays, linked_leads, strictly, closed_of_strict, inside_is_free, to_centre, touches, LeadsOut, out_of_side, out_of_gap, out_of_face, gap_edge}
use Rattle.math_base.proofs.Numbers.{below_above_or_same}

module _ (m : Map) (ts : List Triangle) (fs : List ℕ) (os : List Bool) (facts : PointFacts m) (plain : IsPlainMesh m ts) (filled : FillsSides m ts) (g : AreMarkedFaces m ts fs os) where
  ground : Ground m ts g.walls fs
  ground = record { facts = facts; plain = plain; walls = g.are_walls; faces = g.are_faces }

  -- ---- open sides

  abbrev Shut : ℕ → Type 0
  Shut k = slice_index_or os (class_of fs k) false ≡ false

  shut_face : (k : ℕ) → Shut k → ¬ GapOn ts g.walls fs (class_of fs k)
  shut_face k shut gap = false≢true (sym shut ∙ ap (λ (f : ℕ). slice_index_or os f false) (sym gap.face) ∙ g.are_open.gap gap.k gap.within gap.gap)

  leads_out : (s : Side) (a : ℕ) → Names m s a → IsClosedSide m s → LeadsOut m ts g.walls fs ground s → ⊥
  leads_out s a names closed o = closed a o.p o.q names o.touches o.leads o.outside

  closed_is_sealed : (s : Side) → IsClosedSide m s → IsSealedAt m ts fs os s
  closed_is_sealed s closed l a at names = go (triangle_at ts (side_edge m l s.left)) refl
    where
      shut_or_not : (k : ℕ) (b : Bool) → triangle_at ts (side_edge m l s.left) ≡ Some k → slice_index_or os (class_of fs k) false ≡ b → Shut k
      shut_or_not k false there e = e
      shut_or_not k true there e = absurd (leads_out s a names closed (out_of_face m ts g.walls fs ground s l k at there filled.beyond (let w = g.are_open.only (class_of fs k) e in record { k = w.0; within = w.1; face = w.2; gap = w.3 })))

      go : (o : Option ℕ) → triangle_at ts (side_edge m l s.left) ≡ o → (k : ℕ) × (triangle_at ts (side_edge m l s.left) ≡ Some k) × Shut k
      go None there = absurd (leads_out s a names closed (out_of_side m ts g.walls fs ground s l at (filled.lines (side_edge m l s.left) (s.line, l, s.left, at, refl)) there))
      go (Some k) there = (k, there, shut_or_not k (slice_index_or os (class_of fs k) false) there refl)

  -- a point that touches the side is on its face
  holds_at : (s : Side) (k : ℕ) (p : Point) (t : Touches m p s) → triangle_at ts (side_edge m t.line s.left) ≡ Some k → Shut k → Holds (face_list m ts fs (class_of fs k)) p
  holds_at s k p t there shut = elim (touched m ts g.walls fs ground s k p t there) as (λ _. Holds (face_list m ts fs (class_of fs k)) p) [ inl h ↦ h | inr gap ↦ absurd (shut_face k shut gap) ]

  sealed_is_closed : (s : Side) → IsSealedAt m ts fs os s → IsClosedSide m s
  sealed_is_closed s sealed a p q names t leads outside =
      let h = sealed t.line a t.is names in
      let f = class_of fs h.0 in
      elim (path_walk m (face_list m ts fs f) (GapOn ts g.walls fs f) (region_of m ts g.walls fs ground f) p leads.0 q leads.1 (holds_at s h.0 p t h.1 h.2)) as (λ _. ⊥) [
        | inl holds ↦ not_above m ts g.walls fs ground f q holds outside
        | inr gap ↦ shut_face h.0 h.2 gap
      ]

  first_open_side : (s : Side) → IsFirstSideAgainst (IsSealedAt m ts fs os) s → IsFirstSideAgainst (IsClosedSide m) s
  first_open_side s h = record { against = λ closed. h.against (closed_is_sealed s closed); before = λ t order. sealed_is_closed t (h.before t order) }

  closed_map : ((s : Side) → IsSealedAt m ts fs os s) → IsClosed m
  closed_map sealed s a p q = sealed_is_closed s (sealed s) a p q

  -- ---- labels

  module _ (ss : List FacedSide) (sealed : AreSealed m ts fs os ss) where
    in_sector : (ls : List (Option ℕ)) → AreFaceLabels fs ss ls → (k a : ℕ) (t : Triangle) (p : Point) → slice_get ts k ≡ Some t → label_of ls k ≡ Some a → InsideTriangle m t p → InSector m p a
    in_sector ls fl k a t p at label inside =
        let h = named_side m ts fs ss ls sealed.faced fl k a label in
        let u = found_at ts (side_edge m h.line h.side.left) h.j h.at in
        let linked = g.are_faces.only k h.j (slice_get_within ts k t at) (slice_get_within ts h.j u.0 u.1) h.face in record {
          free = inside_is_free m ts g.walls fs ground k t p at inside;
          side = h.side;
          touches = touches m ts g.walls fs ground h.side h.line h.j p u.0 h.is h.at u.1
              (leads_join m p (centre_of m t) (centre_of m u.0) (to_centre m ts g.walls fs ground k t p at inside) (linked_leads m ts g.walls fs ground k h.j t u.0 at u.1 linked));
          names = h.names;
        }

    in_no_sector : (ls : List (Option ℕ)) → AreFaceLabels fs ss ls → (k a : ℕ) (t : Triangle) (p : Point) → slice_get ts k ≡ Some t → label_of ls k ≡ None → InsideTriangle m t p → ¬ InSector m p a
    in_no_sector ls fl k a t p at label inside i =
        let f = class_of fs k in
        let holds : Holds (face_list m ts fs f) p = (tri_of m t, in_all m f ts (numbers fs) (tri_of m t) (on_face m ts g.walls fs ground f k t (tri_of m t) at refl (inl refl)), closed_of_strict m ts g.walls fs ground (tri_of m t) _ (strictly m ts g.walls fs ground t p inside)) in
        elim (reaches m ts g.walls fs ground f i.side p i.touches holds) as (λ _. ⊥) [
          | inl (j, there, face) ↦
              let len = g.are_faces.one_each in
              let v = found_at ts (side_edge m i.touches.line i.side.left) j there in
              let lj = slice_get_within ts j v.0 v.1 in let lk = slice_get_within ts k t at in
              none-some a (sym label ∙ label_name fs fl.names ls k fl.labelled (omega (arith, len, lk)) ∙ ap (λ (x : ℕ). slice_index_or fl.names x None) (sym face) ∙ sym (label_name fs fl.names ls j fl.labelled (omega (arith, len, lj)))
              ∙ side_label m ts fs ss ls len sealed.faced fl i.side i.touches.line j i.touches.is there ∙ i.names)
          | inr gap ↦
              let c = gap.gap in
              let linked = g.are_faces.only k gap.k (slice_get_within ts k t at) gap.within (sym gap.face) in
              let out = out_of_gap m ts g.walls fs ground gap.k c (filled.beyond gap.k c.t c.e c.at (gap_edge m ts g.walls fs ground gap.k c)) in
              let way = leads_join m p (centre_of m t) (centre_of m c.t) (to_centre m ts g.walls fs ground k t p at inside) (linked_leads m ts g.walls fs ground k gap.k t c.t at c.at linked) in
              sealed_is_closed i.side (sealed.each i.side) a p out.0 i.names i.touches (leads_join m p (centre_of m c.t) out.0 way out.1) out.2
        ]

    found_labels : (ls : List (Option ℕ)) → AreFaceLabels fs ss ls → AreFoundLabels m ts ls
    found_labels ls fl =
        let good = good_mesh m ts fs os ss ls plain g sealed fl in record {
          closed = good_mesh_closed m facts ts ls good;
          agree = good_mesh_agree m facts ts ls good;
          labels = record { one_each = good.one_each; labelled = in_sector ls fl; unlabelled = in_no_sector ls fl };
          good = good;
        }

    -- ---- mixed pairs

    -- two sides that one point touches, of which one names a sector, are on one face
    record AreOnOneFace (u v : Side) : Type 0 where
      i : ℕ
      j : ℕ
      f : FacedSide
      h : FacedSide
      at : slice_get ss i ≡ Some f
      at_too : slice_get ss j ≡ Some h
      first : f.side ≡ u
      second : h.side ≡ v
      face : h.face ≡ f.face

    faced_at : (s : Side) (l : MapLine) (k : ℕ) → line_at m s.line ≡ Some l → triangle_at ts (side_edge m l s.left) ≡ Some k → (i : ℕ) × (f : FacedSide) × (slice_get ss i ≡ Some f) × (f.side ≡ s) × (f.face ≡ class_of fs k)
    faced_at s l k is there =
        let a = sealed.faced.all s l k tt is there in
        let w = (sealed.faced.each a.0 a.1 a.2).0 in
        let same : w.k ≡ k = same_Some w.k k (sym w.at ∙ ap (λ (x : MapLine). triangle_at ts (side_edge m x a.1.side.left)) (same_Some w.line l (sym w.is ∙ ap (λ (x : Side). line_at m x.line) a.3 ∙ is)) ∙ ap (λ (x : Side). triangle_at ts (side_edge m l x.left)) a.3 ∙ there) in
        (a.0, a.1, a.2, a.3, w.face ∙ ap (class_of fs) same)

    one_face : (u v : Side) (p : Point) (a : ℕ) → Names m u a → Touches m p u → Touches m p v → AreOnOneFace u v
    one_face u v p a names tu tv =
        let s = sealed.each u tu.line a tu.is names in
        let x = faced_at u tu.line s.0 tu.is s.1 in
        elim (reaches m ts g.walls fs ground (class_of fs s.0) v p tv (holds_at u s.0 p tu s.1 s.2)) as (λ _. AreOnOneFace u v) [
          | inr gap ↦ absurd (shut_face s.0 s.2 gap)
          | inl (k, there, face) ↦ let y = faced_at v tv.line k tv.is there in record { i = x.0; j = y.0; f = x.1; h = y.1; at = x.2; at_too = y.2; first = x.3; second = y.3; face = y.4 ∙ face ∙ sym x.4 }
        ]

    turned_round : (u v : Side) → AreOnOneFace u v → AreOnOneFace v u
    turned_round u v o = record { i = o.j; j = o.i; f = o.h; h = o.f; at = o.at_too; at_too = o.at; first = o.second; second = o.first; face = sym o.face }

    sector_is : (i : ℕ) (f : FacedSide) (s : Side) → slice_get ss i ≡ Some f → f.side ≡ s → f.sector ≡ named m s
    sector_is i f s at same = (sealed.faced.each i f at).0.sector ∙ ap (named m) same

    -- sides that agree wherever they are on one face
    agree_if : (u v : Side) → ((o : AreOnOneFace u v) → o.h.sector ≡ o.f.sector) → AgreeAt m u v
    agree_if u v alike p tu tv = go (named m u) (named m v) refl refl
      where
        both : AreOnOneFace u v → named m u ≡ named m v
        both o = sym (sector_is o.i o.f u o.at o.first) ∙ sym (alike o) ∙ sector_is o.j o.h v o.at_too o.second

        go : (a b : Option ℕ) → named m u ≡ a → named m v ≡ b → named m u ≡ named m v
        go None None e f = e ∙ sym f
        go (Some a) b e f = both (one_face u v p a e tu tv)
        go None (Some b) e f = both (turned_round v u (one_face v u p b f tv tu))

    irreflexive : (s : Side) → IsSideBefore s s → ⊥
    irreflexive s h = elim h as (λ _. ⊥) [ inl lt ↦ omega (arith, lt) | inr e ↦ false≢true (sym e.1 ∙ e.2) ]

    asymmetric : (s t : Side) → IsSideBefore s t → IsSideBefore t s → ⊥
    asymmetric s t h k = elim h as (λ _. ⊥) [
      | inl lt ↦ elim k as (λ _. ⊥) [ inl gt ↦ omega (arith, lt, gt) | inr e ↦ (let x = e.0 in omega (arith, lt, x)) ]
      | inr d ↦ elim k as (λ _. ⊥) [ inl gt ↦ (let x = d.0 in omega (arith, gt, x)) | inr e ↦ false≢true (sym d.1 ∙ e.2) ]
    ]

    place_order : (i j : ℕ) (f h : FacedSide) → slice_get ss i ≡ Some f → slice_get ss j ≡ Some h → IsSideBefore f.side h.side → i < j
    place_order i j f h ei ej before = elim (below_above_or_same i j) as (λ _. i < j) [
      | inl lt ↦ lt
      | inr (inl gt) ↦ absurd (asymmetric f.side h.side before (sealed.faced.ascend j i h f gt ej ei))
      | inr (inr same) ↦ absurd (irreflexive f.side (subst (λ (x : FacedSide). IsSideBefore f.side x.side) (same_Some h f (sym ej ∙ ap (slice_get ss) (sym same) ∙ ei)) before))
    ]

    one_place : (i j : ℕ) (f h : FacedSide) → slice_get ss i ≡ Some f → slice_get ss j ≡ Some h → f.side ≡ h.side → i ≡ j
    one_place i j f h ei ej same = elim (below_above_or_same i j) as (λ _. i ≡ j) [
      | inl lt ↦ absurd (irreflexive f.side (subst (λ (x : Side). IsSideBefore f.side x) (sym same) (sealed.faced.ascend i j f h lt ei ej)))
      | inr (inl gt) ↦ absurd (irreflexive h.side (subst (λ (x : Side). IsSideBefore h.side x) same (sealed.faced.ascend j i h f gt ej ei)))
      | inr (inr e) ↦ e
    ]

    earlier_agree : (x : Side) (y : Side) → IsMixedPair ss x y → (u v : Side) → IsSideBefore u v → IsSideBefore u x ⊎ ((u ≡ x) × IsSideBefore v y) → AgreeAt m u v
    earlier_agree x y pair u v order before = agree_if u v (λ o.
        let l = pair.least in
        let lt : o.i < o.j = place_order o.i o.j o.f o.h o.at o.at_too (subst (λ (s : Side). IsSideBefore s o.h.side) (sym o.first) (subst (λ (s : Side). IsSideBefore u s) (sym o.second) order)) in
        elim before as (λ _. o.h.sector ≡ o.f.sector) [
          | inl less ↦ l.before o.i o.j (place_order o.i pair.i o.f l.first o.at l.at (subst (λ (s : Side). IsSideBefore s l.first.side) (sym o.first) (subst (λ (s : Side). IsSideBefore u s) pair.first less))) lt o.f o.h o.at o.at_too o.face
          | inr (same, less) ↦
              let here : o.i ≡ pair.i = one_place o.i pair.i o.f l.first o.at l.at (o.first ∙ same ∙ pair.first) in
              l.before_here o.j (subst (λ (k : ℕ). k < o.j) here lt) (place_order o.j pair.j o.h l.second o.at_too l.at_too (subst (λ (s : Side). IsSideBefore s l.second.side) (sym o.second) (subst (λ (s : Side). IsSideBefore v s) pair.second less)))
              o.f o.h (ap (slice_get ss) (sym here) ∙ o.at) o.at_too o.face
        ])

    -- some point touches both sides of the pair
    mixed_against : (i j : ℕ) (l : IsFirstMixed ss i j) → ¬ AgreeAt m l.first.side l.second.side
    mixed_against i j l agree =
        let w = (sealed.faced.each i l.first l.at).0 in
        let x = (sealed.faced.each j l.second l.at_too).0 in
        let t = found_at ts (side_edge m w.line l.first.side.left) w.k w.at in
        let u = found_at ts (side_edge m x.line l.second.side.left) x.k x.at in
        let linked = g.are_faces.only w.k x.k (slice_get_within ts w.k t.0 t.1) (slice_get_within ts x.k u.0 u.1) (sym w.face ∙ sym l.mixed.0 ∙ x.face) in
        let c = centre_of m t.0 in
        let one = touches m ts g.walls fs ground l.first.side w.line w.k c t.0 w.is w.at t.1 (stays m ts g.walls fs ground w.k t.0 t.1) in
        let two = touches m ts g.walls fs ground l.second.side x.line x.k c u.0 x.is x.at u.1 (linked_leads m ts g.walls fs ground w.k x.k t.0 u.0 t.1 u.1 linked) in
        l.mixed.1 (x.sector ∙ sym (agree c one two) ∙ sym w.sector)

    mixed_pair : (x y : Side) → IsMixedPair ss x y → IsFirstSidePairAgainst (AgreeAt m) x y
    mixed_pair x y pair =
        let l = pair.least in record {
          order = subst (λ (s : Side). IsSideBefore s y) (sym pair.first) (subst (λ (s : Side). IsSideBefore l.first.side s) (sym pair.second) (sealed.faced.ascend pair.i pair.j l.first l.second l.order l.at l.at_too));
          against = λ agree. mixed_against pair.i pair.j l (subst (λ (s : Side). AgreeAt m s l.second.side) pair.first (subst (λ (s : Side). AgreeAt m x s) pair.second agree));
          before = earlier_agree x y pair;
        }

  -- ---- the verdict

  pub verdict : (r : Result (List (Option ℕ)) LabelFault) → IsLabelsVerdict m ts fs os r → IsLabelVerdict m ts r
  verdict (Ok ls) v = found_labels v.0 v.1 ls v.2
  verdict (Err (Open s)) v = first_open_side s v
  verdict (Err (Mixed x y)) v = (closed_map v.1.each, mixed_pair v.0 v.1 x y v.2)
  verdict (Err (Memory _)) v = tt
