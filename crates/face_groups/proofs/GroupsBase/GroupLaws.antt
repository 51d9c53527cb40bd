-- The laws of groups: the map of groups is sound where the map is closed, and sectors see each other exactly where groups that contain them do.
use Rattle.std.proofs.Common.{◌≡◌, ℕ, refl, sym, ap, ◌∙◌, subst, ◌↔◌, List, [], slice_get, Option, Some, None, Contains}
use Rattle.std.proofs.lemmas.Option.{same_Some, MatchOption-at_some, MatchOption-at_none}
use Rattle.sight_names.specs.declared.names.Side.{Side}
use Rattle.sight_names.specs.declared.names.Triangle.{Triangle}
use Rattle.sight_names.specs.Point.{Point}
use Rattle.sight_names.specs.Map.{Map, MapLine, line_at, named, Names}
use Rattle.sight_names.specs.Path.{Touches, InSector}
use Rattle.sight_names.specs.Sees.{Sees}
use Rattle.sight_names.specs.Sound.{IsClosed, NamesAgree, LinesMeetAtEnds, IsSound}
use Rattle.sight_names.specs.Mesh.{side_edge, triangle_at}
use Rattle.sight_names.specs.Groups.{AreSectorsAt, AreGroups, IsGroupedMap, IsInGroup}
use Rattle.face_groups.specs.declared.tri_sectors.faces.Walls.{Walls}
use Rattle.face_groups.specs.TriSectors.Classes.{class_of}
use Rattle.face_groups.proofs.TriSectors.GoodLabels.{HasNamedSide}
use Rattle.face_groups.proofs.TriSectors.FaceRegion.{Ground}
use Rattle.face_groups.proofs.GroupsBase.SameLines.{HaveSameLines, same_lines_sym, lines_alike, free_alike, misses_solid_alike, leads_alike, touches_alike, outside_alike, meets_alike}
use Rattle.face_groups.proofs.GroupsBase.Ordered.{at_contains, ascending_same, one_place, some_member, empty_has_none}
use Rattle.face_groups.proofs.GroupsBase.FaceSectors.{NamedAreSealed, IsAtSide, at_side, in_each, named_no_gap, on_side_face, named_are_sectors, stays_inside, same_face}

-- each side of a line has its list of sectors
abbrev pub HasLists : Map → Type 0
HasLists m = (s : Side) (l : MapLine) → line_at m s.line ≡ Some l → (at : List ℕ) × AreSectorsAt m s at

pub moved : (m : Map) (ts : List Triangle) (fs : List ℕ) (k j a : ℕ) → class_of fs j ≡ class_of fs k → HasNamedSide m ts fs k a → HasNamedSide m ts fs j a
moved m ts fs k j a e h = record { side = h.side; line = h.line; is = h.is; names = h.names; j = h.j; at = h.at; face = e ∙ h.face }

module _ (m : Map) (ts : List Triangle) (ws : List Walls) (fs : List ℕ) (d : Ground m ts ws fs) (sealed : NamedAreSealed m ts ws fs)
    (groups : List (List ℕ)) (are : AreGroups m groups) (g : Map) (is : IsGroupedMap m groups g) (lists : HasLists m) where
  same : HaveSameLines m g
  same = lines_alike m g is.lines

  back : HaveSameLines g m
  back = same_lines_sym m g same

  -- the group that a side names is its list
  pub record IsNamedGroup (s : Side) (k : ℕ) : Type 0 where
    pub at : List ℕ
    pub sectors : AreSectorsAt m s at
    pub there : slice_get groups k ≡ Some at

  pub named_group : (s : Side) (l : MapLine) (k : ℕ) → line_at m s.line ≡ Some l → Names g s k → IsNamedGroup s k
  named_group s l k at names =
      let a = lists s l at in
      record { at = a.0; sectors = a.1; there = MatchOption-at_some (a.0 ≡ []) (λ x. slice_get groups x ≡ Some a.0) k names (is.names s l a.0 at a.1) }

  -- a group isn't empty
  pub group_member : (k : ℕ) (at : List ℕ) → slice_get groups k ≡ Some at → (a : ℕ) × IsInGroup groups a k
  group_member k at there =
      let c = some_member at ((are.exactly at).0 (at_contains groups at (k, there))).0 in
      (c.0, (at, there, c.1))

  -- a point that touches a side of a group is on a face of which a side names the sector, for each sector of the group
  pub group_face : (s : Side) (k a : ℕ) (p : Point) (t : Touches m p s) → Names g s k → IsInGroup groups a k → IsAtSide m ts ws fs d sealed s t.line p a
  group_face s k a p t names (h, at, has) =
      let n = named_group s t.line k t.is names in
      let c : Contains n.at a = subst (λ (x : List ℕ). Contains x a) (same_Some h n.at (sym at ∙ n.there)) has in
      let w = (n.sectors.exactly a).0 c in
      let r = at_side m ts ws fs d sealed s w.0 a w.1 w.2 in
      let there : triangle_at ts (side_edge m t.line s.left) ≡ Some r.k = subst (λ (x : MapLine). triangle_at ts (side_edge m x s.left) ≡ Some r.k) (same_Some w.1.line t.line (sym w.1.is ∙ t.is)) r.there in
      record { k = r.k; there = there; named = r.named; holds = on_side_face m ts ws fs d sealed s r.k p t there (named_no_gap m ts ws fs d sealed r.k a r.named) }

  -- a point in a group is in each of its sectors
  pub in_its_sectors : (p : Point) (k a : ℕ) → InSector g p k → IsInGroup groups a k → InSector m p a
  in_its_sectors p k a i has =
      let f = group_face i.side k a p (touches_alike g m back p i.side i.touches) i.names has in
      in_each m ts ws fs d sealed f.k a p f.named (free_alike g m back p i.free) f.holds

  -- what a side's name is, where its list has a sector
  pub side_group : (s : Side) (l : MapLine) (a : ℕ) (at : List ℕ) → line_at m s.line ≡ Some l → AreSectorsAt m s at → Contains at a → (k : ℕ) × Names g s k × (slice_get groups k ≡ Some at)
  side_group s l a at there sectors has = go (named g s) refl
    where
      go : (o : Option ℕ) → named g s ≡ o → (k : ℕ) × Names g s k × (slice_get groups k ≡ Some at)
      go None e = absurd (empty_has_none at a (MatchOption-at_none (at ≡ []) (λ x. slice_get groups x ≡ Some at) e (is.names s l at there sectors)) has)
      go (Some k) e = (k, e, MatchOption-at_some (at ≡ []) (λ x. slice_get groups x ≡ Some at) k e (is.names s l at there sectors))

  -- a point in a sector is in a group that contains it
  pub in_some_group : (p : Point) (a : ℕ) → InSector m p a → (k : ℕ) × IsInGroup groups a k × InSector g p k
  in_some_group p a i =
      let x = lists i.side i.touches.line i.touches.is in
      let has : Contains x.0 a = (x.1.exactly a).1 (p, i.touches, i) in
      let n = side_group i.side i.touches.line a x.0 i.touches.is x.1 has in
      (n.0, (x.0, n.2, has), record { free = free_alike m g same p i.free; side = i.side; touches = touches_alike m g same p i.side i.touches; names = n.1 })

  -- the central law
  pub sees_by_groups : (a b : ℕ) → Sees m a b ↔ ((k n : ℕ) × IsInGroup groups a k × IsInGroup groups b n × Sees g k n)
  sees_by_groups a b = (there, here)
    where
      there : Sees m a b → (k n : ℕ) × IsInGroup groups a k × IsInGroup groups b n × Sees g k n
      there s =
          let x = in_some_group s.p a s.from in let y = in_some_group s.q b s.to in
          (x.0, y.0, x.1, y.1, record { p = s.p; q = s.q; from = x.2; to = y.2; clear = misses_solid_alike m g same s.p s.q s.clear })

      here : (k n : ℕ) × IsInGroup groups a k × IsInGroup groups b n × Sees g k n → Sees m a b
      here (k, n, ha, hb, s) = record { p = s.p; q = s.q; from = in_its_sectors s.p k a s.from ha; to = in_its_sectors s.q n b s.to hb; clear = misses_solid_alike g m back s.p s.q s.clear }

  -- ---- the map of groups is sound

  pub grouped_closed : IsClosed g
  grouped_closed s k p q names touches leads outside =
      let t = touches_alike g m back p s touches in
      let n = named_group s t.line k t.is names in
      let c = group_member k n.at n.there in
      let f = group_face s k c.0 p t names c.1 in
      stays_inside m ts ws fs d sealed f.k c.0 p q f.named f.holds (leads_alike g m back p q leads) (outside_alike g m back q outside)

  -- a group has one place
  named_there : (u : Side) (k j : ℕ) (at : List ℕ) → Names g u j → slice_get groups j ≡ Some at → slice_get groups k ≡ Some at → Names g u k
  named_there u k j at names ej ek = subst (λ (x : ℕ). Names g u x) (one_place m groups are j k at ej ek) names

  pub grouped_agree : NamesAgree g
  grouped_agree s u k p names touches touches_too =
      let t = touches_alike g m back p s touches in
      let v = touches_alike g m back p u touches_too in
      let n = named_group s t.line k t.is names in
      let c = group_member k n.at n.there in
      let f = group_face s k c.0 p t names c.1 in
      let j = same_face m ts ws fs d sealed f.k c.0 u p v f.named f.holds in
      let y = lists u v.line v.is in
      let first = (named_are_sectors m ts ws fs d sealed s t.line f.k n.at t.is f.there).1 n.sectors in
      let second = (named_are_sectors m ts ws fs d sealed u v.line j.0 y.0 v.is j.1).1 y.1 in
      let equal : n.at ≡ y.0 = ascending_same n.at y.0 first.ascend second.ascend (λ b. (
        λ h. (second.exactly b).1 (moved m ts fs f.k j.0 b j.2 ((first.exactly b).0 h)),
        λ h. (first.exactly b).1 (moved m ts fs j.0 f.k b (sym j.2) ((second.exactly b).0 h)),
      )) in
      let has : Contains n.at c.0 = subst (λ (x : List ℕ). Contains x c.0) (same_Some c.1.0 n.at (sym c.1.1 ∙ n.there)) c.1.2 in
      let r = side_group u v.line c.0 y.0 v.is y.1 (subst (λ (x : List ℕ). Contains x c.0) equal has) in
      named_there u k r.0 y.0 r.1 r.2 (n.there ∙ ap (λ (x : List ℕ). Some x) equal)

  pub grouped_sound : LinesMeetAtEnds m → IsSound g
  grouped_sound ends = record { ends = meets_alike m g same ends; closed = grouped_closed; agree = grouped_agree }
