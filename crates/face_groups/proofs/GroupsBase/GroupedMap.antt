-- The map of groups is a map: its lines have two ends, its names are groups, and a line with a missing side is solid.
use Rattle.std.proofs.Common.{◌≡◌, ℕ, ◌<◌, refl, sym, ap, ◌∙◌, subst, List, Option, Some, None, IfSome, IsTrue, Bool, true, false, Contains, option_and_then}
use Rattle.std.proofs.lemmas.Option.{slice_get_within, none-some}
use Rattle.sight_names.specs.declared.names.Side.{Side}
use Rattle.sight_names.specs.declared.names.Triangle.{Triangle}
use Rattle.sight_names.specs.Map.{Map, MapLine, IsMap, line_at, named, Names, sector_on}
use Rattle.sight_names.specs.Sound.{LinesMeetAtEnds}
use Rattle.sight_names.specs.Groups.{AreGroups, IsGroupedMap}
use Rattle.mesh_base.proofs.SightLaws.Paths.{free_first}
use Rattle.mesh_base.proofs.SightLaws.SightLaws.{side_touched}
use Rattle.face_groups.specs.declared.tri_sectors.faces.Walls.{Walls}
use Rattle.face_groups.proofs.TriSectors.FaceRegion.{Ground}
use Rattle.face_groups.proofs.GroupsBase.SameLines.{HaveSameLines, same_lines_sym, lines_alike, line_of}
use Rattle.face_groups.proofs.GroupsBase.FaceSectors.{NamedAreSealed}
use Rattle.face_groups.proofs.GroupsBase.GroupLaws.{HasLists, named_group, side_group}

module _ (m : Map) (ts : List Triangle) (ws : List Walls) (fs : List ℕ) (d : Ground m ts ws fs) (sealed : NamedAreSealed m ts ws fs)
    (groups : List (List ℕ)) (are : AreGroups m groups) (g : Map) (is : IsGroupedMap m groups g) (lists : HasLists m) where
  back : HaveSameLines g m
  back = same_lines_sym m g (lines_alike m g is.lines)

  -- a side that names a sector names a group
  pub names_a_group : IsMap m → LinesMeetAtEnds m → (s : Side) (l : MapLine) (a : ℕ) → line_at m s.line ≡ Some l → Names m s a → (k : ℕ) × Names g s k
  names_a_group is_map ends s l a at names =
      let t = side_touched m s l is_map ends at in
      let x = lists s l at in
      let has : Contains x.0 a = (x.1.exactly a).1 (t.0, t.1, record { free = free_first m t.0 t.1.path.0 t.1.q t.1.path.1; side = s; touches = t.1; names = names }) in
      let r = side_group m ts ws fs d sealed groups are g is lists s l a x.0 at x.1 has in
      (r.0, r.1)

  name_of : (h : Map) (i : ℕ) (l : MapLine) (left : Bool) → line_at h i ≡ Some l → named h (record { line = i; left = left }) ≡ sector_on l left
  name_of h i l left e = ap (option_and_then (λ (k : MapLine). sector_on k left)) e

  in_range : (i : ℕ) (l : MapLine) (left : Bool) → line_at g i ≡ Some l → IfSome (sector_on l left) (λ k. k < g.sectors)
  in_range i l left at = go (sector_on l left) (name_of g i l left at)
    where
      go : (o : Option ℕ) → named g (record { line = i; left = left }) ≡ o → IfSome o (λ k. k < g.sectors)
      go None e = tt
      go (Some k) e =
          let b = line_of g m back i l at in
          let n = named_group m ts ws fs d sealed groups are g is lists (record { line = i; left = left }) b.0 k b.1 e in
          subst (λ (c : ℕ). k < c) (sym is.sectors) (slice_get_within groups k n.at n.there)

  -- where the side names no group, it named no sector, and the line is solid
  solid_at : IsMap m → LinesMeetAtEnds m → (i : ℕ) (l : MapLine) (left : Bool) → line_at g i ≡ Some l → sector_on l left ≡ None → IsTrue l.solid
  solid_at is_map ends i l left at none =
      let b = line_of g m back i l at in
      subst (λ (x : Bool). IsTrue x) (sym b.2.solid) (solid_of b.0 left b.1 (go b.0 b.1 (sector_on b.0 left) refl))
    where
      go : (k : MapLine) → line_at m i ≡ Some k → (o : Option ℕ) → sector_on k left ≡ o → sector_on k left ≡ None
      go k e None f = f
      go k e (Some a) f =
          let r = names_a_group is_map ends (record { line = i; left = left }) k a e (name_of m i k left e ∙ f) in
          absurd (none-some r.0 (sym (name_of g i l left at ∙ none) ∙ r.1))

      solid_of : (k : MapLine) (side : Bool) → line_at m i ≡ Some k → sector_on k side ≡ None → IsTrue k.solid
      solid_of k false e f = (is_map i k e).solid_right f
      solid_of k true e f = (is_map i k e).solid_left f

  pub grouped_is_map : IsMap m → LinesMeetAtEnds m → IsMap g
  grouped_is_map is_map ends i l at =
      let b = line_of g m back i l at in record {
        differ = λ e. (is_map i b.0 b.1).differ (sym b.2.first ∙ e ∙ b.2.second);
        right = in_range i l false at;
        left = in_range i l true at;
        solid_right = solid_at is_map ends i l false at;
        solid_left = solid_at is_map ends i l true at;
      }
