-- The list of the sectors that the sides of a face name can be made: so each side of a closed map has its list of sectors.
use Rattle.std.proofs.Common.{◌≡◌, ℕ, ◌<◌, refl, sym, ap, ◌∙◌, subst, ◌⊎◌, inl, inr, List, [], length, slice_get, Option, Some, None, Bool, true, false, option_and_then, arith}
use Rattle.std.proofs.lemmas.Option.{slice_get_within, none-some, option_and_then_some}
use Rattle.sight_names.specs.declared.names.Side.{Side}
use Rattle.sight_names.specs.declared.names.Triangle.{Triangle}
use Rattle.sight_names.specs.Map.{Map, MapLine, line_at, named}
use Rattle.sight_names.specs.Mesh.{side_edge, triangle_at}
use Rattle.sight_names.specs.Groups.{AreSectorsAt}
use Rattle.face_groups.specs.declared.tri_sectors.faces.Walls.{Walls}
use Rattle.face_groups.specs.TriSectors.Classes.{class_of}
use Rattle.face_groups.proofs.TriSectors.GoodLabels.{HasNamedSide}
use Rattle.face_groups.proofs.TriSectors.FaceRegion.{Ground}
use Rattle.math_base.proofs.Numbers.{below_above_or_same, same_or_not}
use Rattle.face_groups.proofs.GroupsBase.Ordered.{Has, at_contains, contains_at}
use Rattle.face_groups.proofs.GroupsBase.Collected.{AreSaid, collect}
use Rattle.face_groups.proofs.GroupsBase.FaceSectors.{NamedAreSealed, AreNamedOn, named_are_sectors, no_sectors}
use Rattle.face_groups.proofs.GroupsBase.GroupLaws.{HasLists}

less_trans : (x y z : ℕ) → x < y → y < z → x < z
less_trans x y z h k = omega (arith, h, k)

abbrev Less : ℕ → ℕ → Type 0
Less x y = x < y

-- ---- what a side says of a face

pick : (i j : ℕ) → (i ≡ j) ⊎ ¬ (i ≡ j) → Option ℕ → Option ℕ
pick i j (inl e) o = o
pick i j (inr n) o = None

pick_some : (i j b : ℕ) (d : (i ≡ j) ⊎ ¬ (i ≡ j)) (o : Option ℕ) → pick i j d o ≡ Some b → (i ≡ j) × (o ≡ Some b)
unfolding pick
pick_some i j b (inl e) o h = (e, h)
pick_some i j b (inr n) o h = absurd (none-some b h)

pick_same : (i j : ℕ) (d : (i ≡ j) ⊎ ¬ (i ≡ j)) (o : Option ℕ) → i ≡ j → pick i j d o ≡ o
unfolding pick
pick_same i j (inl e) o h = refl
pick_same i j (inr n) o h = absurd (n h)

module _ (m : Map) (ts : List Triangle) (fs : List ℕ) (k : ℕ) where
  at_triangle : Side → ℕ → Option ℕ
  at_triangle s j = pick (class_of fs k) (class_of fs j) (same_or_not (class_of fs k) (class_of fs j)) (named m s)

  at_line : Side → MapLine → Option ℕ
  at_line s l = option_and_then (at_triangle s) (triangle_at ts (side_edge m l s.left))

  -- the name of the side where its triangle is on the face of triangle k
  said : Side → Option ℕ
  said s = option_and_then (at_line s) (line_at m s.line)

  side_of_said : (s : Side) (b : ℕ) → said s ≡ Some b → HasNamedSide m ts fs k b
  unfolding said at_line at_triangle
  side_of_said s b h = option_and_then_some (at_line s) (line_at m s.line) b h (λ l is e. option_and_then_some (at_triangle s) (triangle_at ts (side_edge m l s.left)) b e (λ j at f.
      let p = pick_some (class_of fs k) (class_of fs j) b (same_or_not (class_of fs k) (class_of fs j)) (named m s) f in
      record { side = s; line = l; is = is; names = p.1; j = j; at = at; face = p.0 }))

  said_of_side : (b : ℕ) (h : HasNamedSide m ts fs k b) → said h.side ≡ Some b
  unfolding said at_line at_triangle
  said_of_side b h = ap (option_and_then (at_line h.side)) h.is ∙ ap (option_and_then (at_triangle h.side)) h.at ∙ pick_same (class_of fs k) (class_of fs h.j) (same_or_not (class_of fs k) (class_of fs h.j)) (named m h.side) h.face ∙ h.names

  line_within : (i : ℕ) (l : MapLine) → line_at m i ≡ Some l → i < length m.lines
  line_within i l is = option_and_then_some (λ (x : Option MapLine). x) (slice_get m.lines i) l is (λ x at e. slice_get_within m.lines i x at)

  -- the list exists
  pub names_on : (names : List ℕ) × AreNamedOn m ts fs k names
  names_on =
      let right : ℕ → Option ℕ = λ i. said (record { line = i; left = false }) in
      let left : ℕ → Option ℕ = λ i. said (record { line = i; left = true }) in
      let n = length m.lines in
      let r = collect Less less_trans below_above_or_same right n [] (λ i j x y lt ei ej. absurd (none-some x ei)) in
      let both = collect Less less_trans below_above_or_same left n r.0 r.1.up in (
        both.0,
        record {
          ascend = both.1.up;
          exactly = λ a. (
            λ c. elim (both.1.only a (contains_at both.0 a c)) as (λ _. HasNamedSide m ts fs k a) [
              | inr (i, lt, e) ↦ side_of_said (record { line = i; left = true }) a e
              | inl h ↦ elim (r.1.only a h) as (λ _. HasNamedSide m ts fs k a) [
                | inr (i, lt, e) ↦ side_of_said (record { line = i; left = false }) a e
                | inl (i, e) ↦ absurd (none-some a e)
              ]
            ],
            λ h. at_contains both.0 a (put_there h r.0 both.0 r.1 both.1 h.side refl),
          );
        },
      )
    where
      put_there : {a : ℕ} (h : HasNamedSide m ts fs k a) (xs ys : List ℕ) → AreSaid Less less_trans below_above_or_same (λ i. said (record { line = i; left = false })) (length m.lines) [] xs → AreSaid Less less_trans below_above_or_same (λ i. said (record { line = i; left = true })) (length m.lines) xs ys
          → (s : Side) → h.side ≡ s → Has ys a
      put_there {a} h xs ys one two s same = go s.line s.left same
        where
          go : (i : ℕ) (left : Bool) → h.side ≡ record { line = i; left = left } → Has ys a
          go i true e = two.new i a (subst (λ (x : Side). x.line < length m.lines) e (line_within h.side.line h.line h.is)) (ap said (sym e) ∙ said_of_side a h)
          go i false e = two.old a (one.new i a (subst (λ (x : Side). x.line < length m.lines) e (line_within h.side.line h.line h.is)) (ap said (sym e) ∙ said_of_side a h))

-- on a closed map each side of a line has its list of sectors
pub lists_exist : (m : Map) (ts : List Triangle) (ws : List Walls) (fs : List ℕ) → Ground m ts ws fs → NamedAreSealed m ts ws fs → HasLists m
lists_exist m ts ws fs d sealed s l is = go (triangle_at ts (side_edge m l s.left)) refl
  where
    go : (o : Option ℕ) → triangle_at ts (side_edge m l s.left) ≡ o → (at : List ℕ) × AreSectorsAt m s at
    go None e = ([], no_sectors m ts ws fs d sealed s l is e)
    go (Some k) e = let n = names_on m ts fs k in (n.0, (named_are_sectors m ts ws fs d sealed s l k n.0 is e).0 n.1)
