-- What is ahead by a way, as the way and the half-edge behind it.
use Rattle.std.proofs.Common.{◌≡◌, ◌≢◌, ℕ, ◌<◌, List, Option, Some, None, ◌≤◌, ◌*◌, Bool, true, false, pos, length, slice_get, slice_index_or, option_and_then, refl, sym, ap, ◌∙◌, arith, Result, subst}
use Rattle.std.specs.Prelude.{if◌then◌else◌, ◌==◌, is_some}
use Rattle.std.proofs.lemmas.Option.{get_or_from_slice_get, none-some, same_Some, slice_get_within}
use Rattle.sight_names.specs.declared.limits.TheConstants.{MOST_TRIANGLES}
use Rattle.sight_names.specs.declared.names.Memory.{Memory}
use Rattle.sight_names.specs.declared.names.Pt.{Pt}
use Rattle.sight_names.specs.Splitting.{EndPoints}
use Rattle.stab_hull.specs.declared.Passed.{Passed}
use Rattle.stab_hull.specs.Sleeves.{HasLastLeft, HasLastRight}
use Rattle.portal_walk.specs.declared.path.Frame.{Frame}
use Rattle.portal_walk.specs.Frames.{PathParts, PassesPortal}
use Rattle.portal_walk.specs.Walk.{half_edge_ends}
use Rattle.mesh_shape.specs.declared.half_edges.table.HalfEdge.{HalfEdge}
use Rattle.mesh_shape.specs.HalfEdges.HalfEdges.{way_outside}
use Rattle.sight_names.specs.Sequence.{names_it}
use Rattle.portal_walk.specs.declared.ahead.Ahead.{Ahead}
use Rattle.portal_walk.specs.declared.ahead.TheConstants.{NO_EDGE}
use Rattle.portal_walk.specs.declared.scene.Way.{Way as WayOut}
use Rattle.portal_walk.specs.declared.scene.Way.TheVariants as out
use Rattle.portal_walk.specs.Ahead.{AreAhead, FindsAhead, IsOfEdge, ahead_at, ahead_by, ahead_of, kept_as, number_or, sector_by, sector_in}
use Rattle.portal_walk.specs.Scene.{SceneParts, IsScene, IsNumber, behind}
use Rattle.portal_walk.proofs.Portals.{found_on, numbered, outside_some}

-- no way is ahead where there is none by the table
ahead_none : (xs : List HalfEdge) (source : ℕ) (way : WayOut) (n : Option ℕ) → ahead_by xs way n ≡ None → way_outside xs source n ≡ None
ahead_none xs source way None h = refl
ahead_none xs source way (Some n) h = go (slice_get xs n) refl
  where
    go : (o : Option HalfEdge) → slice_get xs n ≡ o → way_outside xs source (Some n) ≡ None
    go None at = ap (option_and_then (λ (x : HalfEdge). if names_it x.sector source then None else Some n)) at
    go (Some y) at = absurd (none-some (ahead_of way n y) (sym h ∙ ap (ahead_at way n) at))

-- what is ahead is of the half-edge behind the way
ahead_some : (xs : List HalfEdge) (way : WayOut) (n : Option ℕ) (a : Ahead) → ahead_by xs way n ≡ Some a → (n ≡ Some a.number) × IsOfEdge xs way a
ahead_some xs way None a h = absurd (none-some a h)
ahead_some xs way (Some n) a h = go (slice_get xs n) refl
  where
    go : (o : Option HalfEdge) → slice_get xs n ≡ o → (◌≡◌ {A = Option ℕ} (Some n) (Some a.number)) × IsOfEdge xs way a
    go None at = absurd (none-some a (sym (ap (ahead_at way n) at) ∙ h))
    go (Some y) at =
        let same : ahead_of way n y ≡ a = same_Some (ahead_of way n y) a (sym (ap (ahead_at way n) at) ∙ h) in
        let number : n ≡ a.number = ap (λ (b : Ahead). b.number) same in
        (ap (λ (k : ℕ). Some k) number, (y, sym (ap (slice_get xs) number) ∙ at, sym same ∙ ap (λ (k : ℕ). ahead_of way k y) number))

-- ---- what is kept of it

pub ahead_within : (s : SceneParts) → IsScene s → (from : ℕ) (way : WayOut) (found : List Ahead) → AreAhead s.edges way found → IsNumber s.mesh.triangles from → from < length found
ahead_within s i from way found are number =
    let there = numbered s i from number in
    slice_get_within found from (kept_as (ahead_by s.edges way (behind there.0 way))) (are from there.0 there.1)

pub ahead_read : (xs : List HalfEdge) (way : WayOut) (found : List Ahead) → AreAhead xs way found → (from : ℕ) (d : Ahead) (x : HalfEdge) → slice_get xs from ≡ Some x → slice_index_or found from d ≡ kept_as (ahead_by xs way (behind x way))
ahead_read xs way found are from d x at = get_or_from_slice_get found from (kept_as (ahead_by xs way (behind x way))) d (are from x at)

-- half-edges have smaller numbers
other_number : (n many : ℕ) → n < many → many ≤ MOST_TRIANGLES * 3 → n ≢ NO_EDGE
other_number n many less few = λ is. omega (arith, less, few, is)

-- nothing is ahead just where no half-edge is kept
module _ (xs : List HalfEdge) (way : WayOut) (n : Option ℕ) (a : Ahead) (is : a ≡ kept_as (ahead_by xs way n)) where
  pub kept_none : length xs ≤ MOST_TRIANGLES * 3 → a.number ≡ NO_EDGE → None ≡ ahead_by xs way n
  kept_none few nothing = go (ahead_by xs way n) refl
    where
      go : (o : Option Ahead) → ahead_by xs way n ≡ o → None ≡ ahead_by xs way n
      go None e = sym e
      go (Some b) e =
          let w = ahead_some xs way n b e in
          let same : a.number ≡ b.number = ap (λ (c : Ahead). c.number) (is ∙ ap kept_as e) in
          absurd (other_number b.number (length xs) (slice_get_within xs b.number w.1.0 w.1.1) few (sym same ∙ nothing))

  pub kept_some : a.number ≢ NO_EDGE → Some a ≡ ahead_by xs way n
  kept_some apart = go (ahead_by xs way n) refl
    where
      go : (o : Option Ahead) → ahead_by xs way n ≡ o → Some a ≡ ahead_by xs way n
      go None e = absurd (apart (ap (λ (c : Ahead). c.number) (is ∙ ap kept_as e)))
      go (Some b) e = ap (λ (c : Ahead). Some c) (is ∙ ap kept_as e) ∙ sym e

-- ---- the sector of its triangle

whole_sector : (o : Option ℕ) → sector_by (is_some o) (number_or o) ≡ o
whole_sector None = refl
whole_sector (Some a) = refl

equal_true : (a b : ℕ) → a ≡ b → (a == b) ≡ true
equal_true a b same = grind arith

equal_false : (a b : ℕ) → a ≢ b → (a == b) ≡ false
equal_false a b apart = grind arith

pub is_in_same : (has : Bool) (a sector : ℕ) → a ≡ sector → has ≡ names_it (sector_by has a) sector
is_in_same true a sector same = sym (equal_true a sector same)
is_in_same false a sector same = refl

pub is_in_other : (has : Bool) (a sector : ℕ) → a ≢ sector → false ≡ names_it (sector_by has a) sector
is_in_other true a sector apart = sym (equal_false a sector apart)
is_in_other false a sector apart = refl

module _ (s : SceneParts) (i : IsScene s) (from : ℕ) (number : IsNumber s.mesh.triangles from) (way : WayOut) (there : Option Ahead) (is : (x : HalfEdge) → slice_get s.edges from ≡ Some x → there ≡ ahead_by s.edges way (behind x way)) where
  pub finds_none : there ≡ None → FindsAhead s from way None
  finds_none none =
      let x = numbered s i from number in record {
        way_found = found_on s i from number x.0 x.1 way None (sym (ahead_none s.edges s.source way (behind x.0 way) (sym (is x.0 x.1) ∙ none)));
        edge = tt;
      }

  module _ (a : Ahead) (some : there ≡ Some a) where
    outside : (b : Bool) → names_it (sector_in a) s.source ≡ b → (x : HalfEdge) → slice_get s.edges from ≡ Some x → (◌≡◌ {A = Option ℕ} (if b then None else Some a.number) (way_outside s.edges s.source (behind x way))) × IsOfEdge s.edges way a
    outside b test x at =
        let w = ahead_some s.edges way (behind x way) a (sym (is x at) ∙ some) in
        let sector : sector_in a ≡ w.1.0.sector = ap sector_in w.1.2 ∙ whole_sector w.1.0.sector in
        let named : names_it w.1.0.sector s.source ≡ b = ap (λ (o : Option ℕ). names_it o s.source) (sym sector) ∙ test in
        (ap (λ (c : Bool). let o : Option ℕ = if c then None else Some a.number in o) (sym named) ∙ sym (outside_some s.edges s.source a.number w.1.0 w.1.1) ∙ ap (way_outside s.edges s.source) (sym w.0), w.1)

    pub finds_source : names_it (sector_in a) s.source ≡ true → FindsAhead s from way None
    finds_source test =
        let x = numbered s i from number in record {
          way_found = found_on s i from number x.0 x.1 way None (outside true test x.0 x.1).0;
          edge = tt;
        }

    pub finds_edge : names_it (sector_in a) s.source ≡ false → FindsAhead s from way (Some a)
    finds_edge test =
        let x = numbered s i from number in
        let o = outside false test x.0 x.1 in record {
          way_found = found_on s i from number x.0 x.1 way (Some a.number) o.0;
          edge = o.1;
        }

-- the same of the first half-edges
abbrev pub AreAheadBelow : List HalfEdge → WayOut → ℕ → List Ahead → Type 0
AreAheadBelow xs way n found = (k : ℕ) (x : HalfEdge) → k < n → slice_get xs k ≡ Some x → slice_get found k ≡ Some (kept_as (ahead_by xs way (behind x way)))

-- ---- a portal from the last end on a side to the end that is ahead has the ends of the half-edge

one_left : (es : List EndPoints) (p q : Pt) → HasLastLeft es p → HasLastLeft es q → p ≡ q
one_left es p q h k = sym h.2 ∙ ap (λ (e : EndPoints). e.left) (same_Some h.0 k.0 (sym h.1 ∙ k.1)) ∙ k.2

one_right : (es : List EndPoints) (p q : Pt) → HasLastRight es p → HasLastRight es q → p ≡ q
one_right es p q h k = sym h.2 ∙ ap (λ (e : EndPoints). e.right) (same_Some h.0 k.0 (sym h.1 ∙ k.1)) ∙ k.2

module _ (es : List EndPoints) (left : Pt) (a : Ahead) (n : ℕ) (y : HalfEdge) (is : a ≡ ahead_of out.Left n y) (last : HasLastLeft es left) (keeps : HasLastLeft es y.left_at) where
  pub left_proper : y.left_at ≢ y.right_at → left ≢ a.apex_at
  left_proper proper same = proper (sym (one_left es left y.left_at last keeps) ∙ same ∙ ap (λ (b : Ahead). b.apex_at) is)

  pub left_passes : (old new : PathParts) (f : Frame) (r : Result Passed Memory) → PassesPortal old new f (record { left = left; right = a.apex_at }) r → PassesPortal old new f (half_edge_ends y) r
  left_passes old new f r h =
      subst (λ (p : Pt). PassesPortal old new f (record { left = p; right = y.right_at }) r) (one_left es left y.left_at last keeps)
      (subst (λ (b : Ahead). PassesPortal old new f (record { left = left; right = b.apex_at }) r) is h)

module _ (es : List EndPoints) (right : Pt) (a : Ahead) (n : ℕ) (y : HalfEdge) (is : a ≡ ahead_of out.Right n y) (last : HasLastRight es right) (keeps : HasLastRight es y.right_at) where
  pub right_proper : y.left_at ≢ y.right_at → a.apex_at ≢ right
  right_proper proper same = proper (sym (ap (λ (b : Ahead). b.apex_at) is) ∙ same ∙ one_right es right y.right_at last keeps)

  pub right_passes : (old new : PathParts) (f : Frame) (r : Result Passed Memory) → PassesPortal old new f (record { left = a.apex_at; right = right }) r → PassesPortal old new f (half_edge_ends y) r
  right_passes old new f r h =
      subst (λ (p : Pt). PassesPortal old new f (record { left = y.left_at; right = p }) r) (one_right es right y.right_at last keeps)
      (subst (λ (b : Ahead). PassesPortal old new f (record { left = b.apex_at; right = right }) r) is h)
