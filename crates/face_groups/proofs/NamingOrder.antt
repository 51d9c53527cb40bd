-- Sorted and without repeats, namings ascend strictly, with the same members; and what sides say of faces are the namings.
use Rattle.std.proofs.Common.{◌≡◌, ℕ, zero, suc, ◌<◌, ◌⊎◌, inl, inr, List, [], ◌∷◌, slice_get, Contains, Option, Some, None, Bool, true, ◌&&◌, ◌==◌, refl, sym, ap, ◌∙◌, subst, arith, IsPermutation, Ordering, Less, option_map}
use Rattle.std.specs.Ordering.{nat_cmp, ordering_then, is_eq}
use Rattle.std.specs.Cmp.{IsTotalOrder, IsEquivalence}
use Rattle.std.specs.List.{dedup, filter_map, cons_option}
use Rattle.std.specs.List.Retain.{IsFiltered, DiffersFromLast}
use Rattle.std.specs.List.Sorted.{IsSorted, IsStrictlySortedBy}
use Rattle.std.proofs.lemmas.Cmp.{then_total, on_total, nat_cmp_total, nat_eq_equiv, and_equiv, on_equiv}
use Rattle.std.proofs.lemmas.List.Filters.{dedup_is}
use Rattle.std.proofs.lemmas.List.Kept.{Contains-dedup, Contains-from_dedup, IsStrictlySortedBy-dedup}
use Rattle.std.proofs.lemmas.List.Sorted.{Contains-permutation, IsPermutation-sym}
use Rattle.std.proofs.lemmas.Option.{same_Some, none-some}
use Rattle.math_base.proofs.Lists.{all_at, contains_here, contains_there, contains_cons, contains_none}
use Rattle.sight_names.specs.declared.names.Side.{Side}
use Rattle.sight_names.specs.declared.names.Triangle.{Triangle}
use Rattle.sight_names.specs.Map.{Map, MapLine, line_at, named}
use Rattle.sight_names.specs.Mesh.{side_edge, triangle_at}
use Rattle.sight_names.proofs.Lists.{get_of_contains}
use Rattle.face_groups.specs.declared.tri_sectors.sides.FacedSide.{FacedSide}
use Rattle.face_groups.specs.TriSectors.Classes.{class_of}
use Rattle.face_groups.specs.TriSectors.Sides.{AreFaced}
use Rattle.face_groups.specs.declared.namings.Naming.{Naming}
use Rattle.face_groups.specs.Namings.{NamingBefore, naming, said_by, AreNamingsInOrder, IsNamedThere, AreNamings}

-- ---- sorted and without repeats

abbrev naming_cmp : Naming → Naming → Ordering
naming_cmp n o = ordering_then (nat_cmp n.face o.face) (nat_cmp n.sector o.sector)

abbrev naming_eq : Naming → Naming → Bool
naming_eq n o = n.face == o.face && n.sector == o.sector

naming_cmp_total : IsTotalOrder naming_cmp
naming_cmp_total = then_total (on_total (λ (n : Naming). n.face) nat_cmp_total) (on_total (λ (n : Naming). n.sector) nat_cmp_total)

less_lex : (a b c d : ℕ) → ordering_then (nat_cmp a b) (nat_cmp c d) ≡ Less → (a < b) ⊎ ((a ≡ b) × (c < d))
less_lex a b c d h = grind arith

ties_lex : (a b c d : ℕ) → (a == b && c == d) ≡ is_eq (ordering_then (nat_cmp a b) (nat_cmp c d))
ties_lex a b c d = grind arith

same_lex : (a b c d : ℕ) → (a == b && c == d) ≡ true → (a ≡ b) × (c ≡ d)
same_lex a b c d h = grind arith

pub naming_of_numbers : (a b c d : ℕ) → a ≡ c → b ≡ d → naming a b ≡ naming c d
naming_of_numbers a b c d e f = cc

same_naming : (n o : Naming) → naming_eq n o ≡ true → n ≡ o
same_naming n o h = let e = same_lex n.face o.face n.sector o.sector h in naming_of_numbers n.face n.sector o.face o.sector e.0 e.1

ascend_later : (ns : List Naming) → IsStrictlySortedBy naming_cmp ns → (i j : ℕ) (n o : Naming) → i < j → slice_get ns i ≡ Some n → slice_get ns j ≡ Some o → NamingBefore n o
unfolding IsStrictlySortedBy
ascend_later [] h i j n o lt p q = absurd (none-some n p)
ascend_later (x ∷ xs) h zero zero n o lt p q = absurd (omega arith)
ascend_later (x ∷ xs) h zero (suc j) n o lt p q = subst (λ (y : Naming). NamingBefore y o) (same_Some x n p) (less_lex x.face o.face x.sector o.sector (all_at (λ y. naming_cmp x y ≡ Less) xs h.0 j o q))
ascend_later (x ∷ xs) h (suc i) zero n o lt p q = absurd (omega arith)
ascend_later (x ∷ xs) h (suc i) (suc j) n o lt p q = ascend_later xs h.1 i j n o (omega arith) p q

pub in_order_of : (all sorted left : List Naming) → IsPermutation all sorted → IsSorted naming_cmp sorted → IsFiltered (DiffersFromLast naming_eq) [] sorted left → AreNamingsInOrder all left
in_order_of all sorted left moved up kept =
    let is : left ≡ dedup naming_eq sorted = dedup_is naming_eq sorted left kept in
    subst (AreNamingsInOrder all) (sym is) (record {
      ascend = ascend_later (dedup naming_eq sorted) (IsStrictlySortedBy-dedup naming_cmp_total (λ n o. ties_lex n.face o.face n.sector o.sector) sorted up);
      exactly = λ n. (
        λ c. Contains-permutation sorted all n (IsPermutation-sym all sorted moved) (Contains-from_dedup naming_eq sorted n c),
        λ c. Contains-dedup naming_eq_equiv same_naming sorted n (Contains-permutation all sorted n moved c),
      );
    })
  where
    naming_eq_equiv : IsEquivalence naming_eq
    naming_eq_equiv = and_equiv (on_equiv (λ (n : Naming). n.face) nat_eq_equiv) (on_equiv (λ (n : Naming). n.sector) nat_eq_equiv)

-- ---- what sides say

-- a side among them says it
record IsSaid (ss : List FacedSide) (n : Naming) : Type 0 where
  s : FacedSide
  one : Contains ss s
  said : said_by s ≡ Some n

said_of : (ss : List FacedSide) (n : Naming) → Contains (filter_map said_by ss) n → IsSaid ss n
said_of [] n c = absurd (contains_none n c)
said_of (s ∷ ss) n c = go (said_by s) refl c (said_of ss n)
  where
    later : IsSaid ss n → IsSaid (s ∷ ss) n
    later h = record { s = h.s; one = contains_there h.s s ss h.one; said = h.said }

    go : (o : Option Naming) → said_by s ≡ o → Contains (filter_map said_by (s ∷ ss)) n → (Contains (filter_map said_by ss) n → IsSaid ss n) → IsSaid (s ∷ ss) n
    go None e k rest = later (rest (subst (λ (o : Option Naming). Contains (cons_option o (filter_map said_by ss)) n) e k))
    go (Some o) e k rest = elim (contains_cons n o (filter_map said_by ss) (subst (λ (p : Option Naming). Contains (cons_option p (filter_map said_by ss)) n) e k)) as (λ _. IsSaid (s ∷ ss) n) [
      | inl q ↦ record { s = s; one = contains_here s ss; said = e ∙ ap (λ (x : Naming). Some x) q }
      | inr h ↦ later (rest h)
    ]

of_said : (ss : List FacedSide) (i : ℕ) (s : FacedSide) (n : Naming) → slice_get ss i ≡ Some s → said_by s ≡ Some n → Contains (filter_map said_by ss) n
of_said [] i s n at e = absurd (none-some s at)
of_said (x ∷ ss) zero s n at e = subst (λ (o : Option Naming). Contains (cons_option o (filter_map said_by ss)) n) (sym (ap said_by (same_Some x s at) ∙ e)) (contains_here n (filter_map said_by ss))
of_said (x ∷ ss) (suc i) s n at e = go (said_by x) (of_said ss i s n at e)
  where
    go : (o : Option Naming) → Contains (filter_map said_by ss) n → Contains (cons_option o (filter_map said_by ss)) n
    go None c = c
    go (Some y) c = contains_there n y (filter_map said_by ss) c

-- the sector that a side names, of what it says, and back
said_sector : (s : FacedSide) (face sector : ℕ) → said_by s ≡ Some (naming face sector) → (s.face ≡ face) × (s.sector ≡ Some sector)
said_sector s face sector e = go s.sector refl e
  where
    go : (o : Option ℕ) → s.sector ≡ o → said_by s ≡ Some (naming face sector) → (s.face ≡ face) × (s.sector ≡ Some sector)
    go None is said = absurd (none-some (naming face sector) (sym (ap (λ (p : Option ℕ). option_map (λ a. naming s.face a) p) is) ∙ said))
    go (Some a) is said =
        let same : naming s.face a ≡ naming face sector = same_Some (naming s.face a) (naming face sector) (sym (ap (λ (p : Option ℕ). option_map (λ b. naming s.face b) p) is) ∙ said) in
        (ap (λ (n : Naming). n.face) same, is ∙ ap (λ (n : Naming). Some n.sector) same)

sector_said : (s : FacedSide) (face sector : ℕ) → s.face ≡ face → s.sector ≡ Some sector → said_by s ≡ Some (naming face sector)
sector_said s face sector f e = ap (λ (p : Option ℕ). option_map (λ a. naming s.face a) p) e ∙ ap (λ (x : ℕ). Some (naming x sector)) f

pub namings_are : (m : Map) (ts : List Triangle) (fs : List ℕ) (ss : List FacedSide) (ns : List Naming) → AreFaced m ts fs ss → AreNamingsInOrder (filter_map said_by ss) ns → AreNamings m ts fs ns
namings_are m ts fs ss ns faced order = record { ascend = order.ascend; exactly = λ face sector. (λ c. there face sector (said_of ss (naming face sector) ((order.exactly (naming face sector)).0 c)), λ h. (order.exactly (naming face sector)).1 (back face sector h)) }
  where
    there : (face sector : ℕ) → IsSaid ss (naming face sector) → IsNamedThere m ts fs face sector
    there face sector h =
        let f = (faced.each h.one.0 h.s (get_of_contains ss h.s h.one.0 h.one.1 h.one.2)).0 in
        let w = said_sector h.s face sector h.said in
        record { side = h.s.side; line = f.line; is = f.is; names = sym f.sector ∙ w.1; j = f.k; at = f.at; there = sym w.0 ∙ f.face }

    back : (face sector : ℕ) → IsNamedThere m ts fs face sector → Contains (filter_map said_by ss) (naming face sector)
    back face sector h =
        let w = faced.all h.side h.line h.j tt h.is h.at in
        let f = (faced.each w.0 w.1 w.2).0 in
        let line : f.line ≡ h.line = same_Some f.line h.line (sym f.is ∙ ap (λ (s : Side). line_at m s.line) w.3 ∙ h.is) in
        let at : triangle_at ts (side_edge m h.line h.side.left) ≡ Some f.k = subst (λ (s : Side). triangle_at ts (side_edge m h.line s.left) ≡ Some f.k) w.3 (subst (λ (l : MapLine). triangle_at ts (side_edge m l w.1.side.left) ≡ Some f.k) line f.at) in
        let same : f.k ≡ h.j = same_Some f.k h.j (sym at ∙ h.at) in
        of_said ss w.0 w.1 (naming face sector) w.2 (sector_said w.1 face sector (f.face ∙ ap (class_of fs) same ∙ sym h.there) (f.sector ∙ ap (named m) w.3 ∙ h.names))
