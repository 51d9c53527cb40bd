-- The faces of which some side names a sector: added one by one, and sorted by their lists.
use Rattle.std.proofs.Common.{◌≡◌, ◌≢◌, ℕ, ◌+◌, ◌<◌, ◌≤◌, ◌⊎◌, inl, inr, List, [], ◌∷◌, ◌++◌, length, get_or, Contains, true, false, refl, sym, ap, ◌∙◌, subst, arith, IsPermutation, Ordering, Less, Equal}
use Rattle.std.specs.Ordering.{nat_cmp, ordering_then, is_lt}
use Rattle.std.specs.Cmp.{IsTotalOrder}
use Rattle.std.specs.Cmp.Lexicographic.{slice_cmp}
use Rattle.std.specs.List.Sorted.{IsSorted}
use Rattle.std.proofs.lemmas.Bool.{true≢false}
use Rattle.std.proofs.lemmas.Bool.Decides.{nat_tests}
use Rattle.std.proofs.lemmas.Cmp.{then_total, on_total, nat_cmp_total, nat_list_cmp_total}
use Rattle.std.proofs.lemmas.List.Sorted.{Contains-permutation, IsPermutation-sym, ranks_by, sorted_far}
use Rattle.std.proofs.lemmas.Option.{slice_get_within, get_or_from_slice_get}
use Rattle.math_base.proofs.Lists.{contains_left, contains_right, contains_here, contains_pushed, length_pushed}
use Rattle.math_base.proofs.Numbers.{below_or_last}
use Rattle.sight_names.specs.Groups.{ListBefore}
use Rattle.face_groups.specs.declared.namings.Naming.{Naming}
use Rattle.face_groups.specs.declared.named_faces.NamedFace.{NamedFace}
use Rattle.face_groups.specs.Namings.{AreSectorsOn}
use Rattle.face_groups.specs.NamedFaces.{IsFaceAdded, IsNamedFace, AreNamedFaces, RiseAsLists}
use Rattle.face_groups.proofs.Runs.{one_list}

-- ---- one face more

-- the first n faces, of which each has at most one entry
pub record AreFacesSo (ns : List Naming) (n : ℕ) (named : List NamedFace) : Type 0 where
  pub few : length named ≤ n
  pub faces : AreNamedFaces ns n named

pub one_face_more : (ns : List Naming) (n : ℕ) (f : NamedFace) (old new : List NamedFace) → AreFacesSo ns n old → f.face ≡ n → AreSectorsOn ns n f.sectors.items → IsFaceAdded f old new → AreFacesSo ns (n + 1) new
one_face_more ns n f old new h is on (inl (empty, same)) = subst (AreFacesSo ns (n + 1)) (sym same) (record {
  few = let l = h.few in omega (arith, l);
  faces = record { each = λ g c. let x = h.faces.each g c in record { below = let l = x.below in omega (arith, l); sectors = x.sectors; some = x.some }; all = λ face xs lt there some. all face xs there some (below_or_last face n lt) };
})
  where
    all : (face : ℕ) (xs : List ℕ) → AreSectorsOn ns face xs → xs ≢ [] → (face < n) ⊎ (face ≡ n) → (g : NamedFace) × Contains old g × (g.face ≡ face)
    all face xs there some (inl lt) = h.faces.all face xs lt there some
    all face xs there some (inr e) = absurd (some (one_list ns n xs f.sectors.items (subst (λ (k : ℕ). AreSectorsOn ns k xs) e there) on ∙ empty))
one_face_more ns n f old new h is on (inr (some, same)) = subst (AreFacesSo ns (n + 1)) (sym same) (record {
  few = let l = h.few in let e = length_pushed old f in omega (arith, l, e);
  faces = record { each = λ g c. each g (contains_pushed old f g c); all = λ face xs lt there filled. all face xs there filled (below_or_last face n lt) };
})
  where
    each : (g : NamedFace) → Contains old g ⊎ (f ≡ g) → IsNamedFace ns (n + 1) g
    each g (inl c) = let x = h.faces.each g c in record { below = let l = x.below in omega (arith, l); sectors = x.sectors; some = x.some }
    each g (inr e) = subst (IsNamedFace ns (n + 1)) e (record { below = omega (arith, is); sectors = subst (λ (k : ℕ). AreSectorsOn ns k f.sectors.items) (sym is) on; some = some })

    all : (face : ℕ) (xs : List ℕ) → AreSectorsOn ns face xs → xs ≢ [] → (face < n) ⊎ (face ≡ n) → (g : NamedFace) × Contains (old ++ f ∷ []) g × (g.face ≡ face)
    all face xs there filled (inl lt) = let g = h.faces.all face xs lt there filled in (g.0, contains_left g.0 old (f ∷ []) g.1, g.2)
    all face xs there filled (inr e) = (f, contains_right f old (f ∷ []) (contains_here f []), is ∙ sym e)

-- ---- in another order

pub faces_moved : (ns : List Naming) (n : ℕ) (found named : List NamedFace) → IsPermutation found named → AreNamedFaces ns n found → AreNamedFaces ns n named
faces_moved ns n found named moved h = record {
  each = λ f c. h.each f (Contains-permutation named found f (IsPermutation-sym found named moved) c);
  all = λ face xs lt on some. let g = h.all face xs lt on some in (g.0, Contains-permutation found named g.0 moved g.1, g.2);
}

abbrev named_cmp : NamedFace → NamedFace → Ordering
named_cmp f g = ordering_then (slice_cmp nat_cmp f.sectors.items g.sectors.items) (nat_cmp f.face g.face)

named_cmp_total : IsTotalOrder named_cmp
named_cmp_total = then_total (on_total (λ (f : NamedFace). f.sectors.items) nat_list_cmp_total) (on_total (λ (f : NamedFace). f.face) nat_cmp_total)

cmp_of_less : (a b : ℕ) → a < b → nat_cmp a b ≡ Less
cmp_of_less a b h = grind (arith, nat_tests)

cmp_of_same : (a b : ℕ) → a ≡ b → nat_cmp a b ≡ Equal
cmp_of_same a b h = grind (arith, nat_tests)

cmp_of_before : (xs ys : List ℕ) → ListBefore xs ys → slice_cmp nat_cmp xs ys ≡ Less
cmp_of_before [] [] h = absurd h
cmp_of_before [] (y ∷ ys) h = refl
cmp_of_before (x ∷ xs) [] h = absurd h
cmp_of_before (x ∷ xs) (y ∷ ys) (inl lt) = ap (λ (o : Ordering). ordering_then o (slice_cmp nat_cmp xs ys)) (cmp_of_less x y lt)
cmp_of_before (x ∷ xs) (y ∷ ys) (inr (e, h)) = ap (λ (o : Ordering). ordering_then o (slice_cmp nat_cmp xs ys)) (cmp_of_same x y e) ∙ cmp_of_before xs ys h

pub rise_of_sorted : (named : List NamedFace) → IsSorted named_cmp named → RiseAsLists named
rise_of_sorted named sorted i j f g lt ei ej before =
    let far = sorted_far (λ (x y : NamedFace). is_lt (named_cmp x y)) (ranks_by named_cmp_total (λ (x : NamedFace). x)) named sorted i j f (omega (arith, lt)) (slice_get_within named j g ej) in
    let ef : get_or named i f ≡ f = get_or_from_slice_get named i f f ei in
    let eg : get_or named j f ≡ g = get_or_from_slice_get named j g f ej in
    let less : is_lt (named_cmp g f) ≡ true = ap (λ (o : Ordering). is_lt (ordering_then o (nat_cmp g.face f.face))) (cmp_of_before g.sectors.items f.sectors.items before) in
    let not_less : is_lt (named_cmp g f) ≡ false = subst (λ (x : NamedFace). is_lt (named_cmp g x) ≡ false) ef (subst (λ (x : NamedFace). is_lt (named_cmp x (get_or named i f)) ≡ false) eg far) in
    true≢false (sym less ∙ not_less)
