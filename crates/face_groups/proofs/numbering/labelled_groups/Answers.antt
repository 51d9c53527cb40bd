use Rattle.std.proofs.Common.{◌≡◌, ℕ, ◌++◌, List, length, take, vec_len, Option, Contains, sym, ◌∙◌, subst, arith}
use Rattle.std.proofs.lemmas.List.{take_all, take-append-le}
use Rattle.face_groups.specs.declared.named_faces.NamedFace.{NamedFace}
use Rattle.face_groups.specs.NamedFaces.{AreNumbered}
use Rattle.face_groups.proofs.Numbers.{labels_are}
use Rattle.face_groups.proofs.numbering.labelled_groups.Goals as goal

pub number_all-requires-clause-below : goal.number_all-requires-clause-below
number_all-requires-clause-below c f k =
    let x = (c.in_ok-named.ensures.faces.each f (subst (λ (xs : List NamedFace). Contains xs f) c.as_slice.ensures.value k)).below in
    let n = c.as_mut_slice.ensures.len in
    let p = c.in_ok-places.ensures.len in
    omega (arith, x, n, p)

-- what a vector holds once a slice over all of it was written
written : {X : Type 0} (n : ℕ) (xs ys : List X) → length xs ≡ n → take n (xs ++ ys) ≡ xs
written n xs ys e = take-append-le n xs ys (omega (arith, e)) ∙ take_all n xs (omega (arith, e))

pub returns : goal.returns
returns c = let count : length c.number_all.new.places ≡ vec_len c.in_ok-places.places = (let a = c.number_all.auto.places in let b = c.as_mut_slice.ensures.len in omega (arith, a, b)) in labels_are c.args.namings.now c.args.faces.now c.args.count c.in_ok-named.named.items c.in_ok-groups.groups.items c.as_slice-2.result.now c.in_ok-labels.labels.items c.requires.count c.requires.range c.requires.on c.in_ok-named.ensures.few c.in_ok-named.ensures.faces
    (subst (λ (ps : List (Option ℕ)). AreNumbered c.in_ok-named.named.items c.in_ok-groups.groups.items ps) (sym (c.as_slice-2.ensures.value ∙ written _ c.number_all.new.places _ count)) (subst (λ (xs : List NamedFace). AreNumbered xs c.in_ok-groups.groups.items c.number_all.new.places) c.as_slice.ensures.value c.in_ok-groups.ensures))
    c.in_ok-labels.ensures
