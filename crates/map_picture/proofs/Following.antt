-- The triangles of a group from its chain.
use Rattle.std.proofs.Common.{◌≡◌, ◌≢◌, ◌∙◌, ℕ, zero, suc, ◌+◌, ◌<◌, ◌≤◌, ◌-◌, List, [], ◌∷◌, Option, Some, None, Bool, true, false, cond, drop, slice_get, refl, sym, ap, eq-eqb, arith}
use Rattle.std.proofs.lemmas.Bool.{ne_eqb}
use Rattle.std.proofs.lemmas.Option.{none-some, same_Some}
use Rattle.sight_names.specs.declared.names.Triangle.{Triangle}
use Rattle.map_picture.specs.Picture.{has_label, labelled_with}
use Rattle.map_picture.specs.Chains.{IsNextWith}

no_labels : (g : ℕ) (ts : List Triangle) → labelled_with g ts [] ≡ []
no_labels g [] = refl
no_labels g (t ∷ ts) = refl

other_label : (g : ℕ) (l : Option ℕ) → l ≢ Some g → has_label g l ≡ false
other_label g None ne = refl
other_label g (Some k) ne = ne_eqb k g (λ e. ne (ap (λ (n : ℕ). Some n) e))

same_label : (g : ℕ) → has_label g (Some g) ≡ true
same_label g = eq-eqb g g refl

-- a triangle with another label is passed
passed : (g : ℕ) (ts : List Triangle) (ls : List (Option ℕ)) (i : ℕ) → slice_get ls i ≢ Some (Some g) → labelled_with g (drop i ts) (drop i ls) ≡ labelled_with g (drop (suc i) ts) (drop (suc i) ls)
passed g [] ls zero ne = refl
passed g [] ls (suc i) ne = refl
passed g (t ∷ ts) [] zero ne = sym (no_labels g ts)
passed g (t ∷ ts) [] (suc i) ne = no_labels g (drop i ts) ∙ sym (no_labels g (drop (suc i) ts))
passed g (t ∷ ts) (l ∷ ls) zero ne = ap (λ (b : Bool). cond b (t ∷ labelled_with g ts ls) (labelled_with g ts ls)) (other_label g l (λ e. ne (ap (λ (x : Option ℕ). Some x) e)))
passed g (t ∷ ts) (l ∷ ls) (suc i) ne = passed g ts ls i ne

-- so are many
passed_all : (g : ℕ) (ts : List Triangle) (ls : List (Option ℕ)) (n i j : ℕ) → j ≡ i + n → ((k : ℕ) → i ≤ k → k < j → slice_get ls k ≢ Some (Some g)) → labelled_with g (drop i ts) (drop i ls) ≡ labelled_with g (drop j ts) (drop j ls)
passed_all g ts ls zero i j e none = let same : i ≡ j = omega (arith, e) in ap (λ (k : ℕ). labelled_with g (drop k ts) (drop k ls)) same
passed_all g ts ls (suc n) i j e none =
    passed g ts ls i (none i (omega arith) (omega (arith, e)))
    ∙ passed_all g ts ls n (suc i) j (omega (arith, e)) (λ k l h. none k (omega arith) h)

followed : (g : ℕ) (ts : List Triangle) (ls : List (Option ℕ)) (i j : ℕ) → IsNextWith ls g i j → labelled_with g (drop i ts) (drop i ls) ≡ labelled_with g (drop j ts) (drop j ls)
followed g ts ls i j next = let from : i ≤ j = next.from in passed_all g ts ls (j - i) i j (omega arith) next.none

-- a triangle with this label comes next
met : (g : ℕ) (ts : List Triangle) (ls : List (Option ℕ)) (i : ℕ) (t : Triangle) → slice_get ts i ≡ Some t → slice_get ls i ≡ Some (Some g) → labelled_with g (drop i ts) (drop i ls) ≡ t ∷ labelled_with g (drop (suc i) ts) (drop (suc i) ls)
met g [] ls i t at label = absurd (none-some t at)
met g (u ∷ ts) [] i t at label = absurd (none-some (Some g) label)
met g (u ∷ ts) (l ∷ ls) zero t at label =
    ap (λ (o : Option ℕ). cond (has_label g o) (u ∷ labelled_with g ts ls) (labelled_with g ts ls)) (same_Some l (Some g) label)
    ∙ ap (λ (b : Bool). cond b (u ∷ labelled_with g ts ls) (labelled_with g ts ls)) (same_label g)
    ∙ ap (λ (v : Triangle). v ∷ labelled_with g ts ls) (same_Some u t at)
met g (u ∷ ts) (l ∷ ls) (suc i) t at label = met g ts ls i t at label

pub begun : (g : ℕ) (ts : List Triangle) (ls : List (Option ℕ)) (j : ℕ) → IsNextWith ls g 0 j → labelled_with g (drop j ts) (drop j ls) ≡ labelled_with g ts ls
begun g ts ls j next = sym (followed g ts ls 0 j next)

pub gone_on : (g : ℕ) (ts : List Triangle) (ls : List (Option ℕ)) (i j : ℕ) (t : Triangle) → slice_get ts i ≡ Some t → slice_get ls i ≡ Some (Some g) → IsNextWith ls g (i + 1) j → labelled_with g (drop i ts) (drop i ls) ≡ t ∷ labelled_with g (drop j ts) (drop j ls)
gone_on g ts ls i j t at label next =
    let one : i + 1 ≡ suc i = omega arith in
    met g ts ls i t at label
    ∙ ap (λ (k : ℕ). t ∷ labelled_with g (drop k ts) (drop k ls)) (sym one)
    ∙ ap (λ (us : List Triangle). t ∷ us) (followed g ts ls (i + 1) j next)
