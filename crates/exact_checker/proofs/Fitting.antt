-- Masks put one behind the other, each of so many words.
use Rattle.std.proofs.Common.{◌≡◌, ℕ, zero, suc, ◌+◌, ◌*◌, ◌/◌, ◌%◌, ◌<◌, ◌≤◌, ◌↔◌, inl, inr, List, [], ◌∷◌, ◌++◌, take, length, Option, Some, None, Bor, slice_index, refl, sym, ◌∙◌, ap, subst, arith}
use Rattle.std.specs.List.{slice_get}
use Rattle.std.specs.Int.{bit_at}
use Rattle.std.specs.Prelude.{option_and_then, option_map, MatchOption}
use Rattle.std.proofs.lemmas.List.{append_assoc, length-append}
use Rattle.std.proofs.lemmas.Nat.Bits.{bit_at-zero}
use Rattle.std.proofs.lemmas.Option.{none-some, same_Some, slice_get_within}
use Rattle.math_base.proofs.Lists.{get_there, length_pushed, pushed_at, get_pushed, get_before_pushed}
use Rattle.math_base.proofs.Numbers.{below_or_not, below_or_last}
use Rattle.mesh_shape.specs.declared.half_edges.table.HalfEdge.{HalfEdge}
use Rattle.gate_floods.specs.declared.gate_masks.masks.Row.{Row}
use Rattle.gate_floods.specs.GateMasks.Masks.{HasWords}
use Rattle.gate_floods.specs.GateMasks.Words.{HasBit, AreBitsOf}
use Rattle.gate_floods.specs.RowJudge.Asked.{mask_place}
use Rattle.gate_floods.specs.RowJudge.Words.{row_in_words}
use Rattle.gate_floods.specs.GateMasks.Behind.{mask_behind}
use Rattle.exact_checker.specs.Masking.{words_of, fitted, words_at, HaveMasksOf}

-- ---- the words of one row

pub length_of_words : (row : List ℕ) (k n : ℕ) → length (words_of row k n) ≡ n
length_of_words row k zero = refl
length_of_words row k (suc n) = ap suc (length_of_words row (suc k) n)

word_there : (row : List ℕ) (k n j : ℕ) → j < n → slice_index (words_of row k n) j ≡ slice_index row (k + j)
word_there row k zero j l = absurd (omega (arith, l))
word_there row k (suc n) zero l = ap (slice_index row) (omega arith)
word_there row k (suc n) (suc j) l = word_there row (suc k) n j (omega (arith, l)) ∙ ap (slice_index row) (omega arith)

no_word : (row : List ℕ) (k n j : ℕ) → n ≤ j → slice_index (words_of row k n) j ≡ 0
no_word row k zero j l = refl
no_word row k (suc n) zero l = absurd (omega (arith, l))
no_word row k (suc n) (suc j) l = no_word row (suc k) n j (omega (arith, l))

words_more : (row : List ℕ) (k n : ℕ) → words_of row k (suc n) ≡ words_of row k n ++ slice_index row (k + n) ∷ []
words_more row k zero = let e : k ≡ k + 0 = omega arith in ap (λ (j : ℕ). slice_index row j ∷ []) e
words_more row k (suc n) = let e : suc k + n ≡ k + suc n = omega arith in ap (λ (ws : List ℕ). slice_index row k ∷ ws) (words_more row (suc k) n ∙ ap (λ (j : ℕ). words_of row (suc k) n ++ slice_index row j ∷ []) e)

-- one word more is put
pub put_more : (row old words new : List ℕ) (n w : ℕ) → words ≡ old ++ words_of row 0 n → w ≡ slice_index row n → new ≡ words ++ w ∷ [] → new ≡ old ++ words_of row 0 (n + 1)
put_more row old words new n w e f g =
    let front : n ≡ 0 + n = omega arith in
    let back : suc n ≡ n + 1 = omega arith in
    g ∙ ap (λ (ws : List ℕ). ws ++ w ∷ []) e ∙ append_assoc old (words_of row 0 n) (w ∷ []) ∙ ap (λ (x : ℕ). old ++ (words_of row 0 n ++ x ∷ [])) (f ∙ ap (slice_index row) front)
    ∙ ap (λ (ws : List ℕ). old ++ ws) (sym (words_more row 0 n)) ∙ ap (λ (j : ℕ). old ++ words_of row 0 j) back

-- the bits of a row all of whose numbers have room are those of its words
pub fitted_bits : (row : List ℕ) (n : ℕ) (P : ℕ → Type 0) → ((c : ℕ) → P c → c < 64 * n) → AreBitsOf row P → AreBitsOf (words_of row 0 n) P
fitted_bits row n P room bits c = elim (below_or_not (c / 64) n) as (λ _. HasBit (words_of row 0 n) c ↔ P c) [
  | inl low ↦
      let e : bit_at (slice_index (words_of row 0 n) (c / 64)) (c % 64) ≡ bit_at (slice_index row (c / 64)) (c % 64) = ap (λ (w : ℕ). bit_at w (c % 64)) (word_there row 0 n (c / 64) low ∙ ap (slice_index row) (omega arith)) in
      ((λ h. (bits c).0 (sym e ∙ h)), (λ p. e ∙ (bits c).1 p))
  | inr high ↦
      let e : bit_at (slice_index (words_of row 0 n) (c / 64)) (c % 64) ≡ 0 = ap (λ (w : ℕ). bit_at w (c % 64)) (no_word row 0 n (c / 64) high) ∙ bit_at-zero (c % 64) in
      ((λ h. absurd (zero_or_one _ e h)), (λ p. absurd (let l = room c p in omega (arith, high, l))))
]
  where
    zero_or_one : (x : ℕ) → x ≡ 0 → x ≡ 1 → ⊥
    zero_or_one x e h = omega (arith, e, h)

-- ---- a row among the words of others

row_in_front : (ws more : List ℕ) (width at : ℕ) → at + width ≤ length ws → row_in_words (ws ++ more) width at ≡ row_in_words ws width at
row_in_front ws more width zero l = taken ws more width (omega (arith, l))
  where
    taken : (ws more : List ℕ) (n : ℕ) → n ≤ length ws → take n (ws ++ more) ≡ take n ws
    taken ws more zero l = refl
    taken [] more (suc n) l = absurd (omega (arith, l))
    taken (w ∷ ws) more (suc n) l = ap (λ (us : List ℕ). w ∷ us) (taken ws more n (omega (arith, l)))
row_in_front [] more width (suc at) l = absurd (omega (arith, l))
row_in_front (w ∷ ws) more width (suc at) l = row_in_front ws more width at (omega (arith, l))

row_behind : (ws row : List ℕ) (width : ℕ) → length row ≡ width → row_in_words (ws ++ row) width (length ws) ≡ row
row_behind [] row width e = taken row width e
  where
    taken : (row : List ℕ) (n : ℕ) → length row ≡ n → take n row ≡ row
    taken [] zero e = refl
    taken [] (suc n) e = absurd (omega (arith, e))
    taken (w ∷ row) zero e = absurd (omega (arith, e))
    taken (w ∷ row) (suc n) e = ap (λ (us : List ℕ). w ∷ us) (taken row n (omega (arith, e)))
row_behind (w ∷ ws) row width e = row_behind ws row width e

-- ---- half-edge after half-edge

-- the masks of the first n half-edges are put
pub record MasksBelow (masks : List (Option Row)) (xs : List HalfEdge) (width n : ℕ) (places : List (Option ℕ)) (words : List ℕ) : Type 0 where
  pub len : length places ≡ n
  pub few : length words ≤ n * 1024
  pub room : (i at : ℕ) → slice_get places i ≡ Some (Some at) → at + width ≤ length words
  pub have : (i : ℕ) (x : HalfEdge) → i < n → slice_get xs i ≡ Some x → words_at width places words i ≡ fitted width (mask_behind masks x)

-- what is put for one: nothing, or the words of its mask behind the others
abbrev pub Puts : ℕ → Option Row → List ℕ → Option ℕ → List ℕ → Type 0
Puts width None words place new = (place ≡ None) × (new ≡ words)
Puts width (Some r) words place new = (place ≡ Some (length words)) × (new ≡ words ++ words_of r.words.items 0 width)

-- so it is by the words of a mask, if there is one
pub puts_of : (width : ℕ) (mask : Option Row) (words new : List ℕ) (place : Option ℕ) (given : Option (Bor (List ℕ))) → MatchOption given (mask ≡ None) (λ (ws : Bor (List ℕ)). HasWords mask ws.now)
    → MatchOption given ((place ≡ None) × (new ≡ words)) (λ (ws : Bor (List ℕ)). (place ≡ Some (length words)) × (new ≡ words ++ words_of ws.now 0 width)) → Puts width mask words place new
puts_of width mask words new place None e h = subst (λ (o : Option Row). Puts width o words place new) (sym e) h
puts_of width mask words new place (Some b) (r, is, same) h = subst (λ (o : Option Row). Puts width o words place new) (sym is) (h.0, h.1 ∙ ap (λ (ws : List ℕ). words ++ words_of ws 0 width) same)

module _ (masks : List (Option Row)) (xs : List HalfEdge) (width n : ℕ) (narrow : width ≤ 1024) (places : List (Option ℕ)) (words : List ℕ) (below : MasksBelow masks xs width n places words) where
  module _ (mask : Option Row) (place : Option ℕ) (new : List ℕ) (puts : Puts width mask words place new) where
    -- what was there stays in front
    behind : (more : List ℕ) × (new ≡ words ++ more) × (length more ≤ 1024)
    behind = at mask puts
      where
        nothing : words ≡ words ++ []
        nothing = all words
          where
            all : (us : List ℕ) → us ≡ us ++ []
            all [] = refl
            all (u ∷ us) = ap (λ (vs : List ℕ). u ∷ vs) (all us)

        at : (o : Option Row) → Puts width o words place new → (more : List ℕ) × (new ≡ words ++ more) × (length more ≤ 1024)
        at None h = ([], h.1 ∙ nothing, omega arith)
        at (Some r) h = (words_of r.words.items 0 width, h.1, (let e = length_of_words r.words.items 0 width in omega (arith, e, narrow)))

    longer : length new ≡ length words + length behind.0
    longer = ap (λ (us : List ℕ). length us) behind.1 ∙ length-append words behind.0

    -- the mask of an earlier one is as it was
    kept : (i at : ℕ) → slice_get places i ≡ Some (Some at) → row_in_words new width at ≡ row_in_words words width at
    kept i at h = ap (λ (us : List ℕ). row_in_words us width at) behind.1 ∙ row_in_front words behind.0 width at (below.room i at h)

    -- that of the new one
    here : option_map (row_in_words new width) place ≡ fitted width mask
    here = at mask puts
      where
        at : (o : Option Row) → Puts width o words place new → option_map (row_in_words new width) place ≡ fitted width o
        at None h = ap (option_map (row_in_words new width)) h.0
        at (Some r) h = ap (option_map (row_in_words new width)) h.0 ∙ ap (λ (us : List ℕ). Some (row_in_words us width (length words))) h.1 ∙ ap (λ (us : List ℕ). Some us) (row_behind words (words_of r.words.items 0 width) width (length_of_words r.words.items 0 width))

    new_room : (at : ℕ) → place ≡ Some at → at + width ≤ length new
    new_room at e = by mask puts
      where
        by : (o : Option Row) → Puts width o words place new → at + width ≤ length new
        by None h = absurd (none-some at (sym h.0 ∙ e))
        by (Some r) h =
            let same : length words ≡ at = same_Some (length words) at (sym h.0 ∙ e) in
            let l : length new ≡ length words + length (words_of r.words.items 0 width) = ap (λ (us : List ℕ). length us) h.1 ∙ length-append words (words_of r.words.items 0 width) in
            let m = length_of_words r.words.items 0 width in
            omega (arith, same, l, m)

    place_before : (i : ℕ) → i < n → mask_place (places ++ place ∷ []) i ≡ mask_place places i
    place_before i lt = at (slice_get places i) refl
      where
        at : (o : Option (Option ℕ)) → slice_get places i ≡ o → mask_place (places ++ place ∷ []) i ≡ mask_place places i
        at None e = absurd (let w = get_is i lt in none-some w.0 (sym e ∙ w.1))
          where
            get_is : (i : ℕ) → i < n → (o : Option ℕ) × (slice_get places i ≡ Some o)
            get_is i lt = get_there places i (let l = below.len in omega (arith, lt, l))
        at (Some o) e = ap (option_and_then (λ (p : Option ℕ). p)) (get_before_pushed places place o i e ∙ sym e)

    words_before : (i : ℕ) → i < n → words_at width (places ++ place ∷ []) new i ≡ words_at width places words i
    words_before i lt = ap (option_map (row_in_words new width)) (place_before i lt) ∙ at (slice_get places i) refl
      where
        at : (o : Option (Option ℕ)) → slice_get places i ≡ o → option_map (row_in_words new width) (mask_place places i) ≡ option_map (row_in_words words width) (mask_place places i)
        at None e = ap (λ (q : Option (Option ℕ)). option_map (row_in_words new width) (option_and_then (λ (p : Option ℕ). p) q)) e ∙ sym (ap (λ (q : Option (Option ℕ)). option_map (row_in_words words width) (option_and_then (λ (p : Option ℕ). p) q)) e)
        at (Some None) e = ap (λ (q : Option (Option ℕ)). option_map (row_in_words new width) (option_and_then (λ (p : Option ℕ). p) q)) e ∙ sym (ap (λ (q : Option (Option ℕ)). option_map (row_in_words words width) (option_and_then (λ (p : Option ℕ). p) q)) e)
        at (Some (Some j)) e = ap (λ (q : Option (Option ℕ)). option_map (row_in_words new width) (option_and_then (λ (p : Option ℕ). p) q)) e ∙ ap (λ (us : List ℕ). Some us) (kept i j e) ∙ sym (ap (λ (q : Option (Option ℕ)). option_map (row_in_words words width) (option_and_then (λ (p : Option ℕ). p) q)) e)

    pub masks_more : ((x : HalfEdge) → slice_get xs n ≡ Some x → mask ≡ mask_behind masks x) → MasksBelow masks xs width (n + 1) (places ++ place ∷ []) new
    masks_more is = record {
      len = let e = length_pushed places place in let l = below.len in omega (arith, e, l);
      few = let l = longer in let m = behind.2 in let f = below.few in omega (arith, l, m, f);
      room = λ i at h. elim (pushed_at places place (Some at) i h) as (λ _. at + width ≤ length new) [
        | inl before ↦ let r = below.room i at before in let l = longer in omega (arith, r, l)
        | inr (e, same) ↦ new_room at same
      ];
      have = λ i x lt at. elim (below_or_last i n lt) as (λ _. words_at width (places ++ place ∷ []) new i ≡ fitted width (mask_behind masks x)) [
        | inl less ↦ words_before i less ∙ below.have i x less at
        | inr same ↦
            ap (λ (j : ℕ). words_at width (places ++ place ∷ []) new j) (same ∙ sym below.len)
            ∙ ap (λ (q : Option (Option ℕ)). option_map (row_in_words new width) (option_and_then (λ (p : Option ℕ). p) q)) (get_pushed places place)
            ∙ here ∙ ap (fitted width) (is x (ap (slice_get xs) (sym same) ∙ at))
      ];
    }

pub all_put : (masks : List (Option Row)) (xs : List HalfEdge) (width n : ℕ) (places : List (Option ℕ)) (words : List ℕ) → n ≡ length xs → MasksBelow masks xs width n places words → HaveMasksOf masks xs width places words
all_put masks xs width n places words e below i x at = below.have i x (let l = slice_get_within xs i x at in omega (arith, l, e)) at
