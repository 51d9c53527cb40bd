-- What is left behind a token is shorter than the text.
use Rattle.std.proofs.Common.{◌≡◌, ◌≢◌, ◌≤◌, ◌<◌, ℕ, suc, eqb, Bool, true, false, cond, List, [], ◌∷◌, ◌++◌, length, Option, Some, None, Result, Ok, Err, refl, sym, ap, ◌∙◌, subst, arith, length-append}
use Rattle.udmf_text.specs.TextTokens.Between.{left_behind}
use Rattle.udmf_text.specs.TextTokens.Laws.{IsBehindGap, none, blank, line, last_line, block}
use Rattle.udmf_text.specs.TextTokens.Tokens.{TokenParts, mark_of, quoted_of, word_token_of, token_of}
use Rattle.udmf_text.specs.TextTokens.Text.{PlacedParts, at_front, first_token_of}
use Rattle.udmf_text.proofs.TextTokens.Gaps.{gaps_end}
use Rattle.udmf_text.proofs.TextTokens.TokenForms.{strings_end, words_are_longest}
use Rattle.udmf_text.specs.declared.text_tokens.token.Kind.{Kind}
use Rattle.udmf_text.specs.declared.text_tokens.token.Kind.TheVariants as kind

gap_le : (rest text : List ℕ) → IsBehindGap rest text → length rest ≤ length text
gap_le rest text (none e) = omega (arith, ap length e)
gap_le rest text (blank c more e h g) = omega (arith, ap length e, gap_le rest more g)
gap_le rest text (line words more e h g) = omega (arith, ap length e, length-append words (10 ∷ more), gap_le rest more g)
gap_le rest text (last_line words e h r) = omega (arith, ap length r)
gap_le rest text (block words more e h g) = omega (arith, ap length e, length-append words (42 ∷ 47 ∷ more), gap_le rest more g)

-- what is left behind the token, if there is one, has fewer bytes
abbrev Below : ℕ → Option TokenParts → Type 0
Below n o = (t : TokenParts) → o ≡ Some t → length t.rest < n

below_if : (n : ℕ) (b : Bool) (x y : Option TokenParts) → Below n x → Below n y → Below n (cond b x y)
below_if n true x y p q = p
below_if n false x y p q = q

below_mark : (k : Kind) (cs : List ℕ) → Below (suc (length cs)) (Some (mark_of k cs))
below_mark k cs t e =
    let same : mark_of k cs ≡ t = cc in
    subst (λ (x : TokenParts). length x.rest < suc (length cs)) same (omega arith)

below_string : (cs : List ℕ) → Below (suc (length cs)) (quoted_of cs)
below_string cs t e =
    let s = (strings_end cs t).0 e in
    omega (arith, ap length s.is, length-append t.bytes (34 ∷ t.rest))

some_bytes : (bytes rest text : List ℕ) → text ≡ bytes ++ rest → bytes ≢ [] → length rest < length text
some_bytes [] rest text e some = absurd (some refl)
some_bytes (b ∷ bs) rest text e some = omega (arith, ap length e, length-append bs rest)

below_word : (text : List ℕ) → Below (length text) (word_token_of text)
below_word text t e =
    let w = (words_are_longest text t).0 e in
    some_bytes t.bytes t.rest text w.is w.some

token_shorter : (c : ℕ) (cs : List ℕ) → Below (suc (length cs)) (token_of (c ∷ cs))
token_shorter c cs =
    let n = suc (length cs) in
    let word = below_word (c ∷ cs) in
    let fifth = below_if n (eqb c 34) (quoted_of cs) (word_token_of (c ∷ cs)) (below_string cs) word in
    let fourth = below_if n (eqb c 59) (Some (mark_of kind.End cs)) (cond (eqb c 34) (quoted_of cs) (word_token_of (c ∷ cs))) (below_mark kind.End cs) fifth in
    let third = below_if n (eqb c 61) (Some (mark_of kind.Is cs)) (cond (eqb c 59) (Some (mark_of kind.End cs)) (cond (eqb c 34) (quoted_of cs) (word_token_of (c ∷ cs)))) (below_mark kind.Is cs) fourth in
    let second = below_if n (eqb c 125) (Some (mark_of kind.Close cs)) (cond (eqb c 61) (Some (mark_of kind.Is cs)) (cond (eqb c 59) (Some (mark_of kind.End cs)) (cond (eqb c 34) (quoted_of cs) (word_token_of (c ∷ cs))))) (below_mark kind.Close cs) third in
    below_if n (eqb c 123) (Some (mark_of kind.Open cs)) (cond (eqb c 125) (Some (mark_of kind.Close cs)) (cond (eqb c 61) (Some (mark_of kind.Is cs)) (cond (eqb c 59) (Some (mark_of kind.End cs)) (cond (eqb c 34) (quoted_of cs) (word_token_of (c ∷ cs)))))) (below_mark kind.Open cs) second

front_some : (c : ℕ) (cs : List ℕ) (t : TokenParts) → token_of (c ∷ cs) ≡ Some t → at_front (c ∷ cs) ≡ Ok (Some (record { left = suc (length cs); token = t }))
front_some c cs t e = rw (e, at_front) refl

front_none : (c : ℕ) (cs : List ℕ) → token_of (c ∷ cs) ≡ None → at_front (c ∷ cs) ≡ Err (suc (length cs))
front_none c cs e = rw (e, at_front) refl

front_shorter : (here : List ℕ) (p : PlacedParts) → at_front here ≡ Ok (Some p) → length p.token.rest < length here
front_shorter [] p e = absurd cc
front_shorter (c ∷ cs) p e = by_token (token_of (c ∷ cs)) refl
  where
    by_token : (o : Option TokenParts) → token_of (c ∷ cs) ≡ o → length p.token.rest < suc (length cs)
    by_token None h = let none = front_none c cs h in absurd cc
    by_token (Some t) h =
        let some = front_some c cs t h in
        let same : record { left = suc (length cs); token = t } ≡ p = cc in
        subst (λ (x : PlacedParts). length x.token.rest < suc (length cs)) same (token_shorter c cs t h)

next_is : (text here : List ℕ) → left_behind text ≡ Ok here → first_token_of text ≡ at_front here
next_is text here e = rw (e, first_token_of) refl

next_broken : (text opened : List ℕ) → left_behind text ≡ Err opened → first_token_of text ≡ Err (length opened)
next_broken text opened e = rw (e, first_token_of) refl

pub next_shorter : (text : List ℕ) (p : PlacedParts) → first_token_of text ≡ Ok (Some p) → length p.token.rest < length text
next_shorter text p e = by_left (left_behind text) refl
  where
    by_left : (l : Result (List ℕ) (List ℕ)) → left_behind text ≡ l → length p.token.rest < length text
    by_left (Err opened) h = let broken = next_broken text opened h in absurd cc
    by_left (Ok here) h =
        let front : at_front here ≡ Ok (Some p) = sym (next_is text here h) ∙ e in
        let gap = gap_le here text ((gaps_end text here).0 h).0 in
        omega (arith, gap, front_shorter here p front)
