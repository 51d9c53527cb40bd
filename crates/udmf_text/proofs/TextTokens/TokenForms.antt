-- That the grammar of strings and words tells what is read.
use Rattle.std.proofs.Common.{◌≡◌, ◌≢◌, ◌⊎◌, inl, inr, ℕ, suc, ◌+◌, ◌-◌, eqb, Bool, true, false, cond, List, [], ◌∷◌, ◌++◌, length, take, drop, Option, Some, None, refl, sym, ap, ◌∙◌, subst, arith, rules, length-append}
use Rattle.std.proofs.Math.Seq.{drop-append_seam, take-append_seam}
use Rattle.std.proofs.lemmas.List.{take-append-drop}
use Rattle.std.proofs.lemmas.Bool.{true≢false, ne_eqb, cases_Bool}
use Rattle.std.proofs.lemmas.Bool.Decides.{eqb_tells}
use Rattle.udmf_text.specs.declared.text_tokens.token.Kind.TheVariants as kind
use Rattle.udmf_text.specs.TextTokens.Tokens.{TokenParts, ends_word, word_len, behind_quote, quoted_of, word_token_of}
use Rattle.udmf_text.specs.TextTokens.TokenLaws.{IsQuoted, nothing, plain, escaped, IsString, StringsEnd, AreInWord, stops_word, IsWord, WordsAreLongest}

plain_goes : (c : ℕ) (cs : List ℕ) → eqb c 34 ≡ false → eqb c 92 ≡ false → behind_quote false (c ∷ cs) ≡ behind_quote false cs
plain_goes c cs q b = ap (λ x. cond x (Some cs) (behind_quote (eqb c 92) cs)) q ∙ ap (λ x. behind_quote x cs) b

quote_found : (bytes rest : List ℕ) → IsQuoted bytes → behind_quote false (bytes ++ 34 ∷ rest) ≡ Some rest
quote_found bytes rest (nothing e) = rw e refl
quote_found bytes rest (plain c more e q b i) = rw e (plain_goes c (more ++ 34 ∷ rest) (ne_eqb c 34 q) (ne_eqb c 92 b) ∙ quote_found more rest i)
quote_found bytes rest (escaped c more e i) = rw e (quote_found more rest i)

record Closed (more : List ℕ) : Type 0 where
  bytes : List ℕ
  rest : List ℕ
  is : more ≡ bytes ++ 34 ∷ rest
  fine : IsQuoted bytes

closes : (more : List ℕ) → Closed more ⊎ (behind_quote false more ≡ None)
closes [] = inr refl
closes (c ∷ []) = by_quote (eqb_tells c 34)
  where
    by_quote : ((eqb c 34 ≡ true) × (c ≡ 34)) ⊎ ((eqb c 34 ≡ false) × (c ≢ 34)) → Closed (c ∷ []) ⊎ (behind_quote false (c ∷ []) ≡ None)
    by_quote (inl t) = inl (record { bytes = []; rest = []; is = ap (λ x. x ∷ []) t.1; fine = nothing refl })
    by_quote (inr t) = inr (ap (λ x. cond x (Some []) None) t.0)
closes (c ∷ d ∷ cs) = by_quote (eqb_tells c 34) (eqb_tells c 92) (closes (d ∷ cs)) (closes cs)
  where
    by_quote : ((eqb c 34 ≡ true) × (c ≡ 34)) ⊎ ((eqb c 34 ≡ false) × (c ≢ 34)) → ((eqb c 92 ≡ true) × (c ≡ 92)) ⊎ ((eqb c 92 ≡ false) × (c ≢ 92)) → Closed (d ∷ cs) ⊎ (behind_quote false (d ∷ cs) ≡ None) → Closed cs ⊎ (behind_quote false cs ≡ None) → Closed (c ∷ d ∷ cs) ⊎ (behind_quote false (c ∷ d ∷ cs) ≡ None)
    by_quote (inl t) u p q = inl (record { bytes = []; rest = d ∷ cs; is = ap (λ x. x ∷ d ∷ cs) t.1; fine = nothing refl })
    by_quote (inr t) (inl u) p (inl q) = inl (record { bytes = 92 ∷ d ∷ q.bytes; rest = q.rest; is = rw (u.1, ← q.is) refl; fine = escaped d q.bytes refl q.fine })
    by_quote (inr t) (inl u) p (inr q) = inr (rw u.1 q)
    by_quote (inr t) (inr u) (inl p) q = inl (record { bytes = c ∷ p.bytes; rest = p.rest; is = ap (λ x. c ∷ x) p.is; fine = plain c p.bytes refl t.1 u.1 p.fine })
    by_quote (inr t) (inr u) (inr p) q = inr (plain_goes c (d ∷ cs) t.0 u.0 ∙ p)

string_is : (bytes rest : List ℕ) → IsQuoted bytes → quoted_of (bytes ++ 34 ∷ rest) ≡ Some (record { kind = kind.Quoted; bytes = bytes; rest = rest })
string_is bytes rest i =
    let more : List ℕ = bytes ++ 34 ∷ rest in
    let len : length more - length rest - 1 ≡ length bytes = omega (arith, length-append bytes (34 ∷ rest)) in
    let found = quote_found bytes rest i in
    let cut : take (length more - length rest - 1) more ≡ bytes = ap (λ n. take n more) len ∙ take-append_seam bytes (34 ∷ rest) in
    rw found (ap (λ (b : List ℕ). Some (record { kind = kind.Quoted; bytes = b; rest = rest })) cut)

pub strings_end : StringsEnd
strings_end more t = (λ e. forward e (closes more), backward)
  where
    forward : quoted_of more ≡ Some t → Closed more ⊎ (behind_quote false more ≡ None) → IsString more t
    forward e (inl c) =
        let made : TokenParts = record { kind = kind.Quoted; bytes = c.bytes; rest = c.rest } in
        let told : quoted_of more ≡ Some made = rw c.is (string_is c.bytes c.rest c.fine) in
        let same : made ≡ t = cc in
        subst (IsString more) same (record { kind = refl; is = c.is; bytes = c.fine })
    forward e (inr n) = let told : quoted_of more ≡ None = rw n refl in absurd cc

    backward : IsString more t → quoted_of more ≡ Some t
    backward s =
        let told : quoted_of more ≡ Some (record { kind = kind.Quoted; bytes = t.bytes; rest = t.rest }) = rw s.is (string_is t.bytes t.rest s.bytes) in
        told ∙ ap (λ k. Some (record { kind = k; bytes = t.bytes; rest = t.rest })) (sym s.kind)

word_len_is : (bytes rest : List ℕ) → AreInWord bytes rest → stops_word rest ≡ true → word_len (bytes ++ rest) ≡ length bytes
word_len_is [] [] a s = refl
word_len_is [] (c ∷ cs) a s = ap (λ x. cond x 0 (word_len cs + 1)) s
word_len_is (c ∷ cs) rest a s = ap (λ x. cond x 0 (word_len (cs ++ rest) + 1)) a.0 ∙ omega (arith, word_len_is cs rest a.1 s)

-- what stands at the front of a word's length
abbrev StandsAt : List ℕ → ℕ → Type 0
StandsAt text n = AreInWord (take n text) (drop n text) × (stops_word (drop n text) ≡ true)

in_word : (text : List ℕ) → StandsAt text (word_len text)
in_word [] = (tt, refl)
in_word (c ∷ cs) = by_end (ends_word c cs) refl (in_word cs)
  where
    by_end : (b : Bool) → ends_word c cs ≡ b → StandsAt cs (word_len cs) → StandsAt (c ∷ cs) (cond b 0 (word_len cs + 1))
    by_end true e more = (tt, e)
    by_end false e more =
        let first : ends_word c (take (word_len cs) cs ++ drop (word_len cs) cs) ≡ false = ap (λ x. ends_word c x) (take-append-drop (word_len cs) cs) ∙ e in
        let one : suc (word_len cs) ≡ word_len cs + 1 = omega arith in
        subst (StandsAt (c ∷ cs)) one ((first, more.0), more.1)

word_some : (text : List ℕ) → eqb (word_len text) 0 ≡ false → take (word_len text) text ≢ []
word_some [] h = absurd (true≢false h)
word_some (c ∷ cs) h = by_end (ends_word c cs) h
  where
    by_end : (b : Bool) → eqb (cond b 0 (word_len cs + 1)) 0 ≡ false → take (cond b 0 (word_len cs + 1)) (c ∷ cs) ≢ []
    by_end true e = absurd (true≢false e)
    by_end false e =
        let one : suc (word_len cs) ≡ word_len cs + 1 = omega arith in
        subst (λ n. take n (c ∷ cs) ≢ []) one (λ z. absurd (search rules))

abbrev word_parts : List ℕ → List ℕ → Option TokenParts
word_parts b r = Some (record { kind = kind.Word; bytes = b; rest = r })

abbrev word_at : List ℕ → ℕ → Option TokenParts
word_at text n = cond (eqb n 0) None (word_parts (take n text) (drop n text))

word_is : (bytes rest : List ℕ) → AreInWord bytes rest → stops_word rest ≡ true → bytes ≢ [] → word_token_of (bytes ++ rest) ≡ word_parts bytes rest
word_is [] rest a s some = absurd (some refl)
word_is (c ∷ cs) rest a s some =
    let bytes : List ℕ = c ∷ cs in
    let text : List ℕ = bytes ++ rest in
    let len : word_len text ≡ length bytes = word_len_is bytes rest a s in
    let more : eqb (length bytes) 0 ≡ false = ne_eqb (length bytes) 0 (λ e. omega arith) in
    let at : word_token_of text ≡ word_at text (length bytes) = ap (word_at text) len in
    let there : word_at text (length bytes) ≡ word_parts (take (length bytes) text) (drop (length bytes) text) = ap (λ b. cond b None (word_parts (take (length bytes) text) (drop (length bytes) text))) more in
    let cut : word_parts (take (length bytes) text) (drop (length bytes) text) ≡ word_parts bytes (drop (length bytes) text) = ap (λ (b : List ℕ). word_parts b (drop (length bytes) text)) (take-append_seam bytes rest) in
    let left : word_parts bytes (drop (length bytes) text) ≡ word_parts bytes rest = ap (word_parts bytes) (drop-append_seam bytes rest) in
    at ∙ (there ∙ (cut ∙ left))

pub words_are_longest : WordsAreLongest
words_are_longest text t = (λ e. forward e (cases_Bool (eqb (word_len text) 0)), backward)
  where
    made : TokenParts
    made = record { kind = kind.Word; bytes = take (word_len text) text; rest = drop (word_len text) text }

    forward : word_token_of text ≡ Some t → (eqb (word_len text) 0 ≡ true) ⊎ (eqb (word_len text) 0 ≡ false) → IsWord text t
    forward e (inl h) = let told : word_token_of text ≡ None = ap (λ b. cond b None (Some made)) h in absurd cc
    forward e (inr h) =
        let told : word_token_of text ≡ Some made = ap (λ b. cond b None (Some made)) h in
        let same : made ≡ t = cc in
        let stands = in_word text in
        subst (IsWord text) same (record { kind = refl; is = sym (take-append-drop (word_len text) text); some = word_some text h; bytes = stands.0; longest = stands.1 })

    backward : IsWord text t → word_token_of text ≡ Some t
    backward s =
        let told : word_token_of text ≡ Some (record { kind = kind.Word; bytes = t.bytes; rest = t.rest }) = rw s.is (word_is t.bytes t.rest s.bytes s.longest s.some) in
        told ∙ ap (λ k. Some (record { kind = k; bytes = t.bytes; rest = t.rest })) (sym s.kind)
