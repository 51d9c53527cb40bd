-- One token at each place: what may come behind it, where it may stand there.
use Rattle.std.proofs.Common.{◌≡◌, ◌⊎◌, inl, inr, ℕ, List, [], ◌∷◌, ◌++◌, get_or, drop, refl, sym, ap, subst}
use Rattle.udmf_text.specs.declared.text_tokens.token.Kind.TheVariants.{Close, Is, End, Word}
use Rattle.udmf_text.specs.TextTokens.Tokens.{mark_of}
use Rattle.udmf_text.specs.TextTokens.Text.{PlacedParts}
use Rattle.udmf_text.specs.Told.{PlacedPart}
use Rattle.udmf_text.specs.Grammar.{IsMark, IsValue}
use Rattle.udmf_text.proofs.Grammar.Explained.{ToCome, Viable, Behind as BehindToken}
use Rattle.udmf_text.proofs.Grammar.Places.{Then, silent, Items, Pairs, Ended, given_at, Value, Equals, Named, closed_at, pairs_in}

first_is : (t u : PlacedParts) (ts us : List PlacedParts) → t ∷ ts ≡ u ∷ us → t ≡ u
first_is t u ts us e = ap (λ xs. get_or xs 0 t) e

others_are : (t u : PlacedParts) (ts us : List PlacedParts) → t ∷ ts ≡ u ∷ us → ts ≡ us
others_are t u ts us e = ap (λ xs. drop 1 xs) e

-- ---- a token that passes, and one that doesn't

into_then : (test : PlacedParts → Type 0) (made : PlacedParts → List PlacedPart) (X : PlacedParts → ToCome) (t : PlacedParts) → test t → (ts : List PlacedParts) (ps : List PlacedPart) → X t ts ps → Then test made X (t ∷ ts) (made t ++ ps)
into_then test made X t p ts ps x = record { first = t; passes = p; more = ts; others = ps; spelled = refl; parts = refl; behind = x }

out_of_then : (test : PlacedParts → Type 0) (made : PlacedParts → List PlacedPart) (X : PlacedParts → ToCome) (t : PlacedParts) (ts : List PlacedParts) (ps : List PlacedPart) → Then test made X (t ∷ ts) ps → (qs : List PlacedPart) × X t ts qs
out_of_then test made X t ts ps x =
    let one : X x.first ts x.others = subst (λ (us : List PlacedParts). X x.first us x.others) (sym (others_are t x.first ts x.more x.spelled)) x.behind in
    (x.others, subst (λ (u : PlacedParts). X u ts x.others) (sym (first_is t x.first ts x.more x.spelled)) one)

pub no_then : (test : PlacedParts → Type 0) (made : PlacedParts → List PlacedPart) (X : PlacedParts → ToCome) (t : PlacedParts) → (test t → ⊥) → (ts : List PlacedParts) (ps : List PlacedPart) → Then test made X (t ∷ ts) ps → ⊥
no_then test made X t never ts ps x = never (subst test (sym (first_is t x.first ts x.more x.spelled)) x.passes)

pub then_some : (test : PlacedParts → Type 0) (made : PlacedParts → List PlacedPart) (X : PlacedParts → ToCome) (ps : List PlacedPart) → Then test made X [] ps → ⊥
then_some test made X ps x = let e : [] ≡ x.first ∷ x.more = x.spelled in absurd cc

pub behind_then : (test : PlacedParts → Type 0) (made : PlacedParts → List PlacedPart) (X : PlacedParts → ToCome) (t : PlacedParts) → test t → BehindToken (Then test made X) (X t) t (made t)
behind_then test made X t p = record { into = into_then test made X t p; out = out_of_then test made X t }

-- one of two that may come
abbrev pub Either : ToCome → ToCome → List PlacedParts → List PlacedPart → Type 0
Either A B ts ps = A ts ps ⊎ B ts ps

pub behind_left : (A B Y : ToCome) (t : PlacedParts) (made : List PlacedPart) → BehindToken A Y t made → ((ts : List PlacedParts) (ps : List PlacedPart) → B (t ∷ ts) ps → ⊥) → BehindToken (Either A B) Y t made
behind_left A B Y t made b never = record { into = λ ts ps y. inl (b.into ts ps y); out = out }
  where
    out : (ts : List PlacedParts) (ps : List PlacedPart) → Either A B (t ∷ ts) ps → (qs : List PlacedPart) × Y ts qs
    out ts ps (inl x) = b.out ts ps x
    out ts ps (inr x) = absurd (never ts ps x)

pub behind_right : (A B Y : ToCome) (t : PlacedParts) (made : List PlacedPart) → BehindToken B Y t made → ((ts : List PlacedParts) (ps : List PlacedPart) → A (t ∷ ts) ps → ⊥) → BehindToken (Either A B) Y t made
behind_right A B Y t made b never = record { into = λ ts ps y. inr (b.into ts ps y); out = out }
  where
    out : (ts : List PlacedParts) (ps : List PlacedPart) → Either A B (t ∷ ts) ps → (qs : List PlacedPart) × Y ts qs
    out ts ps (inl x) = absurd (never ts ps x)
    out ts ps (inr x) = b.out ts ps x

pub neither : (A B : ToCome) (ts : List PlacedParts) (ps : List PlacedPart) → (A ts ps → ⊥) → (B ts ps → ⊥) → Either A B ts ps → ⊥
neither A B ts ps a b (inl x) = a x
neither A B ts ps a b (inr x) = b x

-- ---- at each place some tokens may come

viable_then : (test : PlacedParts → Type 0) (made : PlacedParts → List PlacedPart) (X : PlacedParts → ToCome) (t : PlacedParts) → test t → Viable (X t) → Viable (Then test made X)
viable_then test made X t p v = record { tokens = t ∷ v.tokens; parts = made t ++ v.parts; fits = into_then test made X t p v.tokens v.parts v.fits }

pub viable_items : (total : ℕ) → Viable (Items total)
viable_items total = record { tokens = []; parts = []; fits = record { items = []; are = record { each = tt; spelled = refl }; parts = refl } }

pub viable_pairs : (total : ℕ) → Viable (Pairs total)
viable_pairs total =
    let close : PlacedParts = record { left = 0; token = mark_of Close [] } in
    let v = viable_then (IsMark Close) (closed_at total) (λ _. Items total) close refl (viable_items total) in
    record { tokens = v.tokens; parts = v.parts; fits = pairs_in total v.tokens v.parts (inl v.fits) }

pub viable_ended : (X : ToCome) → Viable X → Viable (Ended X)
viable_ended X v =
    let end : PlacedParts = record { left = 0; token = mark_of End [] } in
    viable_then (IsMark End) silent (λ _. X) end refl v

pub viable_value : (total : ℕ) (key : List ℕ) (X : ToCome) → Viable X → Viable (Value total key X)
viable_value total key X v =
    let word : PlacedParts = record { left = 0; token = mark_of Word [] } in
    viable_then IsValue (given_at total key) (λ _. Ended X) word refl (viable_ended X v)

pub viable_equals : (total : ℕ) (key : List ℕ) (X : ToCome) → Viable X → Viable (Equals total key X)
viable_equals total key X v =
    let is : PlacedParts = record { left = 0; token = mark_of Is [] } in
    viable_then (IsMark Is) silent (λ _. Value total key X) is refl (viable_value total key X v)

pub viable_named : (total : ℕ) (name : List ℕ) → Viable (Named total name)
viable_named total name =
    let v = viable_equals total name (Items total) (viable_items total) in
    record { tokens = v.tokens; parts = v.parts; fits = inr v.fits }
