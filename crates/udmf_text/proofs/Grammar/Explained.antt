-- What is still to come at a place in a text, and how one token more goes into it.
use Rattle.std.proofs.Common.{◌≡◌, ℕ, ◌-◌, List, [], ◌∷◌, ◌++◌, Option, Some, None, Result, Ok, Err, refl, sym, subst, arith}
use Rattle.std.proofs.lemmas.List.{append_assoc}
use Rattle.udmf_text.specs.TextTokens.Text.{PlacedParts, first_token_of}
use Rattle.udmf_text.specs.Told.{PlacedPart}
use Rattle.udmf_text.specs.Grammar.{Begins, no_token, one_token}

-- tokens that may come there, and the parts that they give
abbrev pub ToCome : Type 1
ToCome = List PlacedParts → List PlacedPart → Type 0

pub record Whole (X : ToCome) (text : List ℕ) (parts : List PlacedPart) : Type 0 where
  pub tokens : List PlacedParts
  pub rest : List ℕ
  pub begins : Begins rest text tokens
  pub ends : first_token_of rest ≡ Ok None
  pub fits : X tokens parts

abbrev pub Breaks : ℕ → ToCome → List PlacedParts → Result (Option PlacedParts) ℕ → ℕ → Type 0
Breaks total X before (Err left) at = at ≡ total - left
Breaks total X before (Ok None) at = (at ≡ total) × ((ps : List PlacedPart) → X before ps → ⊥)
Breaks total X before (Ok (Some t)) at = (at ≡ total - t.left) × ((more : List PlacedParts) (ps : List PlacedPart) → X (before ++ t ∷ more) ps → ⊥)

pub record Broken (total : ℕ) (X : ToCome) (text : List ℕ) (parts : List PlacedPart) (at : ℕ) : Type 0 where
  pub before : List PlacedParts
  pub rest : List ℕ
  pub begins : Begins rest text before
  pub more : List PlacedParts
  pub others : List PlacedPart
  pub fits : X (before ++ more) (parts ++ others)
  pub breaks : Breaks total X before (first_token_of rest) at

-- parts and the first fault, if there is one, are those of a text of which this is left
abbrev pub Explains : ℕ → ToCome → List ℕ → List PlacedPart → Option ℕ → Type 0
Explains total X text parts None = Whole X text parts
Explains total X text parts (Some at) = Broken total X text parts at

-- some tokens may come
pub record Viable (X : ToCome) : Type 0 where
  pub tokens : List PlacedParts
  pub parts : List PlacedPart
  pub fits : X tokens parts

-- ---- a fault at the front

at_front : (total : ℕ) (X : ToCome) (text : List ℕ) (at : ℕ) → Viable X → Breaks total X [] (first_token_of text) at → Explains total X text [] (Some at)
at_front total X text at v b = record { before = []; rest = text; begins = no_token refl refl; more = v.tokens; others = v.parts; fits = v.fits; breaks = b }

pub unread : (total : ℕ) (X : ToCome) (text : List ℕ) (left : ℕ) → Viable X → first_token_of text ≡ Err left → Explains total X text [] (Some (total - left))
unread total X text left v e = at_front total X text (total - left) v (subst (λ r. Breaks total X [] r (total - left)) (sym e) refl)

pub early : (total : ℕ) (X : ToCome) (text : List ℕ) → Viable X → first_token_of text ≡ Ok None → ((ps : List PlacedPart) → X [] ps → ⊥) → Explains total X text [] (Some (total - 0))
early total X text v e never = at_front total X text (total - 0) v (subst (λ r. Breaks total X [] r (total - 0)) (sym e) (omega arith, never))

pub wrong : (total : ℕ) (X : ToCome) (text : List ℕ) (t : PlacedParts) → Viable X → first_token_of text ≡ Ok (Some t) → ((more : List PlacedParts) (ps : List PlacedPart) → X (t ∷ more) ps → ⊥) → Explains total X text [] (Some (total - t.left))
wrong total X text t v e never = at_front total X text (total - t.left) v (subst (λ r. Breaks total X [] r (total - t.left)) (sym e) (refl, never))

pub ended : (total : ℕ) (X : ToCome) (text : List ℕ) → first_token_of text ≡ Ok None → X [] [] → Explains total X text [] None
ended total X text e fits = record { tokens = []; rest = text; begins = no_token refl refl; ends = e; fits = fits }

-- ---- a token more in front

-- before this token may come what may come behind it, with some parts more
pub record Behind (X Y : ToCome) (t : PlacedParts) (made : List PlacedPart) : Type 0 where
  pub into : (ts : List PlacedParts) (ps : List PlacedPart) → Y ts ps → X (t ∷ ts) (made ++ ps)
  pub out : (ts : List PlacedParts) (ps : List PlacedPart) → X (t ∷ ts) ps → (qs : List PlacedPart) × Y ts qs

push_breaks : (total : ℕ) (X Y : ToCome) (t : PlacedParts) (made : List PlacedPart) (before : List PlacedParts) (at : ℕ) → Behind X Y t made → (r : Result (Option PlacedParts) ℕ) → Breaks total Y before r at → Breaks total X (t ∷ before) r at
push_breaks total X Y t made before at b (Err left) h = h
push_breaks total X Y t made before at b (Ok None) h = (h.0, λ ps x. let y = b.out before ps x in h.1 y.0 y.1)
push_breaks total X Y t made before at b (Ok (Some u)) h = (h.0, λ more ps x. let y = b.out (before ++ u ∷ more) ps x in h.1 more y.0 y.1)

pub push : (total : ℕ) (X Y : ToCome) (text : List ℕ) (t : PlacedParts) (made : List PlacedPart) → Behind X Y t made → first_token_of text ≡ Ok (Some t) → (parts : List PlacedPart) (fault : Option ℕ) → Explains total Y t.token.rest parts fault → Explains total X text (made ++ parts) fault
push total X Y text t made b found parts None w = record { tokens = t ∷ w.tokens; rest = w.rest; begins = one_token t w.tokens found refl w.begins; ends = w.ends; fits = b.into w.tokens parts w.fits }
push total X Y text t made b found parts (Some at) w =
    let fits : X (t ∷ (w.before ++ w.more)) (made ++ (parts ++ w.others)) = b.into (w.before ++ w.more) (parts ++ w.others) w.fits in
    record {
      before = t ∷ w.before;
      rest = w.rest;
      begins = one_token t w.before found refl w.begins;
      more = w.more;
      others = w.others;
      fits = subst (λ ps. X (t ∷ (w.before ++ w.more)) ps) (sym (append_assoc made parts w.others)) fits;
      breaks = push_breaks total X Y t made w.before at b (first_token_of w.rest) w.breaks;
    }

-- two words for what may come
same_breaks : (total : ℕ) (X Y : ToCome) (before : List PlacedParts) (at : ℕ) → ((ts : List PlacedParts) (ps : List PlacedPart) → Y ts ps → X ts ps) → (r : Result (Option PlacedParts) ℕ) → Breaks total X before r at → Breaks total Y before r at
same_breaks total X Y before at back (Err left) h = h
same_breaks total X Y before at back (Ok None) h = (h.0, λ ps y. h.1 ps (back before ps y))
same_breaks total X Y before at back (Ok (Some t)) h = (h.0, λ more ps y. h.1 more ps (back (before ++ t ∷ more) ps y))

pub same : (total : ℕ) (X Y : ToCome) (text : List ℕ) → ((ts : List PlacedParts) (ps : List PlacedPart) → X ts ps → Y ts ps) → ((ts : List PlacedParts) (ps : List PlacedPart) → Y ts ps → X ts ps) → (parts : List PlacedPart) (fault : Option ℕ) → Explains total X text parts fault → Explains total Y text parts fault
same total X Y text there back parts None w = record { tokens = w.tokens; rest = w.rest; begins = w.begins; ends = w.ends; fits = there w.tokens parts w.fits }
same total X Y text there back parts (Some at) w = record { before = w.before; rest = w.rest; begins = w.begins; more = w.more; others = w.others; fits = there (w.before ++ w.more) (parts ++ w.others) w.fits; breaks = same_breaks total X Y w.before at back (first_token_of w.rest) w.breaks }
