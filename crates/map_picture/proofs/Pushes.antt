-- A text that is made in several pushes.
use Rattle.std.proofs.Common.{◌≡◌, ℕ, List, ◌++◌, Result, Ok, Err, OnOk, ◌∙◌, ap, sym}
use Rattle.std.proofs.lemmas.List.{append_assoc}

pub joined : (old mid new front words : List ℕ) → mid ≡ old ++ front → new ≡ mid ++ words → new ≡ old ++ (front ++ words)
joined old mid new front words first second = second ∙ ap (λ l. l ++ words) first ∙ append_assoc old front words

-- the last push, which may fail
pub pushed : {E : Type 0} (r : Result (Unit {0}) E) (old mid new front words : List ℕ) → mid ≡ old ++ front → OnOk r (new ≡ mid ++ words) → OnOk r (new ≡ old ++ (front ++ words))
pushed (Ok x) old mid new front words first second = joined old mid new front words first second
pushed (Err e) old mid new front words first second = tt

-- one step of a loop that writes what is left
pub stepped : (out new words rest all goal : List ℕ) → new ≡ out ++ words → all ≡ words ++ rest → out ++ all ≡ goal → new ++ rest ≡ goal
stepped out new words rest all goal pushed is left = ap (λ (l : List ℕ). l ++ rest) pushed ∙ append_assoc out words rest ∙ ap (λ (l : List ℕ). out ++ l) (sym is) ∙ left
