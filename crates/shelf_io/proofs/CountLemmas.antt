-- How a count that stands still at its end rises, and what holds whatever a call answers.
use Rattle.std.proofs.Common.{◌≡◌, ◌⊎◌, ◌+◌, ◌<◌, ◌≤◌, ℕ, min, inl, inr, Result, Ok, Err, OnOk, OnErr, arith}
use Rattle.std.proofs.Math.Nat.{eq-or-lt_of_le}

-- a count goes up by one, or is at its end
pub rises : (n m top : ℕ) → m ≡ min (n + 1) top → (n < m) ⊎ (m ≡ top)
rises n m top e =
    let fits : m ≤ top = omega arith in
    elim (eq-or-lt_of_le fits) as (λ _. (n < m) ⊎ (m ≡ top)) [ inl ended ↦ inr ended | inr below ↦ inl (omega arith) ]

pub whatever_ok : {T E P : Type 0} (r : Result T E) → P → OnOk r P
whatever_ok (Ok v) p = p
whatever_ok (Err e) p = tt

pub whatever_err : {T E P : Type 0} (r : Result T E) → P → OnErr r P
whatever_err (Ok v) p = tt
whatever_err (Err e) p = p
