-- Record for record: the first part comes before those that the bytes behind it have.
use Rattle.std.proofs.Common.{◌≡◌, ℕ, zero, suc, ◌-◌, ◌<◌, List, [], ◌∷◌, ◌++◌, map, Some, Result, Ok, Err, refl, arith}
use Rattle.sight_names.specs.declared.faults.CertFault.{CertFault}
use Rattle.cert_format.specs.Reading.{◌>>=◌, records_at}
use Rattle.certificates.proofs.CertParts.Order.{same_read}
use Rattle.certificates.specs.declared.exact_parts.part.Part.{Part}
use Rattle.certificates.specs.ExactParts.Left.{put_before}

-- one more record before those that are read
abbrev cons_read : {X : Type 0} → X → Result (List X × List ℕ) CertFault → Result (List X × List ℕ) CertFault
cons_read x read = read >>= λ xs. Ok (x ∷ xs.0, xs.1)

-- records that are read, as parts, and then what comes behind them, which may go by all of them
module _ {X K : Type 0} (one : K → List ℕ → Result (X × List ℕ) CertFault) (key : X → K) (part : X → Part) where
  abbrev pub told_all : (List X → List ℕ → Result (List Part) CertFault) → Result (List X × List ℕ) CertFault → Result (List Part) CertFault
  told_all next read = read >>= λ xs. next xs.0 xs.1 >>= λ others. Ok (map part xs.0 ++ others)

  pub none_first : (next : List X → List ℕ → Result (List Part) CertFault) (last : K) (n : ℕ) (bytes : List ℕ) → n ≡ 0 → told_all next (records_at one key last n bytes) ≡ next [] bytes
  unfolding records_at
  none_first next last zero bytes z = same_read (next [] bytes)
  none_first next last (suc n) bytes z = absurd (omega (arith, z))

  -- those behind the first
  abbrev behind : (List X → List ℕ → Result (List Part) CertFault) → X → List X → List ℕ → Result (List Part) CertFault
  behind next x xs bytes = next (x ∷ xs) bytes

  by_next : (x : X) (xs : List X) (r : Result (List Part) CertFault) → (r >>= λ others. Ok (map part (x ∷ xs) ++ others)) ≡ put_before (Some (part x)) (r >>= λ others. Ok (map part xs ++ others))
  by_next x xs (Ok others) = refl
  by_next x xs (Err f) = refl

  by_others : (next : List X → List ℕ → Result (List Part) CertFault) (x : X) (r : Result (List X × List ℕ) CertFault) → told_all next (cons_read x r) ≡ put_before (Some (part x)) (told_all (behind next x) r)
  by_others next x (Ok xs) = by_next x xs.0 (next (x ∷ xs.0) xs.1)
  by_others next x (Err f) = refl

  by_first : (next : List X → List ℕ → Result (List Part) CertFault) (n : ℕ) (r : Result (X × List ℕ) CertFault)
      → told_all next (r >>= λ x. cons_read x.0 (records_at one key (key x.0) n x.1)) ≡ (r >>= λ x. put_before (Some (part x.0)) (told_all (behind next x.0) (records_at one key (key x.0) n x.1)))
  by_first next n (Ok x) = by_others next x.0 (records_at one key (key x.0) n x.1)
  by_first next n (Err f) = refl

  pub one_first : (next : List X → List ℕ → Result (List Part) CertFault) (last : K) (n : ℕ) (bytes : List ℕ) → 0 < n
      → told_all next (records_at one key last n bytes) ≡ (one last bytes >>= λ x. put_before (Some (part x.0)) (told_all (λ xs rest. next (x.0 ∷ xs) rest) (records_at one key (key x.0) (n - 1) x.1)))
  unfolding records_at
  one_first next last zero bytes some = absurd (omega (arith, some))
  one_first next last (suc n) bytes some = let less : suc n - 1 ≡ n = omega arith in rw less (by_first next n (one last bytes))
