-- Reading records one behind the other, as a loop does.
use Rattle.std.proofs.Common.{◌≡◌, ℕ, suc, ◌-◌, ◌+◌, ◌≤◌, ◌<◌, List, [], ◌∷◌, ◌++◌, Result, Ok, Err, refl, sym, ap, ◌∙◌, append_assoc, arith}
use Rattle.std.proofs.lemmas.List.{append-nil}
use Rattle.sight_names.specs.declared.faults.CertFault.{CertFault}
use Rattle.sight_names.specs.declared.faults.CertFault.TheVariants as faults
use Rattle.cert_format.specs.Reading.{◌>>=◌, FailsCert, records_at}

-- what was read before, and what is still read
abbrev pub with_front : {X : Type 0} → List X → Result (List X × List ℕ) CertFault → Result (List X × List ℕ) CertFault
with_front front read = read >>= λ x. Ok (front ++ x.0, x.1)

regroup : {X : Type 0} (front : List X) (n : X) (read : Result (List X × List ℕ) CertFault) → with_front front (read >>= λ x. Ok (n ∷ x.0, x.1)) ≡ with_front (front ++ n ∷ []) read
regroup {X} front n (Ok x) = ap (λ (ns : List X). Ok (ns, x.1)) (simp append_assoc)
regroup front n (Err f) = refl

-- an answer that is this fault
pub fails : {Y : Type 0} (f : CertFault) (read : Result Y CertFault) → read ≡ Err f → FailsCert f read
fails (faults.Memory _) read h = tt
fails f read h = h

module _ {X K : Type 0} (one : K → List ℕ → Result (X × List ℕ) CertFault) (key : X → K) where
  pub goes_on : (front : List X) (last : K) (count i : ℕ) (bytes : List ℕ) (n : X) (after : List ℕ) (total : Result (List X × List ℕ) CertFault) → i < count → one last bytes ≡ Ok (n, after)
      → with_front front (records_at one key last (count - i) bytes) ≡ total → with_front (front ++ n ∷ []) (records_at one key (key n) (count - (i + 1)) after) ≡ total
  unfolding records_at
  goes_on front last count i bytes n after total lt h so_far =
      let k : count - i ≡ suc (count - (i + 1)) = omega arith in
      let one_more : with_front front (records_at one key last (count - i) bytes) ≡ with_front (front ++ n ∷ []) (records_at one key (key n) (count - (i + 1)) after) = rw (k, h) (regroup front n (records_at one key (key n) (count - (i + 1)) after)) in
      sym one_more ∙ so_far

  stops : (front : List X) (last : K) (count i : ℕ) (bytes : List ℕ) (f : CertFault) (total : Result (List X × List ℕ) CertFault) → i < count → one last bytes ≡ Err f
      → with_front front (records_at one key last (count - i) bytes) ≡ total → total ≡ Err f
  unfolding records_at
  stops front last count i bytes f total lt h so_far =
      let k : count - i ≡ suc (count - (i + 1)) = omega arith in
      let one_more : with_front front (records_at one key last (count - i) bytes) ≡ Err f = rw (k, h) refl in
      sym so_far ∙ one_more

  pub ends : (e : CertFault) (front : List X) (last : K) (count i : ℕ) (bytes : List ℕ) (total : Result (List X × List ℕ) CertFault) → i < count → FailsCert e (one last bytes)
      → with_front front (records_at one key last (count - i) bytes) ≡ total → FailsCert e total
  ends (faults.Memory _) front last count i bytes total lt h so_far = tt
  ends f front last count i bytes total lt h so_far = stops front last count i bytes f total lt h so_far

  -- the same of a record that takes no memory
  pub breaks : (e : CertFault) (front : List X) (last : K) (count i : ℕ) (bytes : List ℕ) (total : Result (List X × List ℕ) CertFault) → i < count → one last bytes ≡ Err e
      → with_front front (records_at one key last (count - i) bytes) ≡ total → FailsCert e total
  breaks e front last count i bytes total lt h so_far = fails e total (stops front last count i bytes e total lt h so_far)

  pub is_done : (front : List X) (last : K) (count i : ℕ) (bytes : List ℕ) (total : Result (List X × List ℕ) CertFault) → count ≤ i → with_front front (records_at one key last (count - i) bytes) ≡ total → total ≡ Ok (front, bytes)
  unfolding records_at
  is_done front last count i bytes total le so_far =
      let k : count - i ≡ 0 = omega arith in
      let nothing_more : with_front front (records_at one key last (count - i) bytes) ≡ Ok (front, bytes) = rw k (ap (λ (ns : List X). Ok (ns, bytes)) (append-nil front)) in
      sym so_far ∙ nothing_more
