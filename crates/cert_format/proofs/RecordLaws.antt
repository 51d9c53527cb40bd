-- Records one behind the other, whatever their kind: what is read is spelled so and in order, and what is spelled so
-- and in order is read.
use Rattle.std.proofs.Common.{◌≡◌, ℕ, zero, suc, List, [], ◌∷◌, ◌++◌, length, slice_get, Some, Result, Ok, refl, ap, subst, ◌∙◌, append_assoc, arith, zero-lt-suc, suc-le-suc, le_of_suc-le-suc}
use Rattle.std.specs.List.{flat_map, AllByRecursion}
use Rattle.std.proofs.lemmas.List.Concat.{flat_map-cons}
use Rattle.sight_names.specs.declared.faults.CertFault.{CertFault}
use Rattle.sight_names.specs.Order.{Ascends}
use Rattle.cert_format.specs.Reading.{◌>>=◌, records_at}
use Rattle.cert_format.proofs.FieldLaws.{IsBytes, bind_ok, ok_is, Takes, Takes-then}
use Rattle.math_base.proofs.Options.{some_is_same}

module _ {X K : Type 0} (one : K → List ℕ → Result (X × List ℕ) CertFault) (key : X → K) (text : X → List ℕ) (Fits : X → Type 0) (After : K → X → Type 0) where
  -- each comes after the one before it, the first after this key
  abbrev pub IsChain : K → List X → Type 0
  IsChain k [] = Unit {0}
  IsChain k (x ∷ xs) = After k x × IsChain (key x) xs

  -- a record that is read is spelled so, fits, and comes after the one before it; and one that does is read
  abbrev pub TakesOne : Type 0
  TakesOne = (k : K) (bytes : List ℕ) (x : X × List ℕ) → IsBytes bytes → one k bytes ≡ Ok x → Takes bytes (text x.0) x.1 × Fits x.0 × After k x.0

  abbrev pub ReadsOne : Type 0
  ReadsOne = (k : K) (x : X) (rest : List ℕ) → Fits x → After k x → one k (text x ++ rest) ≡ Ok (x, rest)

  pub record AreTaken (k : K) (n : ℕ) (bytes : List ℕ) (xs : List X) (rest : List ℕ) : Type 0 where
    pub takes : Takes bytes (flat_map text xs) rest
    pub count : length xs ≡ n
    pub fit : AllByRecursion Fits xs
    pub chain : IsChain k xs

  pub records_take : TakesOne → (n : ℕ) (k : K) (bytes : List ℕ) (x : List X × List ℕ) → IsBytes bytes → records_at one key k n bytes ≡ Ok x → AreTaken k n bytes x.0 x.1
  unfolding records_at
  records_take takes_one zero k bytes x fits e =
      let nothing : List X × List ℕ = ([], bytes) in
      subst (λ (y : List X × List ℕ). AreTaken k 0 bytes y.0 y.1) (ok_is nothing x e) (record { takes = record { parts = refl; rest_fits = fits }; count = refl; fit = tt; chain = tt })
  records_take takes_one (suc n) k bytes x fits e =
      let a = bind_ok (one k bytes) (λ first. records_at one key (key first.0) n first.1 >>= λ others. Ok (first.0 ∷ others.0, others.1)) x e in
      let b = bind_ok (records_at one key (key a.0.0) n a.0.1) (λ others. Ok (a.0.0 ∷ others.0, others.1)) x a.2 in
      let first = takes_one k bytes a.0 fits a.1 in
      let second = records_take takes_one n (key a.0.0) a.0.1 b.0 first.0.rest_fits b.1 in
      let both = Takes-then bytes (text a.0.0) a.0.1 (flat_map text b.0.0) b.0.1 first.0 second.takes in
      let made : List X × List ℕ = (a.0.0 ∷ b.0.0, b.0.1) in
      subst (λ (y : List X × List ℕ). AreTaken k (suc n) bytes y.0 y.1) {x = made} (ok_is made x b.2)
      (record { takes = rw flat_map-cons both; count = ap suc second.count; fit = (first.1, second.fit); chain = (first.2, second.chain) })

  pub records_again : ReadsOne → (k : K) (xs : List X) (rest : List ℕ) → AllByRecursion Fits xs → IsChain k xs → records_at one key k (length xs) (flat_map text xs ++ rest) ≡ Ok (xs, rest)
  unfolding records_at
  records_again reads_one k [] rest fits chain = refl
  records_again reads_one k (x ∷ xs) rest fits chain =
      let regrouped : flat_map text (x ∷ xs) ++ rest ≡ text x ++ (flat_map text xs ++ rest) = ap (λ (t : List ℕ). t ++ rest) (flat_map-cons text x xs) ∙ append_assoc (text x) (flat_map text xs) rest in
      ap (records_at one key k (suc (length xs))) regrouped ∙ rw (reads_one k x (flat_map text xs ++ rest) fits.0 chain.0, records_again reads_one (key x) xs rest fits.1 chain.1) refl

  -- ---- a chain ascends

  abbrev pub Carries : Type 0
  Carries = (x y z : X) → After (key x) y → After (key y) z → After (key x) z

  chain_at : Carries → (o : X) (xs : List X) → IsChain (key o) xs → (j : ℕ) (y : X) → slice_get xs j ≡ Some y → After (key o) y
  chain_at carries o [] chain j y h = absurd cc
  chain_at carries o (x ∷ xs) chain zero y h = subst (λ (z : X). After (key o) z) (some_is_same x y h) chain.0
  chain_at carries o (x ∷ xs) chain (suc j) y h = carries o x y chain.0 (chain_at carries x xs chain.1 j y h)

  pub ascends_of_chain : Carries → (k : K) (xs : List X) → IsChain k xs → Ascends (λ x y. After (key x) y) xs
  ascends_of_chain carries k [] chain i j x y lt h g = absurd cc
  ascends_of_chain carries k (o ∷ xs) chain zero zero x y lt h g = absurd (omega arith)
  ascends_of_chain carries k (o ∷ xs) chain zero (suc j) x y lt h g = subst (λ (z : X). After (key z) y) (some_is_same o x h) (chain_at carries o xs chain.1 j y g)
  ascends_of_chain carries k (o ∷ xs) chain (suc i) zero x y lt h g = absurd (omega arith)
  ascends_of_chain carries k (o ∷ xs) chain (suc i) (suc j) x y lt h g = ascends_of_chain carries (key o) xs chain.1 i j x y (le_of_suc-le-suc lt) h g

  chain_behind : (o : X) (xs : List X) → Ascends (λ x y. After (key x) y) (o ∷ xs) → IsChain (key o) xs
  chain_behind o [] ascends = tt
  chain_behind o (x ∷ xs) ascends = (ascends 0 1 o x (zero-lt-suc 0) refl refl, chain_behind x xs (λ i j y z lt h g. ascends (suc i) (suc j) y z (suc-le-suc lt) h g))

  pub chain_of_ascends : (k : K) (xs : List X) → ((x : X) → After k x) → Ascends (λ x y. After (key x) y) xs → IsChain k xs
  chain_of_ascends k [] free ascends = tt
  chain_of_ascends k (x ∷ xs) free ascends = (free x, chain_behind x xs ascends)
