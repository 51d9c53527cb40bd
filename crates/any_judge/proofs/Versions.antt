-- The first six bytes tell whether a certificate of version 3 begins, and so by which grammar bytes are read.
use Rattle.std.proofs.Common.{◌≡◌, ℕ, ◌≤◌, List, [], ◌++◌, length, take, drop, Bool, true, false, Result, Ok, Err, refl, sym, ap, subst, arith, ◌∙◌}
use Rattle.std.specs.Prelude.{◌==◌}
use Rattle.std.specs.Int.{Width, w16, w32, byte_len, from_le_bytes}
use Rattle.std.proofs.lemmas.Bool.{le-ltb}
use Rattle.std.proofs.lemmas.List.{append-nil, length-append, length-drop, take-append-le, drop-append-le}
use Rattle.sight_names.specs.declared.faults.CertFault.{CertFault}
use Rattle.sight_names.specs.declared.faults.CertFault.TheVariants as faults
use Rattle.cert_format.specs.declared.cert.Sizes.{Sizes}
use Rattle.cert_format.specs.Reading.{◌>>=◌, cert_magic, magic_at, number_at, passed}
use Rattle.cert_format.specs.CertGroups.Reading.{any_at}
use Rattle.certificates.specs.CertExact.Reading.{exact_at, version_at}
use Rattle.certificates.specs.Reading.{certificate_at, exact_of, listing_of, read_by}
use Rattle.any_judge.specs.Version.{BeginsThree}

-- ---- by six bytes

number_on : (w : Width) (total : ℕ) (front rest : List ℕ) → byte_len w ≤ length front → number_at w total (front ++ rest) ≡ Ok (from_le_bytes w (take (byte_len w) front), drop (byte_len w) front ++ rest)
number_on w total front rest enough =
    let all : byte_len w ≤ length (front ++ rest) = omega (arith, enough, length-append front rest) in
    rw (le-ltb _ _ all, take-append-le (byte_len w) front rest enough, drop-append-le (byte_len w) front rest enough) refl

-- the magic and then version 3, and what is behind them
abbrev told : Bool → Bool → List ℕ → List ℕ → Result (List ℕ) CertFault
told magical third mid rest = passed magical faults.BadMagic mid >>= (λ m. passed third faults.BadVersion rest)

abbrev is_magic : List ℕ → Bool
is_magic front = from_le_bytes w32 (take 4 front) == cert_magic

abbrev is_third : List ℕ → Bool
is_third front = from_le_bytes w16 (take 2 (drop 4 front)) == 3

version_on : (total : ℕ) (front rest : List ℕ) → 6 ≤ length front → version_at total (front ++ rest) ≡ told (is_magic front) (is_third front) (drop 4 front ++ rest) (drop 2 (drop 4 front) ++ rest)
unfolding version_at magic_at
version_on total front rest enough =
    rw (number_on w32 total front rest (omega (arith, enough))) (by (is_magic front))
  where
    behind : 2 ≤ length (drop 4 front)
    behind = omega (arith, enough, length-drop 4 front)

    by : (b : Bool) → ((passed b faults.BadMagic (drop 4 front ++ rest)) >>= (λ m. number_at w16 total m >>= (λ v. passed (v.0 == 3) faults.BadVersion v.1))) ≡ told b (is_third front) (drop 4 front ++ rest) (drop 2 (drop 4 front) ++ rest)
    by true = rw (number_on w16 total (drop 4 front) rest behind) refl
    by false = refl

abbrev IsFault : Result (List ℕ) CertFault → Type 0
IsFault (Ok rest) = ⊥
IsFault (Err f) = Unit {0}

again : (b c : Bool) (mid rest low end behind : List ℕ) → told b c mid rest ≡ Ok behind → told b c low end ≡ Ok end
again true true mid rest low end behind e = refl
again true false mid rest low end behind e = absurd (subst IsFault e tt)
again false c mid rest low end behind e = absurd (subst IsFault e tt)

module _ (front rest : List ℕ) (enough : 6 ≤ length front) where
  -- where the first bytes begin a certificate of version 3, so do they with more behind them
  pub begins_on : BeginsThree front → BeginsThree (front ++ rest)
  begins_on (behind, e) =
      let here : told (is_magic front) (is_third front) (drop 4 front ++ []) (drop 2 (drop 4 front) ++ []) ≡ Ok behind = sym (version_on (length front) front [] enough) ∙ ap (version_at (length front)) (append-nil front) ∙ e in
      (drop 2 (drop 4 front) ++ rest, version_on (length (front ++ rest)) front rest enough ∙ again (is_magic front) (is_third front) _ _ (drop 4 front ++ rest) (drop 2 (drop 4 front) ++ rest) behind here)

  -- .. and only there
  pub begins_only : BeginsThree (front ++ rest) → BeginsThree front
  begins_only (behind, e) =
      let there : told (is_magic front) (is_third front) (drop 4 front ++ rest) (drop 2 (drop 4 front) ++ rest) ≡ Ok behind = sym (version_on (length (front ++ rest)) front rest enough) ∙ e in
      (drop 2 (drop 4 front) ++ [], ap (version_at (length front)) (sym (append-nil front)) ∙ version_on (length front) front [] enough ∙ again (is_magic front) (is_third front) _ _ (drop 4 front ++ []) (drop 2 (drop 4 front) ++ []) behind there)

-- ---- what is read of them

module _ (sizes : Sizes) (bytes : List ℕ) where
  pub reads_exact : BeginsThree bytes → certificate_at sizes bytes ≡ exact_of (exact_at sizes bytes)
  unfolding certificate_at
  reads_exact b = ap (read_by sizes bytes) b.1

  by_other : (r : Result (List ℕ) CertFault) → ¬ ((behind : List ℕ) × (r ≡ Ok behind)) → read_by sizes bytes r ≡ listing_of (any_at sizes bytes)
  by_other (Ok behind) other = absurd (other (behind, refl))
  by_other (Err f) other = refl

  pub reads_listing : ¬ BeginsThree bytes → certificate_at sizes bytes ≡ listing_of (any_at sizes bytes)
  unfolding certificate_at
  reads_listing other = by_other (version_at (length bytes) bytes) other
