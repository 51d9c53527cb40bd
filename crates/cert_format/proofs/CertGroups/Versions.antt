-- What is read of bytes by their version.
use Rattle.std.proofs.Common.{◌≡◌, ℕ, ◌⊎◌, inl, inr, ◌==◌, ◌||◌, List, length, Result, Ok, Err, refl, subst}
use Rattle.std.specs.Int.{w16}
use Rattle.std.proofs.lemmas.Bool.{eqb-true, or_cases}
use Rattle.sight_names.specs.declared.faults.CertFault.{CertFault}
use Rattle.sight_names.specs.declared.faults.CertFault.TheVariants as faults
use Rattle.cert_format.specs.declared.cert.Sizes.{Sizes}
use Rattle.cert_format.specs.Reading.{◌>>=◌, passed, number_at, magic_at}
use Rattle.cert_format.proofs.FieldLaws.{bind_ok, passed_ok}
use Rattle.cert_format.specs.CertGroups.Reading.{version_at, one_read, two_read, any_at}

pub one_or_two : (total : ℕ) (bytes : List ℕ) (x : ℕ × List ℕ) → version_at total bytes ≡ Ok x → (x.0 ≡ 1) ⊎ (x.0 ≡ 2)
unfolding version_at
one_or_two total bytes x e =
    let tested : ℕ × List ℕ → Result (ℕ × List ℕ) CertFault = λ v. passed (v.0 == 1 || v.0 == 2) faults.BadVersion v in
    let m = bind_ok (magic_at total bytes) (λ m. number_at w16 total m >>= tested) x e in
    let v = bind_ok (number_at w16 total m.0) tested x m.2 in
    let g = passed_ok (v.0.0 == 1 || v.0.0 == 2) faults.BadVersion v.0 x v.2 in
    let which : (v.0.0 ≡ 1) ⊎ (v.0.0 ≡ 2) = elim (or_cases (v.0.0 == 1) (v.0.0 == 2) g.0) [ inl h ↦ inl (eqb-true v.0.0 1 h) | inr h ↦ inr (eqb-true v.0.0 2 h) ] in
    subst (λ (y : ℕ × List ℕ). (y.0 ≡ 1) ⊎ (y.0 ≡ 2)) {x = v.0} g.1 which

module _ (sizes : Sizes) (bytes rest : List ℕ) where
  pub read_as_one : (n : ℕ) → n ≡ 1 → version_at (length bytes) bytes ≡ Ok (n, rest) → any_at sizes bytes ≡ one_read sizes bytes
  unfolding any_at
  read_as_one n is e = rw (e, is) refl

  pub read_as_two : version_at (length bytes) bytes ≡ Ok (2, rest) → any_at sizes bytes ≡ two_read sizes (length bytes) rest
  unfolding any_at
  read_as_two e = rw e refl

pub no_version : (sizes : Sizes) (bytes : List ℕ) (f : CertFault) → version_at (length bytes) bytes ≡ Err f → any_at sizes bytes ≡ Err f
unfolding any_at
no_version sizes bytes f e = rw e refl
