-- What spells a certificate of any version is read again.
use Rattle.std.proofs.Common.{◌≡◌, ◌⊎◌, inl, inr, ℕ, Bool, false, List, length, Ok, Err, sym, ap, subst, ◌∙◌}
use Rattle.std.specs.Prelude.{◌==◌, ◌||◌}
use Rattle.std.specs.Int.{w16}
use Rattle.sight_names.specs.declared.faults.CertFault.TheVariants as faults
use Rattle.cert_format.specs.declared.cert.Sizes.{Sizes}
use Rattle.cert_format.specs.Reading.{◌>>=◌, magic_at, number_at, passed}
use Rattle.cert_format.proofs.FieldLaws.{bind_ok, passed_ok}
use Rattle.cert_format.specs.CertGroups.Reading.{any_at, version_at}
use Rattle.cert_format.proofs.CertGroups.AnyLaws.{any_again}
use Rattle.cert_format.proofs.CertGroups.Versions.{one_or_two}
use Rattle.certificates.specs.CertExact.Reading.{parts_at, version_at as version_three_at}
use Rattle.certificates.proofs.CertExact.ExactLaws.{exact_again}
use Rattle.certificates.specs.declared.certificate.Certificate.{Certificate}
use Rattle.certificates.specs.declared.certificate.Certificate.TheVariants.{Listing, Exact}
use Rattle.certificates.specs.Grammar.{Spells}
use Rattle.certificates.specs.Reading.{certificate_at, exact_of, listing_of, read_by}

not_three : (n : ℕ) → (n ≡ 1) ⊎ (n ≡ 2) → (n == 3) ≡ false
not_three n (inl h) = ap (λ (k : ℕ). k == 3) h
not_three n (inr h) = ap (λ (k : ℕ). k == 3) h

-- bytes of version 1 or 2 aren't of version 3
other_version : (total : ℕ) (bytes : List ℕ) (x : ℕ × List ℕ) → version_at total bytes ≡ Ok x → version_three_at total bytes ≡ Err faults.BadVersion
unfolding version_at version_three_at
other_version total bytes x e =
    let m = bind_ok (magic_at total bytes) (λ (m : List ℕ). number_at w16 total m >>= (λ (v : ℕ × List ℕ). passed (v.0 == 1 || v.0 == 2) faults.BadVersion v)) x e in
    let v = bind_ok (number_at w16 total m.0) (λ (v : ℕ × List ℕ). passed (v.0 == 1 || v.0 == 2) faults.BadVersion v) x m.2 in
    let same : v.0 ≡ x = (passed_ok (v.0.0 == 1 || v.0.0 == 2) faults.BadVersion v.0 x v.2).1 in
    let low : (v.0.0 ≡ 1) ⊎ (v.0.0 ≡ 2) = subst (λ (y : ℕ × List ℕ). (y.0 ≡ 1) ⊎ (y.0 ≡ 2)) (sym same) (one_or_two total bytes x e) in
    rw (m.1, v.1) (ap (λ (b : Bool). passed b faults.BadVersion v.0.1) (not_three v.0.0 low))

pub certificate_again : (sizes : Sizes) (bytes : List ℕ) (c : Certificate) → Spells sizes bytes c → certificate_at sizes bytes ≡ Ok c
unfolding certificate_at any_at parts_at
certificate_again sizes bytes (Listing c) s =
    let read = any_again sizes bytes c s in
    let v = bind_ok (version_at (length bytes) bytes) _ c read in
    ap (read_by sizes bytes) (other_version (length bytes) bytes v.0 v.1) ∙ ap listing_of read
certificate_again sizes bytes (Exact c) s =
    let read = exact_again sizes bytes c s in
    let v = bind_ok (version_three_at (length bytes) bytes) _ c read in
    ap (read_by sizes bytes) v.1 ∙ ap exact_of read
