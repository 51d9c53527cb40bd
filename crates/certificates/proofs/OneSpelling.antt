-- What spells a certificate of any version is its spelling.
use Rattle.std.proofs.Common.{◌≡◌, ℕ, List}
use Rattle.cert_format.specs.declared.cert_groups.cert.AnyCert.TheVariants.{One, Two}
use Rattle.certificates.specs.declared.certificate.Certificate.{Certificate}
use Rattle.certificates.specs.declared.certificate.Certificate.TheVariants.{Listing, Exact}
use Rattle.certificates.specs.Grammar.{Spells, sizes_of_certificate, spelling}

pub spelled_is : (c : Certificate) (bytes : List ℕ) → Spells (sizes_of_certificate c) bytes c → bytes ≡ spelling c
spelled_is (Listing (One c)) bytes h = h.spelled
spelled_is (Listing (Two c sizes)) bytes h = h.1.spelled
spelled_is (Exact c) bytes h = h.spelled
