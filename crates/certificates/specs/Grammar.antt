-- Ranges and orders of a certificate of any version, and its one spelling.
use Rattle.std.specs.Prelude.{ℕ, List}
use Rattle.cert_format.specs.declared.cert.Sizes.{Sizes}
use Rattle.cert_format.specs.Grammar.{spelling as spelling_of_one}
use Rattle.cert_format.specs.declared.cert_groups.cert.AnyCert.{AnyCert}
use Rattle.cert_format.specs.declared.cert_groups.cert.AnyCert.TheVariants.{One, Two}
use Rattle.cert_format.specs.CertGroups.Grammar.{IsAnyInOrder, SpellsAny, sizes_of_listing, spelling as spelling_of_two}
use Rattle.certificates.specs.CertExact.Grammar.{SpellsThree, spelling as spelling_of_three}
pub use Rattle.certificates.specs.CertExact.Grammar.{IsThreeInOrder}
use Rattle.certificates.specs.declared.certificate.Certificate.{Certificate}
use Rattle.certificates.specs.declared.certificate.Certificate.TheVariants.{Listing, Exact}

-- the sizes of the map that the certificate is about
abbrev pub sizes_of_certificate : Certificate → Sizes
sizes_of_certificate (Listing c) = sizes_of_listing c
sizes_of_certificate (Exact c) = c.sizes

-- the ranges and orders of its version
abbrev pub IsInOrder : Certificate → Type 0
IsInOrder (Listing c) = IsAnyInOrder c
IsInOrder (Exact c) = IsThreeInOrder c

-- the bytes spell the certificate, for a map of these sizes
abbrev pub Spells : Sizes → List ℕ → Certificate → Type 0
Spells sizes bytes (Listing c) = SpellsAny sizes bytes c
Spells sizes bytes (Exact c) = SpellsThree sizes bytes c

abbrev pub spelling_of_listing : AnyCert → List ℕ
spelling_of_listing (One c) = spelling_of_one c
spelling_of_listing (Two c sizes) = spelling_of_two sizes c

-- its one spelling
abbrev pub spelling : Certificate → List ℕ
spelling (Listing c) = spelling_of_listing c
spelling (Exact c) = spelling_of_three c
