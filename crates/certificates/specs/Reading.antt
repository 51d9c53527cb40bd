-- What is read of bytes: the version says by which grammar.
use Rattle.std.specs.Prelude.{ℕ, List, length, Result, Ok, Err}
use Rattle.sight_names.specs.declared.faults.CertFault.{CertFault}
use Rattle.cert_format.specs.declared.cert.Sizes.{Sizes}
use Rattle.cert_format.specs.declared.cert_groups.cert.AnyCert.{AnyCert}
use Rattle.cert_format.specs.CertGroups.Reading.{any_at}
use Rattle.certificates.specs.declared.cert_exact.cert.ExactParts.{ExactParts}
use Rattle.certificates.specs.CertExact.Reading.{exact_at, version_at as version_three_at}
use Rattle.certificates.specs.declared.certificate.Certificate.{Certificate}
use Rattle.certificates.specs.declared.certificate.Certificate.TheVariants.{Listing, Exact}

-- it lists pairs
abbrev pub listing_of : Result AnyCert CertFault → Result Certificate CertFault
listing_of (Ok c) = Ok (Listing c)
listing_of (Err fault) = Err fault

-- it decides every pair
abbrev pub exact_of : Result ExactParts CertFault → Result Certificate CertFault
exact_of (Ok c) = Ok (Exact c)
exact_of (Err fault) = Err fault

-- behind the magic and version 3 the bytes are read by the grammar of version 3, all others as of version 1 or 2
abbrev pub read_by : Sizes → List ℕ → Result (List ℕ) CertFault → Result Certificate CertFault
read_by sizes bytes (Ok behind) = exact_of (exact_at sizes bytes)
read_by sizes bytes (Err other) = listing_of (any_at sizes bytes)

-- the certificate that all of the bytes spell, or the first fault
unfoldable pub certificate_at : Sizes → List ℕ → Result Certificate CertFault
certificate_at sizes bytes = read_by sizes bytes (version_three_at (length bytes) bytes)
