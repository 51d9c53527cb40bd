-- Whether bytes begin as a certificate of version 3 does. The first six tell it.
use Rattle.std.specs.Prelude.{◌≡◌, ℕ, List, length, Ok}
use Rattle.certificates.specs.CertExact.Reading.{version_at}

-- the magic and version 3
abbrev pub BeginsThree : List ℕ → Type 0
BeginsThree bytes = (behind : List ℕ) × (version_at (length bytes) bytes ≡ Ok behind)
