-- Accepted certificates of any version, and what a table tells of sight with one.
use Rattle.std.specs.Prelude.{ℕ, List}
use Rattle.sight_names.specs.Map.{Map}
use Rattle.reject_bits.specs.Parts.{TableParts}
use Rattle.cert_checker.specs.AcceptedGroups.Accepted.{IsAcceptedAny}
use Rattle.group_checker.specs.Judged.{TellsSightAny}
use Rattle.gate_floods.specs.Exact.{IsAcceptedThree, TellsAll}
use Rattle.certificates.specs.declared.certificate.Certificate.{Certificate}
use Rattle.certificates.specs.declared.certificate.Certificate.TheVariants.{Listing, Exact}

-- accepted, for a table of these bytes
abbrev pub IsAccepted : Map → List ℕ → Certificate → Type 0
IsAccepted m table (Listing c) = IsAcceptedAny m table c
IsAccepted m table (Exact c) = IsAcceptedThree m table c

-- the table tells of sight, but for the pairs that the certificate lists; of one of version 3, of each two sectors
abbrev pub TellsSight : Map → TableParts → Certificate → Type 0
TellsSight m t (Listing c) = TellsSightAny m t c
TellsSight m t (Exact c) = TellsAll m t
