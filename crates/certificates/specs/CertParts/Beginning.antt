-- What comes before the parts of a certificate of version 1 or 2, and a reader of them.
use Rattle.std.specs.Prelude.{◌≡◌, ℕ, ◌+◌, List, ◌++◌, length, Option, IfSome, Result, Ok, Err}
use Rattle.sight_names.specs.declared.faults.CertFault.{CertFault}
use Rattle.sight_names.specs.declared.faults.CertFault.TheVariants as faults
use Rattle.cert_format.specs.declared.cert.Sizes.{Sizes}
use Rattle.cert_format.specs.Reading.{◌>>=◌}
use Rattle.cert_format.specs.CertGroups.Grammar.{AreGroupsInOrder}
use Rattle.certificates.specs.declared.cert_parts.beginning.Beginning.{Beginning}
use Rattle.certificates.specs.declared.cert_parts.beginning.Beginning.TheVariants.{Cut, Read}
use Rattle.certificates.specs.CertParts.Parts.{AnyParts, reading_any_parts}
use Rattle.certificates.specs.CertParts.Left.{ReaderState, parts_left}

-- where the bytes are cut, if that is the fault
abbrev pub cut_at : CertFault → Result ℕ CertFault
cut_at (faults.Short at) = Ok at
cut_at f = Err f

-- these groups, and the parts that the reader finds in the bytes to come
abbrev pub parts_from : Option (List (List ℕ)) → ReaderState → List ℕ → Result AnyParts CertFault
parts_from groups reader bytes = parts_left reader bytes >>= λ parts. Ok (groups, parts)

-- these groups are read, and the reader goes on where the rest begins
pub record IsListingBegun (sizes : Sizes) (bytes : List ℕ) (groups : Option (List (List ℕ))) (reader : ReaderState) (rest : List ℕ) : Type 0 where
  -- whatever bytes come behind
  pub parts : (more : List ℕ) → reading_any_parts sizes (bytes ++ more) ≡ parts_from groups reader (rest ++ more)
  pub given : reader.given + length rest ≡ length bytes
  pub in_order : IfSome groups (λ gs. AreGroupsInOrder sizes gs)

-- what is told of these bytes: that alone they are cut, or what they begin with
abbrev pub BeginsAs : Sizes → List ℕ → Beginning → Type 0
BeginsAs sizes bytes (Cut at) = reading_any_parts sizes bytes ≡ Err (faults.Short at)
BeginsAs sizes bytes (Read groups reader rest) = IsListingBegun sizes bytes groups reader rest.now
