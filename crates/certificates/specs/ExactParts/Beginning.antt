-- What comes before the parts of a certificate of version 3, and a reader of them.
use Rattle.std.specs.Prelude.{◌≡◌, ℕ, ◌+◌, List, ◌++◌, length, Result, Ok, Err}
use Rattle.sight_names.specs.declared.faults.CertFault.{CertFault}
use Rattle.sight_names.specs.declared.faults.CertFault.TheVariants as faults
use Rattle.cert_format.specs.declared.cert.Sizes.{Sizes}
use Rattle.cert_format.specs.Reading.{◌>>=◌}
use Rattle.certificates.specs.declared.exact_parts.beginning.Beginning.{Beginning}
use Rattle.certificates.specs.declared.exact_parts.beginning.Beginning.TheVariants.{Cut, Read}
use Rattle.certificates.specs.ExactParts.Parts.{ThreeParts, reading_three_parts}
use Rattle.certificates.specs.ExactParts.Left.{ReaderState, parts_left}

-- these groups, and the parts that the reader finds in the bytes to come
abbrev pub parts_from : List (List ℕ) → ReaderState → List ℕ → Result ThreeParts CertFault
parts_from groups reader bytes = parts_left reader bytes >>= λ parts. Ok (groups, parts)

-- these groups are read, and the reader goes on where the rest begins
pub record IsExactBegun (sizes : Sizes) (bytes : List ℕ) (groups : List (List ℕ)) (reader : ReaderState) (rest : List ℕ) : Type 0 where
  -- whatever bytes come behind
  pub parts : (more : List ℕ) → reading_three_parts sizes (bytes ++ more) ≡ parts_from groups reader (rest ++ more)
  pub given : reader.given + length rest ≡ length bytes

-- what is told of these bytes: that alone they are cut, or what they begin with
abbrev pub BeginsAs : Sizes → List ℕ → Beginning → Type 0
BeginsAs sizes bytes (Cut at) = reading_three_parts sizes bytes ≡ Err (faults.Short at)
BeginsAs sizes bytes (Read groups reader rest) = IsExactBegun sizes bytes groups reader rest.now
