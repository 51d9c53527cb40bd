-- The table of sectors, by which groups are joined.
use Rattle.std.specs.Prelude.{ℕ, ◌<◌, List}
use Rattle.sight_names.specs.Groups.{IsInGroup}
use Rattle.reject_bits.specs.Parts.{TableParts, Rejects}
use Rattle.cert_format.specs.declared.cert_groups.cert.CertTwo.{CertTwo}
use Rattle.cert_checker.specs.AcceptedGroups.Accepted.{IsGroupedSeen}

-- some group contains both sectors
abbrev pub AreInOneGroup : List (List ℕ) → ℕ → ℕ → Type 0
AreInOneGroup groups a b = (f : ℕ) × IsInGroup groups a f × IsInGroup groups b f

-- a bit is set exactly where no groups of the two sectors are joined
pub record IsTableOfGroups (c : CertTwo) (t : TableParts) : Type 0 where
  pub set : (a b : ℕ) → a < t.n → b < t.n → Rejects t a b → ¬ IsGroupedSeen c a b
  pub clear : (a b : ℕ) → a < t.n → b < t.n → ¬ Rejects t a b → IsGroupedSeen c a b
