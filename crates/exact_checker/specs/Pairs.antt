-- What the judge of pairs of sectors goes by, and when it tells a fault of a pair.
use Rattle.std.specs.Prelude.{◌≡◌, ℕ, List}
use Rattle.sight_names.specs.declared.faults.CheckFault.{CheckFault}
use Rattle.sight_names.specs.declared.faults.CheckFault.TheVariants.{Unproved, Uncovered}
use Rattle.reject_bits.specs.Parts.{TableParts}
use Rattle.cert_format.specs.Accepted.{EitherSet, EitherClear}
use Rattle.cert_checker.specs.Pairs.{AreSectorsJoined}
use Rattle.gate_floods.specs.declared.gate_masks.masks.Row.{Row}
use Rattle.gate_floods.specs.GateMasks.Masks.{IsInRowOf}
use Rattle.exact_checker.specs.declared.pairs.Known.{Known}

-- the table, the groups of each sector, and the rows of what is joined with each group
pub record KnownParts : Type 0 where
  pub table : TableParts
  pub members : List (List ℕ)
  pub joined : List Row

abbrev pub known_of : Known → KnownParts
known_of k = record { table = k.table.now; members = k.members.now; joined = k.joined.now }

-- ---- sectors

module _ (k : KnownParts) where
  abbrev pub IsExactPairSet : ℕ → ℕ → Type 0
  IsExactPairSet a b = EitherSet k.table.n k.table.bytes a b

  abbrev pub IsExactPairClear : ℕ → ℕ → Type 0
  IsExactPairClear a b = EitherClear k.table.n k.table.bytes a b

  -- some group of the one sector is joined with one of the other
  abbrev pub IsPairJoined : ℕ → ℕ → Type 0
  IsPairJoined a b = AreSectorsJoined (IsInRowOf k.joined) k.members a b

  -- a set bit is of two that aren't joined, a clear one of two that are
  pub record IsFine (a b : ℕ) : Type 0 where
    pub set : IsExactPairSet a b → ¬ IsPairJoined a b
    pub clear : IsExactPairClear a b → IsPairJoined a b

  -- which of the two rules the pair breaks
  abbrev pub IsFaultAt : ℕ → ℕ → CheckFault → Type 0
  IsFaultAt a b (Unproved c d) = (c ≡ a) × (d ≡ b) × IsExactPairSet a b × IsPairJoined a b
  IsFaultAt a b (Uncovered c d) = (c ≡ a) × (d ≡ b) × IsExactPairClear a b × ¬ IsPairJoined a b
  IsFaultAt a b _ = ⊥
