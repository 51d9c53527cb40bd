-- The whole of what was built.
use Rattle.std.specs.Prelude.{◌≡◌, ℕ, List, length}
use Rattle.certificates.specs.Grammar.{Spells, sizes_of_certificate}
use Rattle.map_answers.specs.Counts.{counts_with}
use Rattle.whole_wad.specs.declared.building.Built.{Built}
use Rattle.doomsight_c.specs.declared.counts.DoomsightCounts.{DoomsightCounts}
use Rattle.doomsight_c.specs.Built.{counts_view}

-- the table that was built, the bytes of its whole certificate, and the counts of both
pub record IsWholeOf (b : Built) (reject spelling : List ℕ) (counts : DoomsightCounts) : Type 0 where
  pub table : reject ≡ b.table.bytes
  pub cert : Spells (sizes_of_certificate b.cert) spelling b.cert
  pub counted : counts ≡ counts_view (counts_with b.table (length b.listed)) (length spelling)
