-- How many pairs of sectors a table has set, and what a line says of it.
use Rattle.std.specs.Prelude.{ℕ, ◌+◌, ◌-◌, ◌*◌, ◌/◌, ◌==◌, Bool, List, ◌++◌, codes}
use Rattle.std.specs.Fmt.{decimal}
use Rattle.std.specs.List.{count_by, range_with_len, sum_by}
use Rattle.sight_names.specs.Table.{table_bit}
use Rattle.reject_bits.specs.Parts.{TableParts}
use Rattle.map_answers.specs.declared.counts.Counts.{Counts}

-- the bit of the pair (a, b) is set
abbrev pub is_pair_set : TableParts → ℕ → ℕ → Bool
is_pair_set t a b = table_bit t.bytes (a * t.n + b) == 1

-- how many pairs (a, b) with a <= b have their bit set, for one a
unfoldable pub set_from : TableParts → ℕ → ℕ
set_from t a = count_by (is_pair_set t a) (range_with_len a (t.n - a))

-- .. and for all a
unfoldable pub set_pairs : TableParts → ℕ
set_pairs t = sum_by (set_from t) (range_with_len 0 t.n)

-- how many pairs (a, b) with a <= b there are of so many sectors
abbrev pub pair_count : ℕ → ℕ
pair_count n = n * (n + 1) / 2

-- The counts of a table with so many listed pairs. What is neither set nor listed is clear.
abbrev pub counts_with : TableParts → ℕ → Counts
counts_with t listed = record { sectors = t.n; set = set_pairs t; clear = pair_count t.n - set_pairs t - listed; listed = listed }

unfoldable pub counts_words : Counts → List ℕ
counts_words c = codes " sectors " ++ decimal c.sectors ++ codes " set " ++ decimal c.set ++ codes " clear " ++ decimal c.clear ++ codes " listed " ++ decimal c.listed
