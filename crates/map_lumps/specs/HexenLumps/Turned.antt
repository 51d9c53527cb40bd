-- LINEDEFS turned from Doom's format to Hexen's (the Hexen specs on LINEDEFS).
use Rattle.std.specs.Prelude.{ℕ, zero, suc, ◌+◌, ◌*◌, ◌/◌, List, [], ◌++◌, length, take, drop, replicate, slice_range}

-- a record: its vertices and flags, a special and five arguments of 0, its sides
abbrev pub hexen_record : List ℕ → List ℕ
hexen_record doom = (take 6 doom ++ replicate 6 0) ++ drop 10 doom

-- the first n records
abbrev pub hexen_first : List ℕ → ℕ → List ℕ
hexen_first linedefs zero = []
hexen_first linedefs (suc n) = hexen_first linedefs n ++ hexen_record (slice_range linedefs (14 * n) (14 * n + 14))

-- all records
unfoldable pub hexen_of : List ℕ → List ℕ
hexen_of linedefs = hexen_first linedefs (length linedefs / 14)
