-- What a table and its list tell of each pair of sectors.
use Rattle.std.specs.Prelude.{◌≡◌, ℕ, ◌+◌, ◌-◌, ◌*◌, ◌<◌, ◌≤◌, ◌==◌, ◌&&◌, Bool, true, false, List, map, All, Contains}
use Rattle.std.specs.List.{list_any, range_with_len}
use Rattle.sight_names.specs.declared.names.Pair.{Pair}
use Rattle.sight_names.specs.Table.{table_bit}
use Rattle.reject_bits.specs.Parts.{Rejects, TableParts}
use Rattle.listeners.specs.declared.finding.Finding.{Finding}
use Rattle.listeners.specs.declared.finding.Kind.{Kind}
use Rattle.listeners.specs.declared.finding.Kind.TheVariants as kind
use Rattle.listeners.specs.Findings.{all_pairs_of, pair_of_finding}

-- two different sectors below n, the smaller one first
abbrev pub IsPairBelow : ℕ → Pair → Type 0
IsPairBelow n p = (p.a < p.b) × (p.b < n)

abbrev pub pair : ℕ → ℕ → Pair
pair a b = record { a = a; b = b }

abbrev pub is_pair : ℕ → ℕ → Pair → Bool
is_pair a b p = p.a == a && p.b == b

-- the list has the pair
abbrev pub is_pair_listed : List Pair → ℕ → ℕ → Bool
is_pair_listed listed a b = list_any (is_pair a b) listed

-- the kind of a pair by whether it is listed and whether its bit is set
abbrev pub kind_by : Bool → Bool → Kind
kind_by true set = kind.Listed
kind_by false true = kind.Set
kind_by false false = kind.Clear

-- listed where the list has the pair, or else set or clear by its bit
abbrev pub kind_of_pair : TableParts → List Pair → ℕ → ℕ → Kind
kind_of_pair t listed a b = kind_by (is_pair_listed listed a b) (table_bit t.bytes (a * t.n + b) == 1)

abbrev pub finding_of_pair : TableParts → List Pair → Pair → Finding
finding_of_pair t listed p = record { a = p.a; b = p.b; kind = kind_of_pair t listed p.a p.b }

-- one finding for each pair, in order
abbrev pub findings_of : TableParts → List Pair → List Finding
findings_of t listed = map (finding_of_pair t listed) (all_pairs_of t.n)

-- those of the pairs (a, c) for one a, from c = b on
abbrev pub row_from : TableParts → List Pair → ℕ → ℕ → List Finding
row_from t listed a b = map (finding_of_pair t listed) (map (pair a) (range_with_len b (t.n - b)))

-- ---- what they tell

-- listed where the list contains the pair, else set or clear by its bit
abbrev pub IsKindBy : TableParts → List Pair → ℕ → ℕ → Kind → Type 0
IsKindBy t listed a b kind.Listed = Contains listed (pair a b)
IsKindBy t listed a b kind.Set = ¬ Contains listed (pair a b) × Rejects t a b
IsKindBy t listed a b kind.Clear = ¬ Contains listed (pair a b) × ¬ Rejects t a b

pub record IsFindingBy (t : TableParts) (listed : List Pair) (f : Finding) : Type 0 where
  pub order : f.a ≤ f.b
  pub within : f.b < t.n
  pub kind : IsKindBy t listed f.a f.b f.kind

pub record TellPairs (t : TableParts) (listed : List Pair) (fs : List Finding) : Type 0 where
  pub pairs : map pair_of_finding fs ≡ all_pairs_of t.n
  pub each : All (IsFindingBy t listed) fs

-- the findings of a table and a list are one for each pair, and tell what the two say of it
abbrev pub FindingsTellPairs : Type 0
FindingsTellPairs = (t : TableParts) (listed : List Pair) → TellPairs t listed (findings_of t listed)
