-- The findings of a map within a budget: each pair of sectors, and what is found of it.
use Rattle.std.specs.Prelude.{◌≡◌, ℕ, ◌-◌, List, map, flat_map, All}
use Rattle.std.specs.List.{range_with_len}
use Rattle.sight_names.specs.declared.names.Budget.{Budget}
use Rattle.sight_names.specs.declared.names.Pair.{Pair}
use Rattle.sight_names.specs.Groups.{IsListedByGroups}
use Rattle.sight_names.specs.Map.{Map}
use Rattle.sight_names.specs.Sees.{Sees}
use Rattle.listeners.specs.declared.finding.Finding.{Finding}
use Rattle.listeners.specs.declared.finding.Kind.{Kind}
use Rattle.listeners.specs.declared.finding.Kind.TheVariants as kind

-- a pair is listed by the groups of its sectors, or else it is clear where the two see each other, and set where they don't
abbrev pub IsKindOf : Map → Budget → ℕ → ℕ → Kind → Type 0
IsKindOf m budget a b kind.Listed = IsListedByGroups m budget a b
IsKindOf m budget a b kind.Clear = ¬ IsListedByGroups m budget a b × Sees m a b
IsKindOf m budget a b kind.Set = ¬ IsListedByGroups m budget a b × ¬ Sees m a b

-- the pairs (a, b) of so many sectors with a <= b, for one a
abbrev pub pairs_in_row_from : ℕ → ℕ → List Pair
pairs_in_row_from n a = map (λ b. record { a = a; b = b }) (range_with_len a (n - a))

-- .. and for all a, by a, then by b
abbrev pub all_pairs_of : ℕ → List Pair
all_pairs_of n = flat_map (pairs_in_row_from n) (range_with_len 0 n)

abbrev pub pair_of_finding : Finding → Pair
pair_of_finding f = record { a = f.a; b = f.b }

-- one finding for each pair in order, and each of its kind
pub record AreFindingsOfMap (m : Map) (budget : Budget) (findings : List Finding) : Type 0 where
  pub pairs : map pair_of_finding findings ≡ all_pairs_of m.sectors
  pub kinds : All (λ f. IsKindOf m budget f.a f.b f.kind) findings
