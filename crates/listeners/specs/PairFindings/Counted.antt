-- How many findings of each kind a table and its list make.
use Rattle.std.specs.Prelude.{◌≡◌, ◌+◌, ◌*◌, ◌/◌, ◌==◌, List, Contains, count_by, length}
use Rattle.std.specs.List.{AllByRecursion}
use Rattle.sight_names.specs.declared.names.Pair.{Pair}
use Rattle.sight_names.specs.Order.{Ascends, PairBefore}
use Rattle.sight_names.specs.Table.{table_bit}
use Rattle.reject_bits.specs.Parts.{TableParts, Rejects}
use Rattle.listeners.specs.Findings.{all_pairs_of}
use Rattle.listeners.specs.Listening.{clears_in, lists_in, sets_in}
use Rattle.listeners.specs.PairFindings.Found.{IsPairBelow, findings_of}

-- as many as pairs have their bit set are set, as many as the list has pairs are listed, and all others are clear
pub record AreKindsCounted (t : TableParts) (listed : List Pair) : Type 0 where
  pub sets : sets_in (findings_of t listed) ≡ count_by (λ (p : Pair). table_bit t.bytes (p.a * t.n + p.b) == 1) (all_pairs_of t.n)
  pub lists : lists_in (findings_of t listed) ≡ length listed
  pub all : sets_in (findings_of t listed) + clears_in (findings_of t listed) + lists_in (findings_of t listed) ≡ t.n * (t.n + 1) / 2

-- .. of a list in order, of pairs whose bits are clear
abbrev pub FindingsAreCounted : Type 0
FindingsAreCounted = (t : TableParts) (listed : List Pair) → Ascends PairBefore listed → AllByRecursion (IsPairBelow t.n) listed → ((p : Pair) → Contains listed p → ¬ Rejects t p.a p.b) → AreKindsCounted t listed
