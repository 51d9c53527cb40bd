-- Likely slips: lines of which no side names a sector, and sectors that no side names.
use Rattle.std.specs.Prelude.{◌≡◌, ℕ, ◌<◌, ◌⊎◌, ◌↔◌, List, [], ◌∷◌, ◌++◌, Bool, true, false, Option, Some, None, length, map, slice_get, slice_index_or, Contains, codes}
use Rattle.sight_names.specs.declared.names.Side.{Side}
use Rattle.sight_names.specs.declared.plan.Line.{Line}
use Rattle.sight_names.specs.Map.{Map, map_of, Names, named}
use Rattle.sight_names.specs.Order.{Ascends}
use Rattle.sight_names.specs.Plan.{PlanParts}
use Rattle.fault_report.specs.declared.slips.Nameless.{Nameless}
use Rattle.fault_report.specs.declared.slips.Sideless.{Sideless}
use Rattle.row_spelling.specs.declared.Spelling.{Spelling}
use Rattle.fault_report.specs.Rows.{kind_text, nameless_row, sideless_row}

-- just the numbers below n of which Q holds, ascending
pub record AreJustNumbers (Q : ℕ → Type 0) (n : ℕ) (ks : List ℕ) : Type 0 where
  pub each : (k : ℕ) → Contains ks k → (k < n) × Q k
  pub all : (k : ℕ) → k < n → Q k → Contains ks k
  pub ascend : Ascends (λ x y. x < y) ks

-- the record has a line, and neither of its sides names a sector
pub record IsSideless (p : PlanParts) (i : ℕ) : Type 0 where
  pub line : Line
  pub is : slice_get p.lines i ≡ Some (Some line)
  pub right : line.right ≡ None
  pub left : line.left ≡ None

-- no side names the sector
abbrev pub IsNameless : Map → ℕ → Type 0
IsNameless m a = (s : Side) → ¬ Names m s a

pub record AreSidelessTold (spelled : Spelling) (p : PlanParts) (text : List ℕ) : Type 0 where
  pub lines : List Sideless
  pub are : AreJustNumbers (IsSideless p) (length p.lines) (map (λ (s : Sideless). s.line) lines)
  pub is : text ≡ kind_text spelled (sideless_row spelled p) (codes "lines without a side") lines

pub record AreNamelessTold (spelled : Spelling) (p : PlanParts) (text : List ℕ) : Type 0 where
  pub sectors : List Nameless
  pub are : AreJustNumbers (IsNameless (map_of p)) p.sectors (map (λ (s : Nameless). s.sector) sectors)
  pub is : text ≡ kind_text spelled (nameless_row spelled p) (codes "sectors without a side") sectors

-- ---- one after the other

-- the number is added behind the others if Q holds of it
abbrev pub AddsIf : Type 0 → ℕ → List ℕ → List ℕ → Type 0
AddsIf Q k old new = (Q × (new ≡ old ++ k ∷ [])) ⊎ ((¬ Q) × (new ≡ old))

-- the sector is marked, where there is one, and the others stay
pub record Marks (sector : Option ℕ) (old new : List Bool) : Type 0 where
  pub len : length new ≡ length old
  pub each : (a : ℕ) → a < length old → (slice_index_or new a false ≡ true) ↔ ((sector ≡ Some a) ⊎ (slice_index_or old a false ≡ true))

pub record MarksBoth (m : Map) (i : ℕ) (old new : List Bool) : Type 0 where
  pub middle : List Bool
  pub right : Marks (named m (record { line = i; left = false })) old middle
  pub left : Marks (named m (record { line = i; left = true })) middle new

-- a side of one of the first n records names the sector
pub record IsNamedBelow (m : Map) (n a : ℕ) : Type 0 where
  pub side : Side
  pub below : side.line < n
  pub names : Names m side a

-- just these sectors are marked
pub record AreMarks (m : Map) (n : ℕ) (marks : List Bool) : Type 0 where
  pub len : length marks ≡ m.sectors
  pub each : (a : ℕ) → a < m.sectors → (slice_index_or marks a false ≡ true) ↔ IsNamedBelow m n a
