-- What is told of pairs of lines that clash.
use Rattle.std.specs.Prelude.{◌≡◌, ℕ, ◌-◌, List, ◌++◌, codes, length, map}
use Rattle.std.specs.List.{AllByRecursion, flat_map}
use Rattle.sight_names.specs.Map.{Map, map_of}
use Rattle.sight_names.specs.Plan.{PlanParts}
use Rattle.map_audit.specs.Audit.{IsLineFaultOf}
use Rattle.map_faults.specs.Clashes.{AreFirstClashes}
use Rattle.map_faults.specs.Corners.{AreCornersOf}
use Rattle.map_faults.specs.declared.clashes.LinePair.{LinePair}
use Rattle.fault_report.specs.declared.clashes.Clash.{Clash}
use Rattle.row_spelling.specs.declared.Spelling.{Spelling}
use Rattle.fault_report.specs.Rows.{clash_row, rest_row}

-- this is what the lines of the pair share, and where they meet
pub record IsToldClash (m : Map) (c : Clash) : Type 0 where
  pub fault : IsLineFaultOf m c.pair.i c.pair.j c.fault
  pub place : AreCornersOf m c.pair.i c.pair.j c.at

-- so for each of these pairs, in order
pub record AreToldClashes (m : Map) (ps : List LinePair) (cs : List Clash) : Type 0 where
  pub pairs : map (λ (c : Clash). c.pair) cs ≡ ps
  pub each : AllByRecursion (IsToldClash m) cs

-- the text has the first of all clashing pairs, of which there are so many, and the number of the others
pub record AreClashesTold (spelled : Spelling) (p : PlanParts) (count : ℕ) (text : List ℕ) : Type 0 where
  pub first : List LinePair
  pub are : AreFirstClashes (map_of p) first count
  pub clashes : List Clash
  pub told : AreToldClashes (map_of p) first clashes
  pub is : text ≡ flat_map (clash_row spelled p) clashes ++ rest_row spelled (count - length clashes) (codes "clashes")
