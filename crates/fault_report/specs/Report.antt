-- What the report is.
use Rattle.std.specs.Prelude.{◌≡◌, ℕ, ◌<◌, List, [], ◌++◌, codes, length, nat_eq, if◌then◌else◌}
use Rattle.sight_names.specs.declared.names.Side.{Side}
use Rattle.sight_names.specs.declared.names.Triangle.{Triangle}
use Rattle.sight_names.specs.Map.{map_of}
use Rattle.sight_names.specs.Mesh.{IsMeshOf}
use Rattle.sight_names.specs.Plan.{PlanParts}
use Rattle.map_faults.specs.declared.gaps.Gap.{Gap}
use Rattle.map_faults.specs.declared.loose_ends.LooseEnd.{LooseEnd}
use Rattle.map_faults.specs.declared.tears.Tear.{Tear}
use Rattle.map_faults.specs.Gaps.{AreHullGaps}
use Rattle.map_faults.specs.LooseEnds.{AreLooseEnds}
use Rattle.map_faults.specs.OpenSides.{AreOpenSides}
use Rattle.map_faults.specs.Tears.{AreTears}
use Rattle.fault_report.specs.Clashes.{AreClashesTold}
use Rattle.row_spelling.specs.declared.Spelling.{Spelling}
use Rattle.fault_report.specs.Rows.{gap_row, kind_text, loose_row, open_row, sound_row, tear_row}
use Rattle.fault_report.specs.Slips.{AreNamelessTold, AreSidelessTold}

abbrev pub sound_lines : Spelling → PlanParts → List Tear → List ℕ
sound_lines spelled p tears = sound_row spelled ++ kind_text spelled (tear_row spelled p) (codes "torn corners") tears

abbrev pub open_lines : Spelling → PlanParts → List Side → List Tear → List Gap → List ℕ
open_lines spelled p sides tears gaps = kind_text spelled (open_row spelled p) (codes "open sides") sides ++ kind_text spelled (tear_row spelled p) (codes "torn corners") tears ++ kind_text spelled (gap_row spelled p) (codes "gaps") gaps

-- a map without an open side is sound; of another one the open sides and the gaps in its hull are told too
abbrev pub face_lines : Spelling → PlanParts → List Side → List Tear → List Gap → List ℕ
face_lines spelled p sides tears gaps = if nat_eq (length sides) 0 then sound_lines spelled p tears else open_lines spelled p sides tears gaps

-- the text has just the open sides, the torn corners and the gaps over a mesh of the map
pub record AreFacesTold (spelled : Spelling) (p : PlanParts) (text : List ℕ) : Type 0 where
  pub open_ : List Side
  pub are_open : AreOpenSides (map_of p) open_
  pub triangles : List Triangle
  pub mesh : IsMeshOf (map_of p) triangles
  pub tears : List Tear
  pub are_tears : AreTears p triangles tears
  pub gaps : List Gap
  pub are_gaps : AreHullGaps (map_of p) triangles gaps
  pub is : text ≡ face_lines spelled p open_ tears gaps

-- only where no lines clash is anything told of faces
pub record FacesTold (spelled : Spelling) (p : PlanParts) (count : ℕ) (text : List ℕ) : Type 0 where
  pub none : count ≡ 0 → AreFacesTold spelled p text
  pub some : 0 < count → text ≡ []

-- the text has just the loose ends
pub record AreLooseTold (spelled : Spelling) (p : PlanParts) (text : List ℕ) : Type 0 where
  pub ends : List LooseEnd
  pub are : AreLooseEnds p ends
  pub is : text ≡ kind_text spelled (loose_row spelled p) (codes "loose ends") ends

-- The text tells the pairs of lines that clash; where there are none, that the map is sound, or each open side, each torn corner and each
-- gap; the loose ends; and the likely slips.
pub record IsFaultReport (spelled : Spelling) (p : PlanParts) (text : List ℕ) : Type 0 where
  pub count : ℕ
  pub clashes : List ℕ
  pub are_clashes : AreClashesTold spelled p count clashes
  pub faces : List ℕ
  pub are_faces : FacesTold spelled p count faces
  pub ends : List ℕ
  pub are_ends : AreLooseTold spelled p ends
  pub lines : List ℕ
  pub are_lines : AreSidelessTold spelled p lines
  pub sectors : List ℕ
  pub are_sectors : AreNamelessTold spelled p sectors
  pub is : text ≡ clashes ++ faces ++ ends ++ lines ++ sectors
