-- The line of each fault in one of the two spellings, and the lines of the faults of one kind.
use Rattle.std.specs.Prelude.{ℕ, ◌-◌, List, ◌++◌, codes, length, take}
use Rattle.std.specs.List.{flat_map}
use Rattle.sight_names.specs.declared.names.Side.{Side}
use Rattle.sight_names.specs.Plan.{PlanParts}
use Rattle.row_spelling.specs.declared.Spelling.{Spelling}
use Rattle.row_spelling.specs.declared.Spelling.TheVariants as spelling
use Rattle.map_faults.specs.declared.gaps.Gap.{Gap}
use Rattle.map_faults.specs.declared.loose_ends.LooseEnd.{LooseEnd}
use Rattle.map_faults.specs.declared.tears.Tear.{Tear}
use Rattle.fault_report.specs.declared.clashes.Clash.{Clash}
use Rattle.fault_report.specs.declared.kinds.TheConstants.{MOST_LINES}
use Rattle.fault_report.specs.declared.slips.Nameless.{Nameless}
use Rattle.fault_report.specs.declared.slips.Sideless.{Sideless}
use Rattle.fault_report.specs.Json.{clash_json, gap_json, loose_json, nameless_json, open_json, rest_json, sideless_json, tear_json}
use Rattle.fault_report.specs.Lines.{clash_line, gap_line, loose_line, nameless_line, open_line, rest_text, sideless_line, tear_line}

abbrev pub clash_row : Spelling → PlanParts → Clash → List ℕ
clash_row spelling.Text = clash_line
clash_row spelling.Json = clash_json

abbrev pub open_row : Spelling → PlanParts → Side → List ℕ
open_row spelling.Text = open_line
open_row spelling.Json = open_json

abbrev pub tear_row : Spelling → PlanParts → Tear → List ℕ
tear_row spelling.Text = tear_line
tear_row spelling.Json = tear_json

abbrev pub gap_row : Spelling → PlanParts → Gap → List ℕ
gap_row spelling.Text = gap_line
gap_row spelling.Json = gap_json

abbrev pub loose_row : Spelling → PlanParts → LooseEnd → List ℕ
loose_row spelling.Text = loose_line
loose_row spelling.Json = loose_json

abbrev pub sideless_row : Spelling → PlanParts → Sideless → List ℕ
sideless_row spelling.Text = sideless_line
sideless_row spelling.Json = sideless_json

abbrev pub nameless_row : Spelling → PlanParts → Nameless → List ℕ
nameless_row spelling.Text = nameless_line
nameless_row spelling.Json = nameless_json

-- that the map is sound
abbrev pub sound_row : Spelling → List ℕ
sound_row spelling.Text = codes "sound\n"
sound_row spelling.Json = codes "{\"sound\":true}\n"

-- ---- the lines of one kind

-- how many more there are, where there are more
abbrev pub rest_row : Spelling → ℕ → List ℕ → List ℕ
rest_row spelling.Text = rest_text
rest_row spelling.Json = rest_json

-- the lines of the first ones, and how many more there are
abbrev pub kind_text : {X : Type 0} → Spelling → (X → List ℕ) → List ℕ → List X → List ℕ
kind_text spelled line more xs = flat_map line (take MOST_LINES xs) ++ rest_row spelled (length xs - MOST_LINES) more
