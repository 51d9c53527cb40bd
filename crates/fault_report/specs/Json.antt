-- The lines of the report, one for each fault, as JSON objects.
use Rattle.std.specs.Prelude.{ℕ, nat_eq, List, ◌++◌, Option, Some, None, codes, option_and_then, slice_get, if◌then◌else◌}
use Rattle.std.specs.Fmt.{decimal, signed_decimal}
use Rattle.sight_names.specs.declared.names.Pt.{Pt}
use Rattle.sight_names.specs.declared.names.Side.{Side}
use Rattle.sight_names.specs.declared.plan.Line.{Line}
use Rattle.sight_names.specs.declared.faults.LineFault.{LineFault}
use Rattle.sight_names.specs.declared.faults.LineFault.TheVariants.{Cross, Touch, Overlap}
use Rattle.sight_names.specs.Map.{map_of, named}
use Rattle.sight_names.specs.Plan.{PlanParts}
use Rattle.sight_names.specs.Texts.{side_text}
use Rattle.map_faults.specs.declared.clashes.LinePair.{LinePair}
use Rattle.map_faults.specs.declared.gaps.Gap.{Gap}
use Rattle.map_faults.specs.declared.loose_ends.LooseEnd.{LooseEnd}
use Rattle.map_faults.specs.declared.tears.Tear.{Tear}
use Rattle.fault_report.specs.declared.clashes.Clash.{Clash}
use Rattle.fault_report.specs.declared.slips.Nameless.{Nameless}
use Rattle.fault_report.specs.declared.slips.Sideless.{Sideless}
use Rattle.fault_report.specs.Lines.{spot}

-- ---- members

-- a point is a list of two numbers
unfoldable pub at_json : Pt → List ℕ
at_json c = codes "[" ++ signed_decimal c.x ++ codes "," ++ signed_decimal c.y ++ codes "]"

unfoldable pub way_json : PlanParts → ℕ → ℕ → List ℕ
way_json p from to = codes ",\"from\":" ++ at_json (spot p from) ++ codes ",\"to\":" ++ at_json (spot p to)

abbrev pub line_json : PlanParts → Option Line → List ℕ
line_json p (Some l) = way_json p l.a l.b
line_json p None = codes ""

-- from where to where the line of this record goes, which it has
unfoldable pub ends_json : PlanParts → ℕ → List ℕ
ends_json p i = line_json p (option_and_then (λ (l : Option Line). l) (slice_get p.lines i))

-- a side is a text
unfoldable pub side_json : Side → List ℕ
side_json s = codes "\"" ++ side_text s ++ codes "\""

unfoldable pub two_json : ℕ → ℕ → List ℕ
two_json i j = codes "[" ++ decimal i ++ codes "," ++ decimal j ++ codes "]"

-- ---- an object a fault

abbrev pub clash_member : LineFault → List ℕ
clash_member (Cross i j) = codes "\"cross\",\"lines\":" ++ two_json i j
clash_member (Touch i j) = codes "\"touch\",\"lines\":" ++ two_json i j
clash_member (Overlap i j) = codes "\"overlap\",\"lines\":" ++ two_json i j

-- where the two meet, or where the first one goes
abbrev pub place_json : PlanParts → LinePair → Option Pt → List ℕ
place_json p pair (Some c) = codes ",\"at\":" ++ at_json c
place_json p pair None = ends_json p pair.i

abbrev pub clash_json : PlanParts → Clash → List ℕ
clash_json p c = codes "{\"fault\":" ++ clash_member c.fault ++ place_json p c.pair c.at ++ codes "}\n"

abbrev pub sector_json : Option ℕ → List ℕ
sector_json (Some a) = codes ",\"sector\":" ++ decimal a
sector_json None = codes ""

abbrev pub open_json : PlanParts → Side → List ℕ
open_json p s = codes "{\"fault\":\"open\",\"side\":" ++ side_json s ++ sector_json (named (map_of p) s) ++ ends_json p s.line ++ codes "}\n"

abbrev pub tear_json : PlanParts → Tear → List ℕ
tear_json p t = codes "{\"fault\":\"torn corner\",\"at\":" ++ at_json (spot p t.point) ++ codes ",\"by\":" ++ side_json t.side ++ codes "}\n"

abbrev pub gap_json : PlanParts → Gap → List ℕ
gap_json p g = codes "{\"fault\":\"gap\"" ++ way_json p g.from g.to ++ codes "}\n"

abbrev pub loose_json : PlanParts → LooseEnd → List ℕ
loose_json p e = codes "{\"fault\":\"loose end\",\"at\":" ++ at_json (spot p e.point) ++ codes ",\"line\":" ++ decimal e.line ++ codes "}\n"

abbrev pub sideless_json : PlanParts → Sideless → List ℕ
sideless_json p s = codes "{\"slip\":\"line without a side\",\"line\":" ++ decimal s.line ++ ends_json p s.line ++ codes "}\n"

abbrev pub nameless_json : PlanParts → Nameless → List ℕ
nameless_json p s = codes "{\"slip\":\"sector without a side\",\"sector\":" ++ decimal s.sector ++ codes "}\n"

-- how many more there are, where there are more
abbrev pub rest_json : ℕ → List ℕ → List ℕ
rest_json n more = if nat_eq n 0 then codes "" else codes "{\"more\":" ++ decimal n ++ codes ",\"of\":\"" ++ more ++ codes "\"}\n"
