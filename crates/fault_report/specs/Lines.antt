-- The lines of the report, one for each fault, in words.
use Rattle.std.specs.Prelude.{ℕ, nat_eq, List, ◌++◌, Option, Some, None, codes, option_and_then, slice_get, slice_index_or, if◌then◌else◌}
use Rattle.std.specs.Fmt.{decimal, signed_decimal}
use Rattle.sight_names.specs.declared.names.Pt.{Pt}
use Rattle.sight_names.specs.declared.names.Side.{Side}
use Rattle.sight_names.specs.declared.plan.Line.{Line}
use Rattle.sight_names.specs.declared.faults.LineFault.{LineFault}
use Rattle.sight_names.specs.declared.faults.LineFault.TheVariants.{Cross, Touch, Overlap}
use Rattle.sight_names.specs.Map.{map_of, named, origin}
use Rattle.sight_names.specs.Plan.{PlanParts}
use Rattle.sight_names.specs.Texts.{side_text}
use Rattle.map_faults.specs.declared.clashes.LinePair.{LinePair}
use Rattle.map_faults.specs.declared.gaps.Gap.{Gap}
use Rattle.map_faults.specs.declared.loose_ends.LooseEnd.{LooseEnd}
use Rattle.map_faults.specs.declared.tears.Tear.{Tear}
use Rattle.fault_report.specs.declared.clashes.Clash.{Clash}
use Rattle.fault_report.specs.declared.slips.Nameless.{Nameless}
use Rattle.fault_report.specs.declared.slips.Sideless.{Sideless}

-- ---- places

-- the point with this number
abbrev pub spot : PlanParts → ℕ → Pt
spot p k = slice_index_or p.points k origin

abbrev pub point_text : Pt → List ℕ
point_text c = signed_decimal c.x ++ codes " " ++ signed_decimal c.y

abbrev pub way_text : PlanParts → ℕ → ℕ → List ℕ
way_text p from to = codes " from " ++ point_text (spot p from) ++ codes " to " ++ point_text (spot p to)

abbrev pub line_text : PlanParts → Option Line → List ℕ
line_text p (Some l) = way_text p l.a l.b
line_text p None = codes ""

-- from where to where the line of this record goes, which it has
abbrev pub line_ends_text : PlanParts → ℕ → List ℕ
line_ends_text p i = line_text p (option_and_then (λ (l : Option Line). l) (slice_get p.lines i))

-- ---- a line a fault

abbrev pub two : ℕ → ℕ → List ℕ
two i j = decimal i ++ codes " " ++ decimal j

abbrev pub clash_words : LineFault → List ℕ
clash_words (Cross i j) = codes "cross " ++ two i j
clash_words (Touch i j) = codes "touch " ++ two i j
clash_words (Overlap i j) = codes "overlap " ++ two i j

-- where the two meet, or where the first one goes
abbrev pub place_text : PlanParts → LinePair → Option Pt → List ℕ
place_text p pair (Some c) = codes " at " ++ point_text c
place_text p pair None = line_ends_text p pair.i

abbrev pub clash_line : PlanParts → Clash → List ℕ
clash_line p c = clash_words c.fault ++ place_text p c.pair c.at ++ codes "\n"

abbrev pub sector_text : Option ℕ → List ℕ
sector_text (Some a) = codes " of sector " ++ decimal a
sector_text None = codes ""

abbrev pub open_line : PlanParts → Side → List ℕ
open_line p s = codes "open " ++ side_text s ++ sector_text (named (map_of p) s) ++ line_ends_text p s.line ++ codes "\n"

abbrev pub tear_line : PlanParts → Tear → List ℕ
tear_line p t = codes "torn corner at " ++ point_text (spot p t.point) ++ codes " by " ++ side_text t.side ++ codes "\n"

abbrev pub gap_line : PlanParts → Gap → List ℕ
gap_line p g = codes "gap" ++ way_text p g.from g.to ++ codes "\n"

abbrev pub loose_line : PlanParts → LooseEnd → List ℕ
loose_line p e = codes "loose end at " ++ point_text (spot p e.point) ++ codes " of line " ++ decimal e.line ++ codes "\n"

abbrev pub sideless_line : PlanParts → Sideless → List ℕ
sideless_line p s = codes "slip: line " ++ decimal s.line ++ codes " has no side" ++ line_ends_text p s.line ++ codes "\n"

abbrev pub nameless_line : PlanParts → Nameless → List ℕ
nameless_line p s = codes "slip: sector " ++ decimal s.sector ++ codes " has no side\n"

-- how many more there are, where there are more
abbrev pub rest_text : ℕ → List ℕ → List ℕ
rest_text n more = if nat_eq n 0 then codes "" else codes "and " ++ decimal n ++ codes " more " ++ more ++ codes "\n"
