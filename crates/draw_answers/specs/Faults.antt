-- What a picture of a map's faults calls for.
use Rattle.std.specs.Prelude.{◌≡◌, ℕ, List, Option, Some, None, Result, Ok, Err}
use Rattle.sight_names.specs.Groups.{HasClosedFaces}
use Rattle.sight_names.specs.Map.{Map}
use Rattle.map_answers.specs.declared.sight_status.status.Flaw.{Flaw}
use Rattle.map_answers.specs.declared.sight_status.status.Status.{Status}
use Rattle.map_answers.specs.declared.sight_status.status.Status.TheVariants as status
use Rattle.fault_marks.specs.declared.marks.FaultMarks.{FaultMarks}
use Rattle.fault_marks.specs.Marks.{AreOfClashes, AreOfOpenFaces}
use Rattle.map_answers.specs.declared.sight_status.status.Flaw.TheVariants as flaw
use Rattle.map_answers.specs.SightStatus.Answer.{Answer}
use Rattle.map_picture.specs.Bytes.{svg_of}
use Rattle.map_picture.specs.Picture.{NamedParts, marked_picture, plan_picture}
use Rattle.map_answers.specs.Groups.{IsMapWithGroups, MapGroups}
use Rattle.map_answers.specs.Sound.{IsFlaw}
use Rattle.draw_answers.specs.Drawn.{Drawing, one_picture}
use Rattle.draw_answers.specs.Lines.{faultless_line, flaw_line}

-- the marks that a flaw calls for: where it is of two lines all clashes, else all that is open
abbrev pub AreMarksOf : Map → Flaw → FaultMarks → Type 0
AreMarksOf m (flaw.Line fault) x = AreOfClashes m x
AreMarksOf m (flaw.Open side) x = AreOfOpenFaces m x

-- the plan with these marks; the line tells the flaw that is first
abbrev pub flaw_drawing : NamedParts → Map → Flaw → FaultMarks → Drawing
flaw_drawing name m which x = record { bytes = svg_of m (marked_picture name m x.left_out x.lines x.faults x.arrows); line = flaw_line name.text which }

-- with those that the flaw calls for
pub record ShowsFlaw (name : NamedParts) (m : Map) (which : Flaw) (d : Drawing) : Type 0 where
  pub marks : FaultMarks
  pub are : AreMarksOf m which marks
  pub is : d ≡ flaw_drawing name m which marks

abbrev pub plain_drawing : NamedParts → Map → MapGroups → Drawing
plain_drawing name m g = record { bytes = svg_of m (plan_picture name m g.groups g.triangles g.labels); line = faultless_line name.text }

-- the plan over the groups of a map without a fault
pub record IsPlainDrawing (name : NamedParts) (m : Map) (d : Drawing) : Type 0 where
  pub groups : MapGroups
  pub over : IsMapWithGroups m groups
  pub is : d ≡ plain_drawing name m groups

-- what is drawn of a map of which this fault is told first, or none
abbrev pub DrawsFault : NamedParts → Map → Option Flaw → Drawing → Type 0
DrawsFault name m (Some which) d = ShowsFlaw name m which d
DrawsFault name m None d = IsPlainDrawing name m d

-- what the audit tells first, or nothing
abbrev pub IsAuditFaultOf : Map → Option Flaw → Type 0
IsAuditFaultOf m (Some which) = IsFlaw m (Err (status.BadMap which))
IsAuditFaultOf m None = HasClosedFaces m

pub record ShowsAuditFault (name : NamedParts) (out : List ℕ) (m : Map) (answer : Answer) : Type 0 where
  pub fault : Option Flaw
  pub first : IsAuditFaultOf m fault
  pub shown : Drawing
  pub draws : DrawsFault name m fault shown
  pub is : answer ≡ one_picture out shown

-- the answers that it calls for; no map is refused for its faults
abbrev pub DrawFaultsCalls : NamedParts → List ℕ → Map → Result Answer Status → Type 0
DrawFaultsCalls name out m (Ok answer) = ShowsAuditFault name out m answer
DrawFaultsCalls name out m (Err refusal) = ⊥
