-- What a picture of the plan alone calls for.
use Rattle.std.specs.Prelude.{◌≡◌, ℕ, List, Result, Ok}
use Rattle.sight_names.specs.Map.{Map}
use Rattle.map_answers.specs.declared.sight_status.status.Status.{Status}
use Rattle.map_answers.specs.SightStatus.Answer.{Answer}
use Rattle.map_picture.specs.Bytes.{svg_of}
use Rattle.map_picture.specs.Picture.{NamedParts, plan_picture}
use Rattle.map_answers.specs.Groups.{MapGroups, OnAudited}
use Rattle.draw_answers.specs.Drawn.{Drawing, one_picture}
use Rattle.draw_answers.specs.Lines.{plan_line}

abbrev pub plan_drawing : NamedParts → Map → MapGroups → Drawing
plan_drawing name m g = record { bytes = svg_of m (plan_picture name m g.groups g.triangles g.labels); line = plan_line name.text m }

-- over the groups of a map that is sound
abbrev pub PlanCall : NamedParts → List ℕ → Map → MapGroups → Result Answer Status → Type 0
PlanCall name out m g answer = answer ≡ Ok (one_picture out (plan_drawing name m g))

-- the answers that it calls for
abbrev pub DrawPlanCalls : NamedParts → List ℕ → Map → Result Answer Status → Type 0
DrawPlanCalls name out m answer = OnAudited m (PlanCall name out m) answer
