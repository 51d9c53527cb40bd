-- The plan whose sectors are groups: each side names the label of its triangle.
use Rattle.std.specs.Prelude.{ℕ, List, Option, map, option_map, option_and_then}
use Rattle.sight_names.specs.declared.names.Triangle.{Triangle}
use Rattle.sight_names.specs.declared.plan.Line.{Line}
use Rattle.sight_names.specs.Plan.{PlanParts}
use Rattle.sight_names.specs.Points.{Edge}
use Rattle.sight_names.specs.Mesh.{label_of, triangle_at}

-- the label of the triangle at the directed edge
abbrev pub label_at_edge : List Triangle → List (Option ℕ) → Edge → Option ℕ
label_at_edge ts ls e = option_and_then (label_of ls) (triangle_at ts e)

-- right sides go from the second end to the first
abbrev pub regrouped : List Triangle → List (Option ℕ) → Line → Line
regrouped ts ls l = record { a = l.a; b = l.b; solid = l.solid; right = label_at_edge ts ls (record { from = l.b; to = l.a }); left = label_at_edge ts ls (record { from = l.a; to = l.b }) }

-- with so many groups
abbrev pub regrouped_plan : List Triangle → List (Option ℕ) → ℕ → PlanParts → PlanParts
regrouped_plan ts ls n p = record { sectors = n; points = p.points; lines = map (option_map (regrouped ts ls)) p.lines }
