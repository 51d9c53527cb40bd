-- A budget that is enough for every source of a map over a mesh, and the budget that an order asks for.
use Rattle.std.specs.Prelude.{◌≡◌, ℕ, ◌*◌, max, List, Option, Some, None, length, filter, Bool, false, not}
use Rattle.sight_names.specs.declared.names.Triangle.{Triangle}
use Rattle.sight_names.specs.declared.names.Budget.{Budget}
use Rattle.sight_names.specs.declared.names.Budget.TheVariants.{Of, Full}
use Rattle.sight_names.specs.declared.names.Ask.{Ask}
use Rattle.sight_names.specs.declared.names.Ask.TheVariants.{Of as AskOf, Full as AskFull, Enough}
use Rattle.sight_names.specs.Map.{Map, MapLine}
use Rattle.sight_names.specs.Points.{points_of}
use Rattle.sight_names.specs.Mesh.{IsMeshOf}

abbrev pub is_passable : Option MapLine → Bool
is_passable None = false
is_passable (Some l) = not l.solid

-- how many lines aren't solid
abbrev pub passable_lines : Map → ℕ
passable_lines m = length (filter is_passable m.lines)

-- the passable lines, times the points, times the points, times the triangles, but at least 1
abbrev pub enough_of : Map → List Triangle → ℕ
enough_of m ts = max 1 (passable_lines m * length (points_of m) * length (points_of m) * length ts)

-- the budget that is asked for; where it is to be enough, the number of the map's own mesh
abbrev pub IsBudgetOf : Map → Ask → Budget → Type 0
IsBudgetOf m (AskOf n) budget = budget ≡ Of n
IsBudgetOf m AskFull budget = budget ≡ Full
IsBudgetOf m Enough budget = (ts : List Triangle) × IsMeshOf m ts × (budget ≡ Of (enough_of m ts))
