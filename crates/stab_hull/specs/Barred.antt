-- Ends of two extreme lines, and a new end.
use Rattle.std.specs.Prelude.{List, [], ◌∷◌}
use Rattle.sight_names.specs.declared.names.EndAt.{EndAt}
use Rattle.geom_exact.specs.declared.extreme_lines.wedge.Wedge.{Wedge}

abbrev pub ends_and : Wedge → EndAt → List EndAt
ends_and w new = w.first.left ∷ w.first.right ∷ w.second.left ∷ w.second.right ∷ new ∷ []
