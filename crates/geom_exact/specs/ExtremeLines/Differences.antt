-- Differences of points, as arrows.
use Rattle.sight_names.specs.declared.names.Pt.{Pt}
use Rattle.plane_base.specs.Arrows.{Arrow, arrow_difference}

-- a point, as the arrow to it
abbrev pub arrow_to : Pt → Arrow
arrow_to p = record { x = p.x; y = p.y }

-- from the right end to the left end
abbrev pub difference : Pt → Pt → Arrow
difference left right = arrow_difference (arrow_to left) (arrow_to right)
