-- The arrows round torn corners.
use Rattle.std.specs.Prelude.{◌≡◌, ℕ, ◌⊎◌, List, [], ◌∷◌, ◌++◌, Option, Some}
use Rattle.sight_names.specs.declared.names.Side.{Side}
use Rattle.sight_names.specs.declared.names.Triangle.{Triangle}
use Rattle.sight_names.specs.Map.{Map, map_of}
use Rattle.sight_names.specs.Plan.{PlanParts}
use Rattle.map_faults.specs.declared.tears.Tear.{Tear}
use Rattle.map_faults.specs.EdgeSides.{AreEdgeSides}
use Rattle.map_faults.specs.Tears.{AreTearsBy, DoesName, TurnsRound}
use Rattle.map_picture.specs.declared.arrows.Arrow.{Arrow}

abbrev pub arrow_round : ℕ → ℕ → ℕ → Arrow
arrow_round x point y = record { from = x; point = point; to = y }

-- one for each triangle that one passes who turns round the point from x across the edges to these points, and comes to w
abbrev pub arrows_round : ℕ → ℕ → List ℕ → ℕ → List Arrow
arrows_round point x [] w = arrow_round x point w ∷ []
arrows_round point x (y ∷ ys) w = arrow_round x point y ∷ arrows_round point y ys w

-- of a corner at a side that names a sector those of the turn, which crosses no line; of another one none
abbrev pub AreArrowsAt : Map → List Triangle → List (Option Side) → Tear → List Arrow → Type 0
AreArrowsAt m ts ss t ws = (DoesName m (Some t.side) × ((ys : List ℕ) × TurnsRound ts ss t.point t.from ys t.to × (ws ≡ arrows_round t.point t.from ys t.to)))
    ⊎ ((¬ DoesName m (Some t.side)) × (ws ≡ []))

abbrev pub AddsArrows : Map → List Triangle → List (Option Side) → Tear → List Arrow → List Arrow → Type 0
AddsArrows m ts ss t old new = (ws : List Arrow) × AreArrowsAt m ts ss t ws × (new ≡ old ++ ws)

-- those of each corner, one after the other
abbrev pub AreArrowsOf : Map → List Triangle → List (Option Side) → List Tear → List Arrow → Type 0
AreArrowsOf m ts ss [] ws = ws ≡ []
AreArrowsOf m ts ss (t ∷ tears) ws = (first : List Arrow) × (rest : List Arrow) × AreArrowsAt m ts ss t first × AreArrowsOf m ts ss tears rest × (ws ≡ first ++ rest)

-- just the torn corners, by what the sides of the edges are, and the arrows round them
abbrev pub AreTornWith : PlanParts → List Triangle → List Tear → List Arrow → Type 0
AreTornWith p ts tears ws = (ss : List (Option Side)) × AreEdgeSides (map_of p) ts ss × AreTearsBy p ts ss tears × AreArrowsOf (map_of p) ts ss tears ws
