-- What is answered, in the words of the map: its least open side, its least mixed pair of sides, or the labels of a good mesh.
use Rattle.std.specs.Prelude.{◌≡◌, ℕ, ◌⊎◌, List, Option, Result, Ok, Err}
use Rattle.sight_names.specs.declared.names.Side.{Side}
use Rattle.sight_names.specs.declared.names.Triangle.{Triangle}
use Rattle.sight_names.specs.declared.faults.LabelFault.{LabelFault}
use Rattle.sight_names.specs.declared.faults.LabelFault.TheVariants.{Open, Mixed, Memory}
use Rattle.sight_names.specs.Point.{Point}
use Rattle.sight_names.specs.Map.{Map, named, Names}
use Rattle.sight_names.specs.Path.{Touches, Leads}
use Rattle.sight_names.specs.Sound.{IsOutside, IsClosed, NamesAgree}
use Rattle.sight_names.specs.Mesh.{AreLabelsOf, IsGoodMesh}
use Rattle.mesh_shape.specs.Faults.{IsSideBefore, IsFirstSideAgainst}

-- if the side names a sector, no point that touches it has a path to a point outside the hull: the map is closed
-- exactly where this holds of each side
abbrev pub IsClosedSide : Map → Side → Type 0
IsClosedSide m s = (a : ℕ) (p q : Point) → Names m s a → Touches m p s → Leads m p q → ¬ IsOutside m q

-- if a point touches both sides, they name the same, or both name none
abbrev pub AgreeAt : Map → Side → Side → Type 0
AgreeAt m s t = (p : Point) → Touches m p s → Touches m p t → named m s ≡ named m t

-- the least pair of sides against P, the lesser side first: by its first side and then by its second
pub record IsFirstSidePairAgainst (P : Side → Side → Type 0) (s t : Side) : Type 0 where
  pub order : IsSideBefore s t
  pub against : ¬ P s t
  pub before : (u v : Side) → IsSideBefore u v → IsSideBefore u s ⊎ ((u ≡ s) × IsSideBefore v t) → P u v

-- the map is closed, names agree, and these are the labels of a good mesh
pub record AreFoundLabels (m : Map) (ts : List Triangle) (ls : List (Option ℕ)) : Type 0 where
  pub closed : IsClosed m
  pub agree : NamesAgree m
  pub labels : AreLabelsOf m ts ls
  pub good : IsGoodMesh m ts ls

abbrev pub IsLabelVerdict : Map → List Triangle → Result (List (Option ℕ)) LabelFault → Type 0
IsLabelVerdict m ts (Ok ls) = AreFoundLabels m ts ls
IsLabelVerdict m ts (Err (Open s)) = IsFirstSideAgainst (IsClosedSide m) s
IsLabelVerdict m ts (Err (Mixed s t)) = IsClosed m × IsFirstSidePairAgainst (AgreeAt m) s t
IsLabelVerdict m ts (Err (Memory _)) = Unit {0}
