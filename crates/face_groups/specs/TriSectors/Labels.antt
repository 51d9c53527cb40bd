-- What is answered where the faces are known, and where the sides are.
use Rattle.std.specs.Prelude.{◌≡◌, ℕ, ◌<◌, List, Option, Bool, Result, Ok, Err}
use Rattle.sight_names.specs.declared.names.Side.{Side}
use Rattle.sight_names.specs.declared.names.Triangle.{Triangle}
use Rattle.sight_names.specs.declared.faults.LabelFault.{LabelFault}
use Rattle.sight_names.specs.declared.faults.LabelFault.TheVariants.{Open, Mixed, Memory}
use Rattle.sight_names.specs.Map.{Map}
use Rattle.mesh_shape.specs.Faults.{IsFirstSideAgainst}
use Rattle.face_groups.specs.declared.tri_sectors.sides.FacedSide.{FacedSide}
use Rattle.face_groups.specs.TriSectors.Sides.{IsSealedAt, AreFaced, AreAlike, IsFirstMixed, AreNames, AreLabelled}

-- the sides on each face name the same, and each triangle has the name of its face
pub record AreFaceLabels (fs : List ℕ) (ss : List FacedSide) (ls : List (Option ℕ)) : Type 0 where
  pub alike : (i j : ℕ) → i < j → AreAlike ss i j
  pub names : List (Option ℕ)
  pub are_names : AreNames ss names
  pub labelled : AreLabelled fs names ls

-- the least pair of sides on one face that don't name the same
pub record IsMixedPair (ss : List FacedSide) (a b : Side) : Type 0 where
  pub i : ℕ
  pub j : ℕ
  pub least : IsFirstMixed ss i j
  pub first : a ≡ least.first.side
  pub second : b ≡ least.second.side

abbrev pub IsSidesVerdict : List ℕ → List FacedSide → Result (List (Option ℕ)) LabelFault → Type 0
IsSidesVerdict fs ss (Ok ls) = AreFaceLabels fs ss ls
IsSidesVerdict fs ss (Err (Open s)) = ⊥
IsSidesVerdict fs ss (Err (Mixed a b)) = IsMixedPair ss a b
IsSidesVerdict fs ss (Err (Memory _)) = Unit {0}

-- no side is open, and these are the sides that have triangles
pub record AreSealed (m : Map) (ts : List Triangle) (fs : List ℕ) (os : List Bool) (ss : List FacedSide) : Type 0 where
  pub each : (s : Side) → IsSealedAt m ts fs os s
  pub faced : AreFaced m ts fs ss

abbrev pub IsLabelsVerdict : Map → List Triangle → List ℕ → List Bool → Result (List (Option ℕ)) LabelFault → Type 0
IsLabelsVerdict m ts fs os (Ok ls) = (ss : List FacedSide) × AreSealed m ts fs os ss × AreFaceLabels fs ss ls
IsLabelsVerdict m ts fs os (Err (Open s)) = IsFirstSideAgainst (IsSealedAt m ts fs os) s
IsLabelsVerdict m ts fs os (Err (Mixed a b)) = (ss : List FacedSide) × AreSealed m ts fs os ss × IsMixedPair ss a b
IsLabelsVerdict m ts fs os (Err (Memory _)) = Unit {0}
