-- The answer for two sectors of a map, over its groups.
use Rattle.std.specs.Prelude.{◌≡◌, ℕ, ◌<◌, ◌≤◌, ◌⊎◌, List, length}
use Rattle.sight_names.specs.declared.names.Ask.{Ask}
use Rattle.sight_names.specs.declared.names.Pair.{Pair}
use Rattle.sight_names.specs.declared.names.Ray.{Ray}
use Rattle.sight_names.specs.Groups.{AreGroups, HasClosedFaces, IsGroupedMap, IsInGroup, IsListedByGroups}
use Rattle.sight_names.specs.Map.{Map, map_of}
use Rattle.sight_names.specs.Mesh.{AreLabelsOf, IsMeshOf}
use Rattle.sight_names.specs.Plan.{PlanParts}
use Rattle.sight_names.specs.Ray.{IsSightRay}
use Rattle.sight_names.specs.Sees.{Sees}
use Rattle.mesh_shape.specs.Shape.{MeshParts}
use Rattle.face_groups.specs.declared.grouping.Grouped.{Grouped}
use Rattle.group_job.specs.Built.{FindsEither, WalkedMap}
use Rattle.pair_answer.specs.declared.answer.PairAnswer.{PairAnswer}
use Rattle.pair_answer.specs.declared.answer.PairAnswer.TheVariants as answer

-- the map of the plan has closed faces; these are its mesh, its groups, its map of groups, and the labels of that
pub record AreGroupsOverShape (p : PlanParts) (shape : MeshParts) (g : Grouped) : Type 0 where
  pub faces : HasClosedFaces (map_of p)
  pub groups : AreGroups (map_of p) g.groups
  pub grouped : IsGroupedMap (map_of p) g.groups (map_of g.plan)
  pub mesh : IsMeshOf (map_of p) shape.triangles
  pub labelled : AreLabelsOf (map_of g.plan) shape.triangles g.labels
  pub points : shape.points ≡ length g.plan.points

-- a group contains both sectors: a face belongs to both
abbrev pub AreTouching : List (List ℕ) → ℕ → ℕ → Type 0
AreTouching groups a b = (f : ℕ) × IsInGroup groups a f × IsInGroup groups b f

module _ (m : Map) (ask : Ask) (groups : List (List ℕ)) (w : WalkedMap m ask groups) (a b : ℕ) where
  -- The ray is a sight ray from a group of the one sector to a group of the other, as the rays of a certificate are; and one of
  -- the two groups is found from the other within the budget.
  pub record IsRayOfGroups (ray : Ray) : Type 0 where
    pub f : ℕ
    pub k : ℕ
    pub from : IsInGroup groups a f
    pub to : IsInGroup groups b k
    pub sight : IsSightRay w.g ray f k
    pub found : FindsEither w f k

  -- the answer over the groups and their map; for sectors alone
  abbrev pub IsAnswerOver : PairAnswer → Type 0
  IsAnswerOver (answer.Sight ray) = (¬ AreTouching groups a b) × IsRayOfGroups ray
  IsAnswerOver answer.Blind = (¬ Sees m a b) × ¬ IsListedByGroups m w.budget a b
  IsAnswerOver answer.Touch = AreTouching groups a b
  IsAnswerOver answer.Listed = IsListedByGroups m w.budget a b
  IsAnswerOver (answer.NoSector n) = ⊥

-- the answer within the budget that is asked for. There is one of each: groups, their map with its mesh, and budget.
pub record AnswersPair (m : Map) (ask : Ask) (pair : Pair) (given : PairAnswer) : Type 0 where
  pub first : pair.a < m.sectors
  pub second : pair.b < m.sectors
  pub groups : List (List ℕ)
  pub are_groups : AreGroups m groups
  pub walked : WalkedMap m ask groups
  pub is : IsAnswerOver m ask groups walked pair.a pair.b given

-- the first number of the pair that is of no sector
abbrev pub IsMissing : Map → Pair → ℕ → Type 0
IsMissing m pair k = ((k ≡ pair.a) × (m.sectors ≤ pair.a)) ⊎ ((k ≡ pair.b) × (pair.a < m.sectors) × (m.sectors ≤ pair.b))

abbrev pub IsAnswerFor : Map → Ask → Pair → PairAnswer → Type 0
IsAnswerFor m ask pair (answer.NoSector k) = IsMissing m pair k
IsAnswerFor m ask pair given = AnswersPair m ask pair given
