-- Rays of pairs of groups: those that are found to be sight rays, and in the order of their pairs.
use Rattle.std.specs.Prelude.{◌≡◌, ℕ, ◌*◌, ◌<◌, ◌≤◌, ◌⊎◌, ◌++◌, List, [], ◌∷◌, Some, All, Bool, true, Contains, drop, length, slice_get, take}
use Rattle.sight_names.specs.declared.names.PairRay.{PairRay}
use Rattle.sight_names.specs.Map.{map_of}
use Rattle.sight_names.specs.Order.{Ascends, PairBefore}
use Rattle.sight_names.specs.Plan.{PlanParts}
use Rattle.sight_names.specs.Ray.{IsSightRay}
use Rattle.pair_budget.specs.PairRays.{HasRayFor}
use Rattle.task_crew.specs.Done.{AreTasksDone}
use Rattle.found_rays.specs.declared.ray_parts.TheConstants.{PART}

-- ---- what walks find

-- the ray of a pair of groups, the smaller one first: a sight ray from the one to the other
pub record IsFoundRay (p : PlanParts) (r : PairRay) : Type 0 where
  pub order : r.pair.a < r.pair.b
  pub first : r.ray.first.line < length p.lines
  pub last : r.ray.last.line < length p.lines
  pub sight : IsSightRay (map_of p) r.ray r.pair.a r.pair.b

-- whether the rays in the part with this number are all such rays; where it is false nothing is said of them
abbrev pub AreFoundIn : PlanParts → List PairRay → ℕ → Bool → Type 0
AreFoundIn p rays i found = found ≡ true → All (IsFoundRay p) (take PART (drop (i * PART) rays))

-- what was found of parts that have all the rays
pub record ArePartsFound (p : PlanParts) (rays : List PairRay) (found : List Bool) : Type 0 where
  pub count : ℕ
  pub enough : length rays ≤ count * PART
  pub done : AreTasksDone (AreFoundIn p rays) count found

-- ---- order

abbrev pub RayBefore : PairRay → PairRay → Type 0
RayBefore r s = PairBefore r.pair s.pair

-- the pair of each of the rays comes before that of this one
abbrev pub IsBehindAll : List PairRay → PairRay → Type 0
IsBehindAll rays r = (i : ℕ) (s : PairRay) → slice_get rays i ≡ Some s → PairBefore s.pair r.pair

-- the pair of one of the rays doesn't come before that of this one
abbrev pub IsBehindNot : List PairRay → PairRay → Type 0
IsBehindNot rays r = (s : PairRay) × Contains rays s × ¬ PairBefore s.pair r.pair

-- the ray is put behind the others, if its pair comes behind theirs
abbrev pub IsRayAdded : PairRay → List PairRay → List PairRay → Type 0
IsRayAdded r old new = (IsBehindAll old r × (new ≡ old ++ r ∷ [])) ⊎ (IsBehindNot old r × (new ≡ old))

-- of those rays one for each pair, by their pairs
pub record AreOneEach (all rays : List PairRay) : Type 0 where
  pub ascend : Ascends RayBefore rays
  pub from : (r : PairRay) → Contains rays r → Contains all r
  pub pairs : (r : PairRay) → Contains all r → HasRayFor rays r.pair.a r.pair.b

-- found rays by their pairs
pub record AreFoundInOrder (p : PlanParts) (rays : List PairRay) : Type 0 where
  pub found : (r : PairRay) → Contains rays r → IsFoundRay p r
  pub ascend : Ascends RayBefore rays
