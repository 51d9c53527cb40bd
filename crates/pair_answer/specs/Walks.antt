-- What walks of sources in search of targets give.
use Rattle.std.specs.Prelude.{ℕ, ◌↔◌, List, Option, Contains, IsTrue}
use Rattle.sight_names.specs.declared.names.Budget.{Budget}
use Rattle.sight_names.specs.declared.names.Ray.{Ray}
use Rattle.sight_names.specs.declared.names.Triangle.{Triangle}
use Rattle.sight_names.specs.Found.{Found, Spent}
use Rattle.sight_names.specs.Map.{Map}
use Rattle.sight_names.specs.Ray.{IsSightRay}
use Rattle.pair_budget.specs.declared.results.Reached.{Reached}
use Rattle.pair_answer.specs.declared.walks.AllSought.{AllSought}
use Rattle.pair_answer.specs.declared.walks.AllSought.TheVariants as all
use Rattle.pair_answer.specs.declared.walks.Sought.{Sought}
use Rattle.pair_answer.specs.declared.walks.Sought.TheVariants as one
use Rattle.pair_answer.specs.Numbers.{IsAmongFirst}

-- this one was found, and is a target
pub record IsFoundTarget (targets : List ℕ) (found : List Reached) (r : Reached) : Type 0 where
  pub there : Contains found r
  pub target : Contains targets r.to

-- none that was found is a target
abbrev pub HasNoTarget : List ℕ → List Reached → Type 0
HasNoTarget targets found = (r : Reached) → Contains found r → ¬ Contains targets r.to

module _ (m : Map) (ts : List Triangle) (ls : List (Option ℕ)) (budget : Budget) where
  -- the ray is a sight ray from this source to one of the targets, which is found from it
  pub record IsRayToTarget (f : ℕ) (targets : List ℕ) (ray : Ray) : Type 0 where
    pub k : ℕ
    pub target : Contains targets k
    pub sight : IsSightRay m ray f k
    pub found : Found m ts ls f k budget

  -- none of the targets is found from the source
  abbrev pub MissesAllTargets : ℕ → List ℕ → Type 0
  MissesAllTargets f targets = (k : ℕ) → Contains targets k → ¬ Found m ts ls f k budget

  -- what the walk of one source gives
  abbrev pub IsSought : ℕ → List ℕ → Sought → Type 0
  IsSought f targets (one.Ray ray) = IsRayToTarget f targets ray
  IsSought f targets (one.Missed ran_out) = MissesAllTargets f targets × (IsTrue ran_out ↔ Spent m ts ls f budget)

  -- the ray is one from one of these sources
  pub record IsRayFrom (sources targets : List ℕ) (ray : Ray) : Type 0 where
    pub f : ℕ
    pub source : Contains sources f
    pub is_ray : IsRayToTarget f targets ray

  -- none of the targets is found from the sources, and these are the sources whose budgets are spent
  pub record AreMissed (sources targets spent : List ℕ) : Type 0 where
    pub missed : (f : ℕ) → Contains sources f → MissesAllTargets f targets
    pub ran_out : (f : ℕ) → Contains spent f ↔ (Contains sources f × Spent m ts ls f budget)

  -- what the walks of all sources give
  abbrev pub AreSought : List ℕ → List ℕ → AllSought → Type 0
  AreSought sources targets (all.Ray ray) = IsRayFrom sources targets ray
  AreSought sources targets (all.Missed spent) = AreMissed sources targets spent.items

  -- of the first n sources
  pub record AreMissedBelow (n : ℕ) (sources targets spent : List ℕ) : Type 0 where
    pub missed : (f : ℕ) → IsAmongFirst n sources f → MissesAllTargets f targets
    pub ran_out : (f : ℕ) → Contains spent f ↔ (IsAmongFirst n sources f × Spent m ts ls f budget)
