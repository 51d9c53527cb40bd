-- The sectors that the walk of a source has found so far, and how it goes on.
use Rattle.std.specs.Prelude.{◌≡◌, ℕ, ◌-◌, List, Option, Some, None, Contains, slice_get, length, Bool, true, if◌then◌else◌, nat_eq}
use Rattle.sight_names.specs.declared.names.Budget.{Budget}
use Rattle.sight_names.specs.declared.names.Budget.TheVariants.{Of, Full}
use Rattle.sight_names.specs.Plan.{PlanParts}
use Rattle.pair_budget.specs.declared.results.Reached.{Reached}
use Rattle.pair_budget.specs.Walked.{AreReached}
use Rattle.pair_budget.specs.Whole.{IsFound}

-- the plan, the source, and the sectors that it found
pub record FoundSectorsParts : Type 0 where
  pub plan : PlanParts
  pub source : ℕ
  pub found : List Reached

-- each sector that was found has its mark
abbrev pub AreFoundMarked : List Bool → List Reached → Type 0
AreFoundMarked seen found = (k : ℕ) (r : Reached) → slice_get found k ≡ Some r → slice_get seen r.to ≡ Some true

pub record AreFoundSectors (f : FoundSectorsParts) (seen : List Bool) : Type 0 where
  pub one_each : length seen ≡ f.plan.sectors
  pub reached : AreReached f.plan f.source f.found
  pub marked : AreFoundMarked seen f.found
  pub only : (b : ℕ) → slice_get seen b ≡ Some true → IsFound f.found b

-- the same plan and source, and no sector is lost
pub record Extends (old new : FoundSectorsParts) : Type 0 where
  pub plan : new.plan ≡ old.plan
  pub source : new.source ≡ old.source
  pub keeps : (r : Reached) → Contains old.found r → Contains new.found r

-- the budget with one sequence less, None where there is none left
abbrev pub one_less : Budget → Option Budget
one_less Full = Some Full
one_less (Of n) = if nat_eq n 0 then None else Some (Of (n - 1))
