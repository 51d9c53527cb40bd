-- What the words of a board show of what its seats know, and what all seats know of the words.
use Rattle.std.specs.Prelude.{◌≡◌, ◌↔◌, ℕ, ◌<◌, ◌≤◌, List, slice_index}
use Rattle.std.specs.List.{Contains}
use mathlib.Core.Option.{some}
use lib.ListN.{get_elem?}
use Rattle.atomic_table.specs.Table.{State}
use Rattle.sight_workers.specs.declared.view.Task.{Task}
use Rattle.sight_workers.specs.declared.view.View.{View}
use Rattle.sight_workers.specs.Board.{Holds, IsFindable, IsPairMarked, IsBoardPair, IsBitSet, claims_of, weigh}

-- the number stands in a claim of some view
abbrev pub IsNumberClaimed : List View → ℕ → Type 0
IsNumberClaimed views x = (seat : ℕ) × (v : View) × (worker : ℕ) × (get_elem? views seat ≡ some v) × Contains v.claims (worker, x)

pub record AreViewsShown {S : Type 0} (t : Task) (s : State S View) : Type 0 where
  -- the numbers below the claim word are those that were claimed, and each stands in one claim
  pub claimed : (x : ℕ) → (x < slice_index s.words 0) ↔ IsNumberClaimed s.views x
  pub once : (x : ℕ) → weigh (λ (v : View). claims_of x v.claims) s.views ≤ 1
  -- a pair's bit is set exactly where some seat has marked it
  pub marked : (p : ℕ × ℕ) → IsBoardPair t.plan.sectors p → IsBitSet t.plan.sectors s.words p ↔ IsPairMarked s.views p
  -- what a seat has marked is a pair of which the one is found from the other within the budget
  pub findable : (p : ℕ × ℕ) → IsPairMarked s.views p → IsBoardPair t.plan.sectors p × IsFindable t p
  -- what a seat has seen some seat has marked
  pub seen : (seat : ℕ) (v : View) (p : ℕ × ℕ) → get_elem? s.views seat ≡ some v → Contains v.seen p → IsPairMarked s.views p

abbrev pub WordsShowViews : Type 0
WordsShowViews = (t : Task) (s : State (Unit {0}) View) → Holds t s → AreViewsShown t s
