-- What sight out of some sources enters, and where it ends.
use Rattle.std.specs.Prelude.{ℕ, ◌<◌, ◌↔◌, List, Option, Some, None, Contains}
use Rattle.sight_names.specs.declared.names.Budget.{Budget}
use Rattle.sight_names.specs.declared.names.Triangle.{Triangle}
use Rattle.sight_names.specs.Found.{Spent}
use Rattle.sight_names.specs.Map.{Map}
use Rattle.sight_names.specs.Order.{Ascends}
use Rattle.pair_answer.specs.declared.entered_triangles.entered.Entered.{Entered}
use Rattle.pair_answer.specs.EnteredTriangles.Entered.{IsEntered, IsInSight}
use Rattle.pair_answer.specs.EnteredTriangles.Stops.{AreStopsOf, StopBefore}
use Rattle.pair_answer.specs.EnteredTriangles.Walks.{IsOneSpent}

-- exactly the triangles that sight out of the sources enters, and the segments through which one could pass from these, or from
-- triangles of the sources, to others; both in order, each once
pub record AreEnteredOutOf (m : Map) (ts : List Triangle) (ls : List (Option ℕ)) (sources : List ℕ) (e : Entered) : Type 0 where
  pub ascend : Ascends ◌<◌ e.triangles.items
  pub exactly : (k : ℕ) → Contains e.triangles.items k ↔ IsEntered m ts ls sources k
  pub stops_ascend : Ascends StopBefore e.stops.items
  pub stops : AreStopsOf m ts (IsInSight m ts ls sources) e.stops.items

-- where no source has more than the budget; None where one has
pub record EndsWithin (m : Map) (ts : List Triangle) (ls : List (Option ℕ)) (budget : Budget) (sources : List ℕ) (e : Entered) : Type 0 where
  pub unspent : (a : ℕ) → Contains sources a → ¬ Spent m ts ls a budget
  pub entered : AreEnteredOutOf m ts ls sources e

abbrev pub IsEnteredWithin : Map → List Triangle → List (Option ℕ) → Budget → List ℕ → Option Entered → Type 0
IsEnteredWithin m ts ls budget sources None = IsOneSpent m ts ls budget sources
IsEnteredWithin m ts ls budget sources (Some e) = EndsWithin m ts ls budget sources e
