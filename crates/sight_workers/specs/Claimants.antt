-- Which worker claimed which source.
use Rattle.std.specs.Prelude.{◌≡◌, ℕ, ◌<◌, List, Some, slice_get}
use Rattle.std.specs.List.{Contains}
use Rattle.sight_workers.specs.declared.view.Task.{Task}
use Rattle.sight_workers.specs.declared.view.View.{View}
use Rattle.sight_workers.specs.Claims.{lows}
use Rattle.sight_workers.specs.Ends.{IsViewOver, IsViewComplete}

-- at the place of each source that was claimed stands a worker whose claim it is
abbrev pub NamesClaimants : ℕ → View → List ℕ → Type 0
NamesClaimants n v workers = (k w : ℕ) → Contains (lows n v.claims) k → slice_get workers k ≡ Some w → Contains v.claims (w, k)

-- What the board's own seat knew once each worker's seat was joined: each source stands in one claim there, and that is the
-- claim of the worker at its place. `gather` says it of the board itself, which is closed when `walk_all` answers.
pub record AreClaimants (t : Task) (workers : List ℕ) : Type 0 where
  pub view : View
  pub task : view.task ≡ t
  pub over : IsViewOver view
  pub complete : IsViewComplete view
  pub claimed : (k w : ℕ) → k < t.plan.sectors → slice_get workers k ≡ Some w → Contains view.claims (w, k)
