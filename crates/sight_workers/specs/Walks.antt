-- What the walk of a source gives a worker.
use Rattle.std.specs.Prelude.{◌≡◌, ℕ, List, Contains, map, true}
use Rattle.pair_budget.specs.declared.results.Reached.{Reached}
use Rattle.pair_budget.specs.declared.results.SourceResult.{SourceResult}
use Rattle.sight_names.specs.Map.{map_of}
use Rattle.pair_budget.specs.Exact.{IsOutcomeExact}
use Rattle.pair_budget.specs.Notes.{ordered, EntriesGrow}
use Rattle.pair_budget.specs.Through.{AreThrough}
use Rattle.pair_budget.specs.Walked.{AreReached, IsOutcome, MarksFound}
use Rattle.pair_budget.specs.Whole.{ShowsIfComplete}
use Rattle.sight_workers.specs.declared.view.Task.{Task}

-- the result of the walk of this source, as `walk_source` promises it
pub record IsSourceWalked (t : Task) (source : ℕ) (r : SourceResult) : Type 0 where
  pub source_is : r.source ≡ source
  pub found : AreReached t.plan source r.found
  pub outcome : IsOutcome source t.budget true r.outcome
  pub shown : ShowsIfComplete t.plan t.mesh.triangles t.labels r.found r.outcome
  pub exact : IsOutcomeExact (map_of t.plan) t.mesh.triangles t.labels source t.budget r.found r.outcome
  pub through : AreThrough t.plan t.mesh.triangles t.labels source r.found

-- the pair of the source and a sector that this result found
abbrev pub IsFoundIn : SourceResult → ℕ × ℕ → Type 0
IsFoundIn r p = Contains (map (λ (k : Reached). ordered r.source k.to) r.found) p

-- the marks grew by pairs of the source and a sector found, if at all
abbrev pub IsMarkedBy : ℕ → List Reached → List (ℕ × ℕ) → List (ℕ × ℕ) → Type 0
IsMarkedBy source found xs ys = EntriesGrow xs ys × MarksFound source found xs ys
