-- What a walk finds and marks.
use Rattle.std.proofs.Common.{◌≡◌, ◌≢◌, inl, inr, ⊎_elim, ℕ, zero, suc, ◌<◌, List, [], ◌∷◌, ◌++◌, Contains, Bool, cond, ltb, false, true, length, get_or, map, refl, sym, subst, arith, pos, Result, Ok, Err, IfOk}
use Rattle.pair_budget.specs.declared.results.Reached.{Reached}
use Rattle.pair_budget.specs.declared.results.SourceResult.{SourceResult}
use Rattle.pair_budget.specs.Notes.{ordered}
use Rattle.sight_names.specs.Found.{Found}
use Rattle.sight_names.specs.Map.{map_of}
use Rattle.pair_budget.specs.Exact.{IsOutcomeExact}
use Rattle.pair_budget.specs.Through.{AreThrough}
use Rattle.pair_budget.specs.Walked.{AreReached, IsOutcome}
use Rattle.pair_budget.specs.Whole.{ShowsIfComplete}
use Rattle.sight_workers.specs.declared.view.Task.{Task}
use Rattle.sight_workers.specs.declared.view.View.{View}
use Rattle.sight_workers.specs.Serves.{IsLater}
use Rattle.sight_workers.specs.Watches.{IsLookOnly}
use Rattle.sight_workers.specs.declared.job.Job.{Job}
use Rattle.sight_workers.specs.Board.{IsBoardPair, IsFindable, IsFoundWithin, task_for}
use Rattle.sight_workers.specs.Walks.{IsMarkedBy, IsSourceWalked}
use Rattle.sight_workers.proofs.Watches.{ordered_pair}
use Rattle.math_base.proofs.Lists.{contains_map, contains_append, contains_left, contains_one}

-- the pair of a source and another sector that is found from it may be marked
pub found_pair : (t : Task) (a b : ℕ) → a < t.plan.sectors → b ≢ a → b < t.plan.sectors → IsFoundWithin t a b → IsBoardPair t.plan.sectors (ordered a b) × IsFindable t (ordered a b)
found_pair t a b within other below found = (ordered_pair t.plan.sectors a b (λ e. other (sym e)) within below, findable (ltb a b))
  where
    findable : (q : Bool) → IsFindable t (cond q (a, b) (b, a))
    findable true = inl found
    findable false = inr found

-- so all that a walk of the job may tell may be marked on its board
pub told_pair : (j : Job) (workers : ℕ) (t : Task) → t ≡ task_for j workers → (a b : ℕ) → a < j.plan.now.sectors → b ≢ a → b < j.plan.now.sectors → Found (map_of j.plan.now) j.mesh.now.triangles j.labels.now a b j.budget
    → IsBoardPair t.plan.sectors (ordered a b) × IsFindable t (ordered a b)
told_pair j workers t same a b within other below found =
    subst (λ (u : Task). IsBoardPair u.plan.sectors (ordered a b) × IsFindable u (ordered a b)) (sym same) (found_pair (task_for j workers) a b within other below (record { found = found }))

pub later_look : (v w : View) → IsLookOnly v w → IsLater v w
later_look v w l = record { marks = λ p h. subst (λ (ms : List (ℕ × ℕ)). Contains ms p) (sym l.marks) h; seen = l.seen; looks = l.looks }

pub later_then : (u v w : View) → IsLater u v → IsLater v w → IsLater u w
later_then u v w a b = record { marks = λ p h. b.marks p (a.marks p h); seen = λ p h. b.seen p (a.seen p h); looks = λ p h. b.looks p (a.looks p h) }

pub marked_then : (source : ℕ) (found : List Reached) (xs ys zs : List (ℕ × ℕ)) → IsMarkedBy source found xs ys → IsMarkedBy source found ys zs → IsMarkedBy source found xs zs
marked_then source found xs ys zs a b = ((λ p h. b.0 p (a.0 p h)), (λ p h. ⊎_elim (a.1 p) (λ k. inr k) (b.1 p h)))

from_map_at : {X Y : Type 0} (h : X → Y) (xs : List X) (y : Y) (k : ℕ) → k < length (map h xs) → get_or (map h xs) k y ≡ y → (x : X) × Contains xs x × (h x ≡ y)
from_map_at h [] y k lt e = absurd (omega arith)
from_map_at h (x ∷ xs) y zero lt e = (x, (0, omega arith, refl), e)
from_map_at h (x ∷ xs) y (suc k) lt e = let q = from_map_at h xs y k (omega arith) e in (q.0, (suc q.1.0, (let w = q.1.1 in omega arith), q.1.2), q.2)

pub from_map : {X Y : Type 0} (h : X → Y) (xs : List X) (y : Y) → Contains (map h xs) y → (x : X) × Contains xs x × (h x ≡ y)
from_map h xs y c = from_map_at h xs y c.0 c.1 c.2

pub marked_one : (source : ℕ) (r : Reached) (found : List Reached) (xs : List (ℕ × ℕ)) → Contains found r → IsMarkedBy source found xs (xs ++ ordered source r.to ∷ [])
marked_one source r found xs h = (
  (λ p k. contains_left p xs (ordered source r.to ∷ []) k),
  (λ p k. ⊎_elim (λ a. inl a) (λ b. inr (subst (λ (q : ℕ × ℕ). Contains (map (λ (s : Reached). ordered source s.to) found) q) (contains_one p (ordered source r.to) b) (contains_map (λ (s : Reached). ordered source s.to) found r h))) (contains_append p xs (ordered source r.to ∷ []) k)),
)

abbrev pub spare : Reached
spare = record { to = 0; ray = record { first = record { line = 0; left = false }; last = record { line = 0; left = false }; a = pos 0; b = pos 0; c = pos 0 } }

pub ok_weaker : {A E : Type 0} (r : Result A E) (P Q : A → Type 0) → ((x : A) → P x → Q x) → IfOk r P → IfOk r Q
ok_weaker (Ok x) P Q f h = f x h
ok_weaker (Err e) P Q f h = tt

-- all that the walk of a source promises of its result
pub ok_walked : {E : Type 0} (t : Task) (source : ℕ) (result : Result SourceResult E) → IfOk result (λ (r : SourceResult). r.source ≡ source) → IfOk result (λ (r : SourceResult). AreReached t.plan source r.found) → IfOk result (λ (r : SourceResult). IsOutcome source t.budget true r.outcome)
    → IfOk result (λ (r : SourceResult). ShowsIfComplete t.plan t.mesh.triangles t.labels r.found r.outcome) → IfOk result (λ (r : SourceResult). IsOutcomeExact (map_of t.plan) t.mesh.triangles t.labels source t.budget r.found r.outcome) → IfOk result (λ (r : SourceResult). AreThrough t.plan t.mesh.triangles t.labels source r.found)
    → IfOk result (IsSourceWalked t source)
ok_walked t source (Ok r) is found outcome shown exact through = record { source_is = is; found = found; outcome = outcome; shown = shown; exact = exact; through = through }
ok_walked t source (Err e) is found outcome shown exact through = tt
