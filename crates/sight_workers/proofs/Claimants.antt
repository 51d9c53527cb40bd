-- The worker that is noted at a source is the one that claimed it.
use Rattle.std.proofs.Common.{◌≡◌, ◌≢◌, ◌⊎◌, inl, inr, ℕ, zero, suc, ◌+◌, ◌<◌, ◌≤◌, Bool, true, false, cond, eqb, ltb, List, [], ◌∷◌, ◌++◌, length, get_or, map, slice_get, slice_set, Some, refl, sym, ap, ◌∙◌, subst, arith}
use Rattle.std.specs.List.{Contains}
use Rattle.std.proofs.lemmas.Option.{same_Some, slice_get-get_or, get_or_from_slice_get}
use mathlib.Core.Logic.{dite}
use native.Mathlib.Decide.{ℕ_discrete}
use Rattle.portal_walk.proofs.Lists.{get_set_same}
use Rattle.pair_budget.specs.declared.results.SourceResult.{SourceResult}
use Rattle.sight_workers.specs.declared.view.Task.{Task}
use Rattle.sight_workers.specs.declared.view.View.{View}
use Rattle.sight_workers.specs.Board.{claims_of}
use Rattle.sight_workers.specs.Claimants.{NamesClaimants, AreClaimants}
use Rattle.sight_workers.specs.Claims.{lows}
use Rattle.sight_workers.specs.Ends.{IsViewOver, IsViewComplete}
use Rattle.sight_workers.specs.Plays.{keeper_joined}
use Rattle.sight_workers.specs.Teams.{source_of_result}
use Rattle.sight_workers.proofs.Hands.{lows_append}
use Rattle.sight_workers.proofs.Orders.{not_here}
use Rattle.sight_workers.proofs.Walks.{from_map}
use Rattle.math_base.proofs.Numbers.{tells_below}
use Rattle.math_base.proofs.Lists.{contains_append, contains_cons, contains_right, contains_left, contains_map, contains_none, contains_there, contains_here}

-- ---- one place

pub noted_there : (xs : List ℕ) (i y w : ℕ) → i < length xs → slice_get (slice_set xs i y) i ≡ Some w → w ≡ y
noted_there xs i y w l e = same_Some w y (sym e ∙ get_set_same xs i y l)

pub kept_elsewhere : (xs : List ℕ) (i y k : ℕ) → k ≢ i → slice_get (slice_set xs i y) k ≡ slice_get xs k
kept_elsewhere [] i y k n = refl
kept_elsewhere (x ∷ xs) zero y zero n = absurd (n refl)
kept_elsewhere (x ∷ xs) zero y (suc k) n = refl
kept_elsewhere (x ∷ xs) (suc i) y zero n = refl
kept_elsewhere (x ∷ xs) (suc i) y (suc k) n = kept_elsewhere xs i y k (λ e. n (ap suc e))

-- ---- the places of one worker's results

module _ (rs : List SourceResult) (worker : ℕ) (first : List ℕ) where
  -- so many of the results are noted, and at all other places stands what stood there
  pub record NotesUpTo (i : ℕ) (now : List ℕ) : Type 0 where
    pub noted : (j w : ℕ) (r : SourceResult) → j < i → slice_get rs j ≡ Some r → slice_get now r.source ≡ Some w → w ≡ worker
    pub kept : (k w : ℕ) → slice_get now k ≡ Some w → ((r : SourceResult) × Contains rs r × (r.source ≡ k)) ⊎ (slice_get first k ≡ Some w)

  pub notes_none : NotesUpTo 0 first
  notes_none = record { noted = λ j w r l at e. absurd (omega arith); kept = λ k w e. inr e }

  pub notes_next : (i : ℕ) (q : SourceResult) (now next : List ℕ) → i < length rs → q ≡ get_or rs i q → NotesUpTo i now → ((w : ℕ) → slice_get next q.source ≡ Some w → w ≡ worker) → ((k : ℕ) → k ≢ q.source → slice_get next k ≡ slice_get now k) → NotesUpTo (i + 1) next
  notes_next i q now next lt is h here elsewhere = record {
    noted = λ j w r l at e. dite (ℕ_discrete r.source q.source)
        (λ same. here w (subst (λ (k : ℕ). slice_get next k ≡ Some w) same e))
        (λ other. dite (ℕ_discrete j i)
        (λ f. absurd (other (ap (λ (x : SourceResult). x.source) (sym (is ∙ get_or_from_slice_get rs i r q (subst (λ (m : ℕ). slice_get rs m ≡ Some r) f at))))))
        (λ f. h.noted j w r (omega arith) at (sym (elsewhere r.source other) ∙ e)));
    kept = λ k w e. dite (ℕ_discrete k q.source)
        (λ same. inl (q, (i, lt, sym is), sym same))
        (λ other. h.kept k w (sym (elsewhere k other) ∙ e));
  }

  pub notes_all : (i : ℕ) (now : List ℕ) → length rs ≤ i → NotesUpTo i now → (r : SourceResult) (w : ℕ) → Contains rs r → slice_get now r.source ≡ Some w → w ≡ worker
  notes_all i now past h r w c e = h.noted c.0 w r (let l = c.1 in omega arith) (slice_get-get_or rs c.0 r c.1 ∙ ap Some c.2) e

-- ---- claims

pair_is : (c : ℕ × ℕ) (w k : ℕ) → c.0 ≡ w → c.1 ≡ k → c ≡ (w, k)
pair_is (a, b) w k e f = λ i. (e i, f i)

-- a source among claims that are all of one worker stands in a claim of that worker
low_claimed : (n k w : ℕ) (cs : List (ℕ × ℕ)) → ((c : ℕ × ℕ) → Contains cs c → c.0 ≡ w) → Contains (lows n cs) k → Contains cs (w, k)
low_claimed n k w [] own h = absurd (contains_none k h)
low_claimed n k w (c ∷ cs) own h = at (ltb c.1 n) h (low_claimed n k w cs (λ d i. own d (contains_there d c cs i)))
  where
    at : (q : Bool) → Contains (cond q (c.1 ∷ lows n cs) (lows n cs)) k → (Contains (lows n cs) k → Contains cs (w, k)) → Contains (c ∷ cs) (w, k)
    at true h rest = elim (contains_cons k c.1 (lows n cs) h) as (λ _. Contains (c ∷ cs) (w, k)) [
      | inl same ↦ subst (λ (d : ℕ × ℕ). Contains (c ∷ cs) d) (pair_is c w k (own c (contains_here c cs)) same) (contains_here c cs)
      | inr i ↦ contains_there (w, k) c cs (rest i)
    ]
    at false h rest = contains_there (w, k) c cs (rest h)

-- what was claimed is a source among the claims
low_there : (n k : ℕ) (cs : List (ℕ × ℕ)) → k < n → 0 < claims_of k cs → Contains (lows n cs) k
low_there n k [] l h = absurd (omega arith)
low_there n k (c ∷ cs) l h = dite (ℕ_discrete c.1 k)
    (λ e. subst (λ (q : Bool). Contains (cond q (c.1 ∷ lows n cs) (lows n cs)) k) (sym (tells_below c.1 n (omega arith))) (subst (λ (x : ℕ). Contains (c.1 ∷ lows n cs) x) e (contains_here c.1 (lows n cs))))
    (λ other. further (ltb c.1 n) (low_there n k cs l (let s : 0 < cond {A = ℕ} (eqb c.1 k) 1 0 + claims_of k cs = h in let z = not_here c.1 k other in omega arith)))
  where
    further : (q : Bool) → Contains (lows n cs) k → Contains (cond q (c.1 ∷ lows n cs) (lows n cs)) k
    further true i = contains_there k c.1 (lows n cs) i
    further false i = i

-- once a worker's seat is joined, and it is noted at the sources of its results
pub names_more : (n : ℕ) (v u : View) (worker : ℕ) (rs : List SourceResult) (old new : List ℕ) → ((c : ℕ × ℕ) → Contains u.claims c → c.0 ≡ worker) → map source_of_result rs ≡ lows n u.claims
    → ((r : SourceResult) (w : ℕ) → Contains rs r → slice_get new r.source ≡ Some w → w ≡ worker) → ((k w : ℕ) → slice_get new k ≡ Some w → ((r : SourceResult) × Contains rs r × (r.source ≡ k)) ⊎ (slice_get old k ≡ Some w))
    → NamesClaimants n v old → NamesClaimants n (keeper_joined v u) new
names_more n v u worker rs old new own sources noted kept names k w low at =
    elim (contains_append k (lows n v.claims) (lows n u.claims) (subst (λ (ks : List ℕ). Contains ks k) (lows_append n v.claims u.claims) low)) as (λ _. Contains (v.claims ++ u.claims) (w, k)) [
      | inl before ↦ elim (kept k w at) as (λ _. Contains (v.claims ++ u.claims) (w, k)) [
        | inl r ↦ theirs r
        | inr same ↦ contains_left (w, k) v.claims u.claims (names k w before same)
      ]
      | inr now ↦ theirs (from_map source_of_result rs k (subst (λ (ks : List ℕ). Contains ks k) (sym sources) now))
    ]
  where
    theirs : (r : SourceResult) × Contains rs r × (r.source ≡ k) → Contains (v.claims ++ u.claims) (w, k)
    theirs (r, there, is) =
        let same : w ≡ worker = noted r w there (subst (λ (x : ℕ). slice_get new x ≡ Some w) (sym is) at) in
        let claimed : Contains (lows n u.claims) k = subst (λ (ks : List ℕ). Contains ks k) sources (subst (λ (x : ℕ). Contains (map source_of_result rs) x) is (contains_map source_of_result rs r there)) in
        subst (λ (x : ℕ). Contains (v.claims ++ u.claims) (x, k)) (sym same) (contains_right (worker, k) v.claims u.claims (low_claimed n k worker u.claims own claimed))

-- once all seats were joined, each source's worker is the one that claimed it
pub all_named : (t : Task) (n : ℕ) (v : View) (workers : List ℕ) → v.task ≡ t → n ≡ t.plan.sectors → IsViewOver v → IsViewComplete v → NamesClaimants n v workers → AreClaimants t workers
all_named t n v workers task same over complete names = record {
  view = v;
  task = task;
  over = over;
  complete = complete;
  claimed = λ k w lt at. names k w (low_there n k v.claims (subst (λ (m : ℕ). k < m) (sym same) lt) (one k (subst (λ (y : Task). k < y.plan.sectors) (sym task) lt))) at;
}
  where
    one : (k : ℕ) → k < v.task.plan.sectors → 0 < claims_of k v.claims
    one k lt = let e = complete.once k lt in omega arith
