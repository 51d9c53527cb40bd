-- What is entered and its stops, put together from marks.
use Rattle.std.proofs.Common.{ℕ, ◌<◌, ◌⊎◌, ◌↔◌, inl, inr, List, Bool, Option, length, sym, subst}
use Rattle.sight_names.specs.declared.names.Budget.{Budget}
use Rattle.sight_names.specs.declared.names.Triangle.{Triangle}
use Rattle.sight_names.specs.Map.{Map}
use Rattle.sight_names.specs.Order.{Ascends}
use Rattle.pair_answer.specs.declared.entered_triangles.entered.Entered.{Entered}
use Rattle.pair_answer.specs.EnteredTriangles.Answer.{EndsWithin}
use Rattle.pair_answer.specs.EnteredTriangles.Entered.{IsInSight, IsOfSource}
use Rattle.pair_answer.specs.EnteredTriangles.Marks.{IsListOf, IsNumberMarked}
use Rattle.pair_answer.specs.EnteredTriangles.Stops.{AreStopsOf, StopBefore}
use Rattle.pair_answer.specs.EnteredTriangles.Walks.{AllEnded}
use Rattle.pair_answer.proofs.EnteredTriangles.Stopping.{stops_so}

module _ (m : Map) (ts : List Triangle) (ls : List (Option ℕ)) (budget : Budget) (sources : List ℕ) (e : Entered) (marks both : List Bool) where
  -- marks of what is entered, and marks of the sources' triangles, too
  pub together : AllEnded m ts ls budget sources marks → IsListOf marks e.triangles.items → ((k : ℕ) → k < length marks → IsNumberMarked both k ↔ (IsOfSource ls sources k ⊎ IsNumberMarked marks k)) → Ascends StopBefore e.stops.items → AreStopsOf m ts (IsNumberMarked both) e.stops.items
      → EndsWithin m ts ls budget sources e
  together ended listed more ascend stops = record {
    unspent = ended.unspent;
    entered = record {
      ascend = listed.ascend;
      exactly = λ k. (λ c. (ended.marked k).0 ((listed.exactly k).0 c), λ x. (listed.exactly k).1 ((ended.marked k).1 x));
      stops_ascend = ascend;
      stops = stops_so m ts (IsNumberMarked both) (IsInSight m ts ls sources) same e.stops.items stops;
    };
  }
    where
      to : (k : ℕ) → IsOfSource ls sources k ⊎ IsNumberMarked marks k → IsInSight m ts ls sources k
      to k (inl x) = inl x
      to k (inr x) = inr ((ended.marked k).0 x)

      back : (k : ℕ) → IsInSight m ts ls sources k → IsOfSource ls sources k ⊎ IsNumberMarked marks k
      back k (inl x) = inl x
      back k (inr x) = inr ((ended.marked k).1 x)

      same : (k : ℕ) → k < length ts → IsNumberMarked both k ↔ IsInSight m ts ls sources k
      same k low =
          let h = more k (subst (λ (n : ℕ). k < n) (sym ended.each) low) in
          (λ c. to k (h.0 c), λ x. h.1 (back k x))
