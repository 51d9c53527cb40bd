-- Where a source's walk doesn't find a sector that it sees, its budget is spent; one more source that found none of the targets.
use Rattle.std.proofs.Common.{◌≡◌, ◌≢◌, ℕ, ◌+◌, ◌<◌, ◌≤◌, ◌⊎◌, ◌↔◌, inl, inr, List, Bool, IsTrue, Option, Some, slice_get, length, Contains, sym, ◌∙◌, subst, arith}
use Rattle.std.proofs.lemmas.Option.{same_Some, slice_get_within}
use Rattle.math_base.proofs.Numbers.{below_or_not}
use Rattle.sight_names.specs.declared.names.Budget.{Budget}
use Rattle.sight_names.specs.declared.names.Budget.TheVariants.{Of, Full}
use Rattle.sight_names.specs.declared.names.Triangle.{Triangle}
use Rattle.sight_names.specs.Found.{Found, Reaches, Spent}
use Rattle.sight_names.specs.Map.{Map, IsMap}
use Rattle.sight_names.specs.Mesh.{IsGoodMesh}
use Rattle.sight_names.specs.Sees.{Sees}
use Rattle.sight_names.specs.Sequence.{Sequence}
use Rattle.sight_names.specs.Sound.{LinesMeetAtEnds}
use Rattle.sight_names.proofs.Lists.{get_of_contains}
use Rattle.sight_lift.proofs.LiftLaws.{sight_is_lifted}
use Rattle.sight_lift.specs.SequenceLaws.InOrder.{AreSequencesInOrder}
use Rattle.sight_lift.proofs.SequenceLaws.All.{stand_in_order}
use Rattle.pair_answer.specs.Numbers.{added, IsAmongFirst}
use Rattle.pair_answer.specs.Walks.{AreMissed, AreMissedBelow, MissesAllTargets}
use Rattle.pair_answer.proofs.Numbers.{added_is, among_contains, among_last, among_more, among_next, contains_among}

module _ (m : Map) (ts : List Triangle) (ls : List (Option ℕ)) (good : IsGoodMesh m ts ls) (a b : ℕ) where
  order : AreSequencesInOrder m ts ls a
  order = stand_in_order m ts ls a good

  place : (s : Sequence) → Reaches m ts ls a s b → (i : ℕ) × (slice_get order.all i ≡ Some s)
  place s r = let c = (order.are.exactly s).1 (r.0, r.1, r.2) in (c.0, get_of_contains order.all s c.0 c.1 c.2)

  -- where a sequence reaches a sector that isn't found, the budget ran out before it
  spent_if_missed : (budget : Budget) (s : Sequence) → Reaches m ts ls a s b → ¬ Found m ts ls a b budget → Spent m ts ls a budget
  spent_if_missed Full s r missed = let i = place s r in absurd (missed ((order.found b Full).1 (i.0, s, i.1, tt, r)))
  spent_if_missed (Of n) s r missed = at (place s r) (below_or_not (place s r).0 n)
    where
      at : (i : (k : ℕ) × (slice_get order.all k ≡ Some s)) → (i.0 < n) ⊎ (n ≤ i.0) → Spent m ts ls a (Of n)
      at i (inl l) = absurd (missed ((order.found b (Of n)).1 (i.0, s, i.1, l, r)))
      at i (inr l) = (order.spent n).1 (let w = slice_get_within order.all i.0 s i.1 in omega (arith, w, l))

  pub spent_if_seen : IsMap m → LinesMeetAtEnds m → (budget : Budget) → a ≢ b → Sees m a b → ¬ Found m ts ls a b budget → Spent m ts ls a budget
  spent_if_seen is_map ends budget differ sees missed = let r = (sight_is_lifted m ts ls a b is_map ends good differ).0 sees in spent_if_missed budget r.0 r.1 missed

-- ---- one more source

module _ (m : Map) (ts : List Triangle) (ls : List (Option ℕ)) (budget : Budget) (sources targets : List ℕ) where
  pub missed_more : (n x : ℕ) (old new : List ℕ) (b : Bool) → slice_get sources n ≡ Some x → AreMissedBelow m ts ls budget n sources targets old → MissesAllTargets m ts ls budget x targets × (IsTrue b ↔ Spent m ts ls x budget) → new ≡ added b x old
      → AreMissedBelow m ts ls budget (n + 1) sources targets new
  missed_more n x old new b there all is e = record {
    missed = λ f h. elim (among_next n sources f h) as (λ _. MissesAllTargets m ts ls budget f targets) [
      | inl k ↦ all.missed f k
      | inr q ↦ subst (λ (y : ℕ). MissesAllTargets m ts ls budget y targets) (same f q) is.0
    ];
    ran_out = λ f. (λ c. to f ((added_is b x old new e f).0 c), λ h. (added_is b x old new e f).1 (back f h));
  }
    where
      same : (f : ℕ) → slice_get sources n ≡ Some f → x ≡ f
      same f q = same_Some x f (sym there ∙ q)

      to : (f : ℕ) → Contains old f ⊎ (IsTrue b × (x ≡ f)) → IsAmongFirst (n + 1) sources f × Spent m ts ls f budget
      to f (inl c) = let h = (all.ran_out f).0 c in (among_more n sources f h.0, h.1)
      to f (inr (t, q)) = (subst (λ (y : ℕ). IsAmongFirst (n + 1) sources y) q (among_last n sources x there), subst (λ (y : ℕ). Spent m ts ls y budget) q (is.1.0 t))

      back : (f : ℕ) → IsAmongFirst (n + 1) sources f × Spent m ts ls f budget → Contains old f ⊎ (IsTrue b × (x ≡ f))
      back f h = elim (among_next n sources f h.0) as (λ _. Contains old f ⊎ (IsTrue b × (x ≡ f))) [
        | inl k ↦ inl ((all.ran_out f).1 (k, h.1))
        | inr q ↦ inr (is.1.1 (subst (λ (y : ℕ). Spent m ts ls y budget) (sym (same f q)) h.1), same f q)
      ]

  pub missed_all : (n : ℕ) (spent : List ℕ) → length sources ≤ n → AreMissedBelow m ts ls budget n sources targets spent → AreMissed m ts ls budget sources targets spent
  missed_all n spent le all = record {
    missed = λ f c. all.missed f (contains_among n sources f le c);
    ran_out = λ f. (λ c. let h = (all.ran_out f).0 c in (among_contains n sources f h.0, h.1), λ h. (all.ran_out f).1 (contains_among n sources f le h.0, h.1));
  }
