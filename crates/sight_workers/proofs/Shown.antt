-- The words show which numbers were claimed and which pairs were marked.
use Rattle.std.proofs.Common.{◌≡◌, ◌≢◌, ℕ, suc, ◌<◌, ◌≤◌, Bool, cond, eqb, List, [], ◌∷◌, get_or, refl, sym, ap, ◌∙◌, subst, arith}
use Rattle.std.specs.List.{Contains}
use Rattle.std.proofs.lemmas.Bool.Decides.{nat_tests}
use mathlib.Core.Logic.{dite}
use mathlib.Core.Option.{some}
use native.Mathlib.Decide.{ℕ_discrete}
use lib.ListN.{get_elem?}
use Rattle.sight_workers.specs.declared.view.View.{View}
use Rattle.sight_workers.specs.Board.{IsFindable, IsPairMarked, IsBoardPair, IsBitSet, bit_in_word, claims_of, once_below, weigh, bit_word_of}
use Rattle.sight_workers.specs.Shown.{IsNumberClaimed, WordsShowViews}
use Rattle.sight_workers.proofs.Lists.{claim_below}
use Rattle.sight_workers.proofs.Places.{same_pair, word_inside}
use Rattle.math_base.proofs.Numbers.{is_told_same}
use Rattle.math_base.proofs.Lists.{contains_there, contains_here}
use Rattle.math_base.proofs.Bools.{by_value}
use Rattle.sight_workers.proofs.Ends.{one_below}

-- where a sum is not 0, some summand is not
weigh_some : {X : Type 0} (f : X → ℕ) (xs : List X) → weigh f xs ≢ 0 → (i : ℕ) × (x : X) × (get_elem? xs i ≡ some x) × (f x ≢ 0)
weigh_some f [] h = absurd (h refl)
weigh_some f (x ∷ xs) h = dite (ℕ_discrete (f x) 0) (λ z. let r = weigh_some f xs (λ e. h (omega arith)) in (suc r.0, r.1, r.2, r.3)) (λ n. (0, x, refl, n))

claim_some : (x : ℕ) (cs : List (ℕ × ℕ)) → claims_of x cs ≢ 0 → (w : ℕ) × Contains cs (w, x)
claim_some x [] h = absurd (h refl)
claim_some x (c ∷ cs) h = by_value (eqb c.1 x)
    (λ e. (c.0, subst (λ (y : ℕ). Contains (c ∷ cs) (c.0, y)) (is_told_same c.1 x e) (contains_here c cs)))
    (λ e. let f : cond {A = ℕ} (eqb c.1 x) 1 0 ≡ 0 = ap (λ (q : Bool). cond {A = ℕ} q 1 0) e in let r = claim_some x cs (λ z. h (omega arith)) in (r.0, contains_there (r.0, x) c cs r.1))

claimed_below : (x n : ℕ) → x < n → once_below x n ≢ 0
claimed_below x n h = let e : once_below x n ≡ 1 = one_below x n h in λ z. absurd (omega arith)

at_most_one : (x n : ℕ) → once_below x n ≤ 1
at_most_one x n = grind (arith, nat_tests)

pub shown : WordsShowViews
shown t s r = record {
  claimed = λ x. (is_claimed x, λ h. claim_below s.views h.0 h.1 (get_or s.words 0 0) h.3 r.once (h.2, x) h.4);
  once = λ x. let e = r.once x in let l = at_most_one x (get_or s.words 0 0) in omega arith;
  marked = λ p pair. ((λ h. (found p pair h).1), (λ m. ((r.each m.0 m.1 m.2).marks p m.3).1));
  findable = λ p m. let k = (r.each m.0 m.1 m.2).marks p m.3 in (k.0, (found p k.0 k.1).0);
  seen = λ seat v p at h. let k = (r.each seat v at).seen p h in (found p k.0 k.1).1;
}
  where
    is_claimed : (x : ℕ) → x < get_or s.words 0 0 → IsNumberClaimed s.views x
    is_claimed x l =
        let v = weigh_some (λ (y : View). claims_of x y.claims) s.views (λ z. claimed_below x (get_or s.words 0 0) l (sym (r.once x) ∙ z)) in
        let c = claim_some x v.1.claims v.3 in
        (v.0, v.1, c.0, v.2, c.1)

    -- a pair whose bit is set
    found : (p : ℕ × ℕ) → IsBoardPair t.plan.sectors p → IsBitSet t.plan.sectors s.words p → IsFindable t p × IsPairMarked s.views p
    found p pair is_set =
        let m = r.bits (bit_word_of t.plan.sectors p) (bit_in_word t.plan.sectors p) (word_inside t.plan.sectors p pair) (omega arith) is_set in
        let e : m.0 ≡ p = same_pair t.plan.sectors m.0 p m.1 pair m.2 m.3 in
        subst (λ (q : ℕ × ℕ). IsFindable t q × IsPairMarked s.views q) e (m.4, m.5)
