-- The laws over every run.
use Rattle.std.proofs.Common.{◌≡◌, ◌≢◌, ◌⊎◌, inl, inr, ⊎_elim, ℕ, zero, suc, ◌+◌, ◌^◌, max, Bool, true, false, cond, eqb, ltb, List, [], ◌∷◌, ◌++◌, length, replicate, refl, sym, ap, ◌∙◌, subst, arith, add_assoc, zero-add}
use Rattle.std.specs.List.{Contains}
use Rattle.std.specs.Int.{bit_at}
use Rattle.std.proofs.lemmas.Bool.Decides.{nat_tests}
use Rattle.std.proofs.lemmas.List.{append-nil, append_assoc}
use Rattle.std.proofs.lemmas.Nat.Bits.{bit_at_or, bit_at-pow_same, bit_at-pow_other, bit_at-zero, bit_at-lt}
use mathlib.Core.Logic.{dite}
use native.Mathlib.Decide.{ℕ_discrete}
use mathlib.Core.Option.{some, some-injective, some-ne-none}
use lib.ListN.{get_elem?}
use Rattle.pair_budget.specs.declared.board_core.event.Event.{Event}
use Rattle.pair_budget.specs.declared.board_core.event.Event.TheVariants.{Claim, Look, Mark, End}
use Rattle.sight_names.specs.declared.names.Pair.{Pair}
use Rattle.math_base.proofs.Lists.{contains_here, contains_none, contains_one, contains_cons, contains_left, contains_right, contains_append}
use Rattle.pair_budget.specs.BoardCore.Machine.{State, Worker, CanStep, after, change, with_claim, with_mark, at_end, bits_in, word_of, bit_of, pair}
use Rattle.pair_budget.specs.BoardCore.Machine.{idle, start}
use Rattle.pair_budget.specs.BoardCore.Runs.{IsRun, state_after, gift, handed, times, numbers_to, HandsOutOnce, MarksTruly, LooksGrow, LooksTruly, IsBitShown}
use Rattle.math_base.proofs.Numbers.{is_told_same, bit_of_right, bit_of_left, tells_same, tells_other}

times-append : (x : ℕ) (cs ds : List (ℕ × ℕ)) → times x (cs ++ ds) ≡ times x cs + times x ds
times-append x [] ds = sym (zero-add (times x ds))
times-append x (c ∷ cs) ds = ap (λ (k : ℕ). cond (eqb c.1 x) 1 0 + k) (times-append x cs ds) ∙ sym (add_assoc (cond (eqb c.1 x) 1 0) (times x cs) (times x ds))

one_gift : (s : State) (e : Event) (x : ℕ) → cond {A = ℕ} (ltb x s.next) 1 0 + times x (gift s e) ≡ cond (ltb x (after s e).next) 1 0
one_gift s (Claim k) x = at (ltb s.next s.sectors)
  where
    more : (x y : ℕ) → cond {A = ℕ} (ltb x y) 1 0 + (cond (eqb y x) 1 0 + 0) ≡ cond (ltb x (y + 1)) 1 0
    more x y = grind (arith, nat_tests)

    at : (b : Bool) → cond {A = ℕ} (ltb x s.next) 1 0 + times x (cond b ((k, s.next) ∷ []) []) ≡ cond (ltb x (cond b (record s { next = s.next + 1; workers = change (with_claim s.next) k s.workers }) s).next) 1 0
    at true = more x s.next
    at false = omega arith
one_gift s (Look k i) x = omega arith
one_gift s (Mark k a b) x = omega arith
one_gift s (End k) x = omega arith

all_gifts : (s : State) (es : List Event) (x : ℕ) → cond {A = ℕ} (ltb x s.next) 1 0 + times x (handed s es) ≡ cond (ltb x (state_after s es).next) 1 0
all_gifts s [] x = omega arith
all_gifts s (e ∷ es) x = let a = one_gift s e x in let b = all_gifts (after s e) es x in let c = times-append x (gift s e) (handed (after s e) es) in omega arith

-- what was handed out over a run from the start
hands_once : (n workers : ℕ) (findable : List Pair) (es : List Event) (x : ℕ) → times x (handed (start n workers findable) es) ≡ cond (ltb x (state_after (start n workers findable) es).next) 1 0
hands_once n workers findable es x = let a = all_gifts (start n workers findable) es x in below_none x _ a
  where
    below_none : (x k : ℕ) → cond {A = ℕ} (ltb x 0) 1 0 + k ≡ cond (ltb x (state_after (start n workers findable) es).next) 1 0 → k ≡ cond (ltb x (state_after (start n workers findable) es).next) 1 0
    below_none x k e = let z : cond {A = ℕ} (ltb x 0) 1 0 ≡ 0 = none_below x in omega arith
      where
        none_below : (x : ℕ) → cond {A = ℕ} (ltb x 0) 1 0 ≡ 0
        none_below x = grind (arith, nat_tests)

-- a worker after a change, and before it
change_at : (f : Worker → Worker) (k : ℕ) (ws : List Worker) (j : ℕ) (w : Worker) → get_elem? (change f k ws) j ≡ some w → (v : Worker) × (get_elem? ws j ≡ some v) × ((w ≡ f v) ⊎ (w ≡ v))
change_at f k [] j w e = absurd (some-ne-none w (sym e))
change_at f zero (v ∷ ws) zero w e = (v, refl, inl (sym (some-injective (f v) w e)))
change_at f zero (v ∷ ws) (suc j) w e = (w, e, inr refl)
change_at f (suc k) (v ∷ ws) zero w e = (v, refl, inr (sym (some-injective v w e)))
change_at f (suc k) (v ∷ ws) (suc j) w e = change_at f k ws j w e

change_to : (f : Worker → Worker) (k : ℕ) (ws : List Worker) (j : ℕ) (v : Worker) → get_elem? ws j ≡ some v → (w : Worker) × (get_elem? (change f k ws) j ≡ some w) × ((w ≡ f v) ⊎ (w ≡ v))
change_to f k [] j v e = absurd (some-ne-none v (sym e))
change_to f zero (u ∷ ws) zero v e = (f u, refl, inl (ap f (some-injective u v e)))
change_to f zero (u ∷ ws) (suc j) v e = (v, e, inr refl)
change_to f (suc k) (u ∷ ws) zero v e = (v, e, inr refl)
change_to f (suc k) (u ∷ ws) (suc j) v e = change_to f k ws j v e

pub change_here : (f : Worker → Worker) (k : ℕ) (ws : List Worker) (v : Worker) → get_elem? ws k ≡ some v → get_elem? (change f k ws) k ≡ some (f v)
change_here f k [] v e = absurd (some-ne-none v (sym e))
change_here f zero (u ∷ ws) v e = ap (λ (x : Worker). some (f x)) (some-injective u v e)
change_here f (suc k) (u ∷ ws) v e = change_here f k ws v e

pub change_other : (f : Worker → Worker) (k j : ℕ) (ws : List Worker) (v : Worker) → j ≢ k → get_elem? ws j ≡ some v → get_elem? (change f k ws) j ≡ some v
change_other f k j [] v n e = e
change_other f zero zero (u ∷ ws) v n e = absurd (n refl)
change_other f zero (suc j) (u ∷ ws) v n e = e
change_other f (suc k) zero (u ∷ ws) v n e = e
change_other f (suc k) (suc j) (u ∷ ws) v n e = change_other f k j ws v (λ z. n (ap suc z)) e

-- a worker after a change at a place: changed there, and nowhere else
pub changed_at : (f : Worker → Worker) (k : ℕ) (ws : List Worker) (j : ℕ) (w : Worker) → get_elem? (change f k ws) j ≡ some w
    → (v : Worker) × (get_elem? ws j ≡ some v) × (j ≡ k → w ≡ f v) × (j ≢ k → w ≡ v)
changed_at f k [] j w e = absurd (some-ne-none w (sym e))
changed_at f zero (v ∷ ws) zero w e = (v, refl, (λ _. sym (some-injective (f v) w e)), (λ n. absurd (n refl)))
changed_at f zero (v ∷ ws) (suc j) w e = (w, e, (λ q. absurd (omega arith)), (λ _. refl))
changed_at f (suc k) (v ∷ ws) zero w e = (v, refl, (λ q. absurd (omega arith)), (λ _. sym (some-injective v w e)))
changed_at f (suc k) (v ∷ ws) (suc j) w e = let r = changed_at f k ws j w e in (r.0, r.1, (λ q. r.2 (omega arith)), (λ n. r.3 (λ q. n (ap suc q))))

pub length-change : (f : Worker → Worker) (k : ℕ) (ws : List Worker) → length (change f k ws) ≡ length ws
length-change f k [] = refl
length-change f zero (w ∷ ws) = refl
length-change f (suc k) (w ∷ ws) = ap suc (length-change f k ws)

numbers_to-append : (k : ℕ) (cs ds : List (ℕ × ℕ)) → numbers_to k (cs ++ ds) ≡ numbers_to k cs ++ numbers_to k ds
numbers_to-append k [] ds = refl
numbers_to-append k (c ∷ cs) ds = at (eqb c.0 k) (numbers_to-append k cs ds)
  where
    at : (b : Bool) → numbers_to k (cs ++ ds) ≡ numbers_to k cs ++ numbers_to k ds → cond b (c.1 ∷ numbers_to k (cs ++ ds)) (numbers_to k (cs ++ ds)) ≡ cond b (c.1 ∷ numbers_to k cs) (numbers_to k cs) ++ numbers_to k ds
    at true rest = ap (λ (xs : List ℕ). c.1 ∷ xs) rest
    at false rest = rest

-- what an event adds to the claims of a worker
abbrev Adds : State → Event → ℕ → Worker → Type 0
Adds s e k w = (u : Worker) × (get_elem? (after s e).workers k ≡ some u) × (u.claims ≡ w.claims ++ numbers_to k (gift s e))

-- a change of a worker that leaves the claims
same_claims : (f : Worker → Worker) → ((w : Worker) → (f w).claims ≡ w.claims) → (j : ℕ) (ws : List Worker) (k : ℕ) (w : Worker) → get_elem? ws k ≡ some w → (u : Worker) × (get_elem? (change f j ws) k ≡ some u) × (u.claims ≡ w.claims ++ [])
same_claims f same j ws k w e =
    let t = change_to f j ws k w e in
    (t.0, t.1, ⊎_elim (λ q. ap (λ (v : Worker). v.claims) q ∙ same w) (λ q. ap (λ (v : Worker). v.claims) q) t.2 ∙ sym (append-nil w.claims))

event_adds : (s : State) (e : Event) (k : ℕ) (w : Worker) → get_elem? s.workers k ≡ some w → Adds s e k w
event_adds s (Claim j) k w e = at (ltb s.next s.sectors)
  where
    claimed_state : State
    claimed_state = record s { next = s.next + 1; workers = change (with_claim s.next) j s.workers }

    at : (b : Bool) → (u : Worker) × (get_elem? (cond b claimed_state s).workers k ≡ some u) × (u.claims ≡ w.claims ++ numbers_to k (cond b ((j, s.next) ∷ []) []))
    at true = dite (ℕ_discrete j k)
        (λ same. (
          with_claim s.next w,
          subst (λ (i : ℕ). get_elem? (change (with_claim s.next) i s.workers) k ≡ some (with_claim s.next w)) (sym same) (change_here (with_claim s.next) k s.workers w e),
          ap (λ (q : Bool). w.claims ++ cond q (s.next ∷ []) []) (sym (tells_same j k same)),
        ))
        (λ other. (
          w,
          change_other (with_claim s.next) j k s.workers w (λ z. other (sym z)) e,
          sym (append-nil w.claims) ∙ ap (λ (q : Bool). w.claims ++ cond q (s.next ∷ []) []) (sym (tells_other j k other)),
        ))
    at false = (w, e, sym (append-nil w.claims))
event_adds s (Look j i) k w e = (w, e, sym (append-nil w.claims))
event_adds s (Mark j a b) k w e = same_claims (with_mark (pair a b)) (λ v. refl) j s.workers k w e
event_adds s (End j) k w e = same_claims at_end (λ v. refl) j s.workers k w e

-- over a run a worker's claims grow by what it is handed
run_adds : (s : State) (es : List Event) (k : ℕ) (w u : Worker) → get_elem? s.workers k ≡ some w → get_elem? (state_after s es).workers k ≡ some u → u.claims ≡ w.claims ++ numbers_to k (handed s es)
run_adds s [] k w u e f = ap (λ (v : Worker). v.claims) (some-injective u w (sym f ∙ e)) ∙ sym (append-nil w.claims)
run_adds s (x ∷ es) k w u e f =
    let a = event_adds s x k w e in
    run_adds (after s x) es k a.0 u a.1 f
    ∙ ap (λ (xs : List ℕ). xs ++ numbers_to k (handed (after s x) es)) a.2
    ∙ append_assoc w.claims (numbers_to k (gift s x)) (numbers_to k (handed (after s x) es))
    ∙ ap (λ (xs : List ℕ). w.claims ++ xs) (sym (numbers_to-append k (gift s x) (handed (after s x) es)))

abbrev StandsIn : List Worker → Pair → Type 0
StandsIn ws p = (k : ℕ) × (w : Worker) × (get_elem? ws k ≡ some w) × Contains w.marks p

record IsSound (n : ℕ) (f : List Pair) (s : State) : Type 0 where
  pub sectors : s.sectors ≡ n
  pub findable : s.findable ≡ f
  pub marked : (p : Pair) → Contains s.marked p → Contains f p × StandsIn s.workers p
  pub kept : (k : ℕ) (w : Worker) (p : Pair) → get_elem? s.workers k ≡ some w → Contains w.marks p → Contains s.marked p

-- a change that leaves the marks keeps all
same_marks : (n : ℕ) (f : List Pair) (s : State) (next : ℕ) (g : Worker → Worker) (k : ℕ) → ((w : Worker) → (g w).marks ≡ w.marks) → IsSound n f s → IsSound n f (record s { next = next; workers = change g k s.workers })
same_marks n f s next g k same r = record {
  sectors = r.sectors;
  findable = r.findable;
  marked = λ p h. let m = r.marked p h in (
    m.0,
    let t = change_to g k s.workers m.1.0 m.1.1 m.1.2 in (
      m.1.0,
      t.0,
      t.1,
      ⊎_elim
          (λ e. subst (λ (ms : List Pair). Contains ms p) (sym (ap (λ (w : Worker). w.marks) e ∙ same m.1.1)) m.1.3)
          (λ e. subst (λ (w : Worker). Contains w.marks p) (sym e) m.1.3) t.2,
    ),
  );
  kept = λ j w p e h. let t = change_at g k s.workers j w e in r.kept j t.0 p t.1 (⊎_elim
      (λ q. subst (λ (ms : List Pair). Contains ms p) (ap (λ (w : Worker). w.marks) q ∙ same t.0) h)
      (λ q. subst (λ (w : Worker). Contains w.marks p) q h) t.2);
}

steps_sound : (n : ℕ) (f : List Pair) (s : State) (e : Event) → CanStep s e → IsSound n f s → IsSound n f (after s e)
steps_sound n f s (Claim k) can r = at (ltb s.next s.sectors)
  where
    at : (b : Bool) → IsSound n f (cond b (record s { next = s.next + 1; workers = change (with_claim s.next) k s.workers }) s)
    at true = same_marks n f s (s.next + 1) (with_claim s.next) k (λ w. refl) r
    at false = r
steps_sound n f s (Look k i) can r = r
steps_sound n f s (End k) can r = same_marks n f s s.next at_end k (λ w. refl) r
steps_sound n f s (Mark k a b) can r = record {
  sectors = r.sectors;
  findable = r.findable;
  marked = λ p h. ⊎_elim (was p) (λ new. subst (λ (q : Pair). Contains f q × StandsIn (change (with_mark (pair a b)) k s.workers) q) (contains_one p (pair a b) new) here) (contains_append p s.marked (pair a b ∷ []) h);
  kept = λ j w p e h. let t = change_at (with_mark (pair a b)) k s.workers j w e in ⊎_elim
      (λ q. ⊎_elim (λ l. contains_left p s.marked (pair a b ∷ []) (r.kept j t.0 p t.1 l)) (λ l. contains_right p s.marked (pair a b ∷ []) l) (contains_append p t.0.marks (pair a b ∷ []) (subst (λ (v : Worker). Contains v.marks p) q h)))
      (λ q. contains_left p s.marked (pair a b ∷ []) (r.kept j t.0 p t.1 (subst (λ (v : Worker). Contains v.marks p) q h))) t.2;
}
  where
    was : (p : Pair) → Contains s.marked p → Contains f p × StandsIn (change (with_mark (pair a b)) k s.workers) p
    was p h = let m = r.marked p h in (
      m.0,
      let t = change_to (with_mark (pair a b)) k s.workers m.1.0 m.1.1 m.1.2 in (
        m.1.0,
        t.0,
        t.1,
        ⊎_elim
            (λ e. subst (λ (w : Worker). Contains w.marks p) (sym e) (contains_left p m.1.1.marks (pair a b ∷ []) m.1.3))
            (λ e. subst (λ (w : Worker). Contains w.marks p) (sym e) m.1.3) t.2,
      ),
    )

    here : Contains f (pair a b) × StandsIn (change (with_mark (pair a b)) k s.workers) (pair a b)
    here = let active = can.0 in (
      subst (λ (g : List Pair). Contains g (pair a b)) r.findable can.1,
      (k, with_mark (pair a b) active.0, change_here (with_mark (pair a b)) k s.workers active.0 active.1, contains_right (pair a b) active.0.marks (pair a b ∷ []) (contains_here (pair a b) [])),
    )

runs_sound : (n : ℕ) (f : List Pair) (s : State) (es : List Event) → IsRun s es → IsSound n f s → IsSound n f (state_after s es)
runs_sound n f s [] run r = r
runs_sound n f s (e ∷ es) run r = runs_sound n f (after s e) es run.1 (steps_sound n f s e run.0 r)

idle_marks : (m k : ℕ) (w : Worker) → get_elem? (replicate m idle) k ≡ some w → w.marks ≡ []
idle_marks zero k w e = absurd (some-ne-none w (sym e))
idle_marks (suc m) zero w e = sym (ap (λ (v : Worker). v.marks) (some-injective idle w e))
idle_marks (suc m) (suc k) w e = idle_marks m k w e

starts_sound : (n m : ℕ) (f : List Pair) → IsSound n f (start n m f)
starts_sound n m f = record {
  sectors = refl;
  findable = refl;
  marked = λ p h. absurd (contains_none p h);
  kept = λ k w p e h. absurd (contains_none p (subst (λ (ms : List Pair). Contains ms p) (idle_marks m k w e) h));
}

-- a worker of the end was there at the start
was_there : (s : State) (es : List Event) (k : ℕ) (u : Worker) → get_elem? (state_after s es).workers k ≡ some u → (w : Worker) × (get_elem? s.workers k ≡ some w)
was_there s [] k u f = (u, f)
was_there s (e ∷ es) k u f = before e (was_there (after s e) es k u f)
  where
    before : (e : Event) → (w : Worker) × (get_elem? (after s e).workers k ≡ some w) → (w : Worker) × (get_elem? s.workers k ≡ some w)
    before (Claim j) h = at (ltb s.next s.sectors) h
      where
        at : (b : Bool) → (w : Worker) × (get_elem? (cond b (record s { next = s.next + 1; workers = change (with_claim s.next) j s.workers }) s).workers k ≡ some w) → (w : Worker) × (get_elem? s.workers k ≡ some w)
        at true h = let t = change_at (with_claim s.next) j s.workers k h.0 h.1 in (t.0, t.1)
        at false h = h
    before (Look j i) h = h
    before (Mark j a b) h = let t = change_at (with_mark (pair a b)) j s.workers k h.0 h.1 in (t.0, t.1)
    before (End j) h = let t = change_at at_end j s.workers k h.0 h.1 in (t.0, t.1)

idle_claims : (m k : ℕ) (w : Worker) → get_elem? (replicate m idle) k ≡ some w → w.claims ≡ []
idle_claims zero k w e = absurd (some-ne-none w (sym e))
idle_claims (suc m) zero w e = sym (ap (λ (v : Worker). v.claims) (some-injective idle w e))
idle_claims (suc m) (suc k) w e = idle_claims m k w e

pub hands_out : HandsOutOnce
hands_out n m f es = (
  hands_once n m f es,
  λ k u e.
      let w = was_there (start n m f) es k u e in
      run_adds (start n m f) es k w.0 u w.1 e ∙ ap (λ (xs : List ℕ). xs ++ numbers_to k (handed (start n m f) es)) (idle_claims m k w.0 w.1),
)

pub marks_are_true : MarksTruly
marks_are_true n m f es p run h = (runs_sound n f (start n m f) es run (starts_sound n m f)).marked p h

shown_more : (n k i : ℕ) (ps : List Pair) (p : Pair) → bit_at (bits_in n k ps) i ≡ 1 → bit_at (bits_in n k (p ∷ ps)) i ≡ 1
shown_more n k i ps p e = bit_at_or _ (bits_in n k ps) i ∙ bit_of_right _ _ (bit_at-lt _ i) (bit_at-lt (bits_in n k ps) i) e

shown_append : (n k i : ℕ) (ps qs : List Pair) → bit_at (bits_in n k ps) i ≡ 1 → bit_at (bits_in n k (ps ++ qs)) i ≡ 1
shown_append n k i [] qs e = let z = bit_at-zero i in absurd (omega arith)
shown_append n k i (p ∷ ps) qs e = dite (ℕ_discrete (bit_at (bits_in n k ps) i) 1)
    (λ h. shown_more n k i (ps ++ qs) p (shown_append n k i ps qs h))
    (λ h. let a : max (bit_at (cond (eqb (word_of n p) k) (2 ^ bit_of n p) 0) i) (bit_at (bits_in n k ps) i) ≡ 1 = sym (bit_at_or _ (bits_in n k ps) i) ∙ e in
    bit_at_or _ (bits_in n k (ps ++ qs)) i ∙ bit_of_left _ _ (bit_at-lt _ i) (bit_at-lt (bits_in n k (ps ++ qs)) i) (omega arith))

pub shown_has : (n : ℕ) (ps : List Pair) (p : Pair) → Contains ps p → bit_at (bits_in n (word_of n p) ps) (bit_of n p) ≡ 1
shown_has n [] p h = absurd (contains_none p h)
shown_has n (q ∷ ps) p h = ⊎_elim
    (λ e. subst (λ (x : Pair). bit_at (bits_in n (word_of n p) (x ∷ ps)) (bit_of n p) ≡ 1) (sym e) (bit_at_or _ (bits_in n (word_of n p) ps) (bit_of n p) ∙ bit_of_left _ _ (bit_at-lt _ (bit_of n p)) (bit_at-lt (bits_in n (word_of n p) ps) (bit_of n p)) (first (word_of n p) (bit_of n p))))
    (λ r. shown_more n (word_of n p) (bit_of n p) ps q (shown_has n ps p r)) (contains_cons p q ps h)
  where
    first : (k i : ℕ) → bit_at (cond (eqb k k) (2 ^ i) 0) i ≡ 1
    first k i = ap (λ (b : Bool). bit_at (cond b (2 ^ i) 0) i) (same k) ∙ bit_at-pow_same i
      where
        same : (k : ℕ) → eqb k k ≡ true
        same k = grind (arith, nat_tests)

pub looks_are_true : LooksTruly
looks_are_true s i b e = in_list s.marked e
  where
    -- the bit of a pair shows its word and its place there
    one_pair : (x k j : ℕ) (test : Bool) → eqb x k ≡ test → bit_at (cond test (2 ^ j) 0) b ≡ 1 → (x ≡ k) × (j ≡ b)
    one_pair x k j true same h = (is_told_same x k same, dite (ℕ_discrete b j) (λ q. sym q) (λ q. let z = bit_at-pow_other j b q in absurd (omega arith)))
    one_pair x k j false same h = let z = bit_at-zero b in absurd (omega arith)

    in_list : (ps : List Pair) → bit_at (bits_in s.sectors i ps) b ≡ 1 → (p : Pair) × Contains ps p × (word_of s.sectors p ≡ i) × (bit_of s.sectors p ≡ b)
    in_list [] h = let z = bit_at-zero b in absurd (omega arith)
    in_list (q ∷ ps) h = dite (ℕ_discrete (bit_at (bits_in s.sectors i ps) b) 1)
        (λ l. let r = in_list ps l in (r.0, contains_right r.0 (q ∷ []) ps r.1, r.2, r.3))
        (λ l. let a : max (bit_at (cond (eqb (word_of s.sectors q) i) (2 ^ bit_of s.sectors q) 0) b) (bit_at (bits_in s.sectors i ps) b) ≡ 1 = sym (bit_at_or _ (bits_in s.sectors i ps) b) ∙ h in
        let d = bit_at-lt (bits_in s.sectors i ps) b in
        let r = one_pair (word_of s.sectors q) i (bit_of s.sectors q) (eqb (word_of s.sectors q) i) refl (omega arith) in
        (q, contains_here q ps, r.0, r.1))

marks_only_grow : (s : State) (e : Event) (i : ℕ) (p : Pair) → IsBitShown s i p → IsBitShown (after s e) i p
marks_only_grow s (Claim k) i p h = at (ltb s.next s.sectors)
  where
    at : (b : Bool) → IsBitShown (cond b (record s { next = s.next + 1; workers = change (with_claim s.next) k s.workers }) s) i p
    at true = h
    at false = h
marks_only_grow s (Look k j) i p h = h
marks_only_grow s (Mark k a b) i p h = shown_append s.sectors i (bit_of s.sectors p) s.marked (pair a b ∷ []) h
marks_only_grow s (End k) i p h = h

runs_grow : (s : State) (es : List Event) (i : ℕ) (p : Pair) → IsBitShown s i p → IsBitShown (state_after s es) i p
runs_grow s [] i p h = h
runs_grow s (e ∷ es) i p h = runs_grow (after s e) es i p (marks_only_grow s e i p h)

pub looks_are_grown : LooksGrow
looks_are_grown n m f es run = let r = runs_sound n f (start n m f) es run (starts_sound n m f) in (
  (λ k w p e h. subst (λ (x : ℕ). bit_at (bits_in x (word_of n p) (state_after (start n m f) es).marked) (bit_of x p) ≡ 1) (sym r.sectors) (shown_has n (state_after (start n m f) es).marked p (r.kept k w p e h))),
  (λ more i p h. runs_grow (state_after (start n m f) es) more i p h),
)
