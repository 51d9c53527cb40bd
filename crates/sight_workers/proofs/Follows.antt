-- The claims of a worker's seat, its looks and its marks are steps of the machine.
use Rattle.std.proofs.Common.{◌≡◌, ◌≢◌, ◌⊎◌, inl, inr, ⊎_elim, ℕ, ◌+◌, ◌%◌, ◌^◌, ◌<◌, ◌≤◌, min, max, Bool, true, false, cond, ltb, List, [], ◌∷◌, ◌++◌, map, get_or, set, refl, sym, ap, ◌∙◌, subst, arith, get_or-set_other, get_or-set_same}
use Rattle.std.specs.Prelude.{◌↔◌, bit_or}
use Rattle.std.specs.List.{Contains}
use Rattle.std.specs.Int.{bit_at}
use Rattle.std.proofs.lemmas.List.{append-nil, map-append}
use Rattle.std.proofs.lemmas.Nat.Bits.{bit_at_or, bit_at-pow_same, bit_at-pow_other, bit_at-lt, bit_at_above, same_from_bits}
use mathlib.Core.Logic.{dite}
use native.Mathlib.Decide.{ℕ_discrete, dec_le}
use lib.Seq.{set-get_or}
use Rattle.atomic_table.specs.Table.{State, keeps, stepped}
use Rattle.pair_budget.specs.BoardCore.Machine as machine
use Rattle.pair_budget.specs.declared.board_core.event.Event.TheVariants.{Claim, Look, Mark}
use Rattle.pair_budget.specs.declared.board_core.event.Reply.{Reply}
use Rattle.pair_budget.specs.declared.board_core.event.Reply.TheVariants.{Source, NoSource, Bits, Done}
use Rattle.pair_budget.proofs.BoardCore.Every.{change_other, changed_at, length-change, looks_are_true, shown_has}
use Rattle.sight_names.specs.declared.names.Pair.{Pair}
use Rattle.sight_workers.specs.declared.view.Task.{Task}
use Rattle.sight_workers.specs.declared.view.View.{View}
use Rattle.sight_workers.specs.declared.view.SeatRole.TheVariants.{Worker, Spent}
use Rattle.sight_workers.specs.Board.{Holds, IsFindable, IsBoardPair, IsBitSet, bit_in_word, has_over, worker_number, overs, word_count, bit_word_of}
use Rattle.sight_workers.specs.Plays.{with_claim_in_view, with_look, with_mark_in_view}
use Rattle.sight_workers.specs.Steps.{FollowsMachine, IsSeatAt, Shows, board_pair}
use Rattle.sight_workers.proofs.Keeps.{word_small}
use Rattle.sight_workers.proofs.Lists.{claim_below}
use Rattle.sight_workers.proofs.Machines.{IsChanged, active, same_numbers, step_shown}
use Rattle.sight_workers.proofs.Places.{same_pair, set_at, word_inside}
use Rattle.sight_workers.proofs.Plainly.{plainly}
use Rattle.sight_workers.proofs.Sights.{over_there}
use Rattle.math_base.proofs.Numbers.{bit_of_none, bit_of_right, bit_of_left, same_bit, tells_some, tells_not_below, tells_below}
use Rattle.math_base.proofs.Lists.{contains_append, contains_right, contains_left, contains_one, contains_none, contains_here}

min_low : (a b : ℕ) → a ≤ b → min a b ≡ a
min_low a b l = omega arith

min_high : (a b : ℕ) → b ≤ a → min a b ≡ b
min_high a b l = omega arith

module _ (t : Task) (s : State (Unit {0}) View) (c : machine.State) (r : Holds t s) (h : Shows t s c) where
  abbrev pub claim_word : ℕ
  claim_word = get_or s.words 0 0

  -- the words after a claim
  first : (y : ℕ) → get_or (set s.words 0 y) 0 0 ≡ y
  first y = let a = r.wide in get_or-set_same s.words 0 y 0 (omega arith)

  marked_on : (ws : List ℕ) → ((k : ℕ) → get_or ws (k + 1) 0 ≡ get_or s.words (k + 1) 0) → (p : ℕ × ℕ) → Contains c.marked (board_pair p) ↔ (IsBoardPair t.plan.sectors p × IsBitSet t.plan.sectors ws p)
  marked_on ws e p = (
    (λ a. let d = (h.marked p).0 a in (d.0, bit (e (bit_word_of t.plan.sectors p)) ∙ d.1)),
    (λ a. (h.marked p).1 (a.0, bit (sym (e (bit_word_of t.plan.sectors p))) ∙ a.1)),
  )
    where
      bit : {a b : ℕ} → a ≡ b → bit_at a (bit_in_word t.plan.sectors p) ≡ bit_at b (bit_in_word t.plan.sectors p)
      bit f = ap (λ (y : ℕ). bit_at y (bit_in_word t.plan.sectors p)) f

  others : (y k : ℕ) → get_or (set s.words 0 y) (k + 1) 0 ≡ get_or s.words (k + 1) 0
  others y k = get_or-set_other s.words 0 (k + 1) y 0 (λ e. omega arith)

  module _ (seat worker : ℕ) (v : View) (i : IsSeatAt t s c seat worker v) where
    number : worker_number v.role ≡ worker
    number = ap worker_number i.1

    abbrev pub drawn : List (ℕ × ℕ)
    drawn = (worker_number v.role, claim_word) ∷ []

    drawn_is : (d : ℕ × ℕ) → Contains drawn d → (worker_number v.role, claim_word) ≡ d
    drawn_is d m = contains_one d (worker_number v.role, claim_word) m

    drawn_own : (d : ℕ × ℕ) → Contains drawn d → d.0 ≡ worker
    drawn_own d m = ap (λ (q : ℕ × ℕ). q.0) (sym (drawn_is d m)) ∙ number

    pub gives : claim_word < t.plan.sectors → FollowsMachine t s c (Claim worker) (Source claim_word) (stepped s 0 ((claim_word + 1) % 2 ^ 64) seat [] (with_claim_in_view v claim_word) keeps)
    gives low = (
      active t s c r h seat worker v i.0 i.1,
      ap (λ (b : Bool). cond {A = Reply} b (Source c.next) NoSource) below ∙ ap Source next_is,
      subst (λ (y : ℕ). Shows t (stepped s 0 y seat [] (with_claim_in_view v claim_word) keeps) (machine.claimed c worker)) (sym fit)
          (subst (λ (b : Bool). Shows t (stepped s 0 (claim_word + 1) seat [] (with_claim_in_view v claim_word) keeps) (cond {A = machine.State} b (record c { next = c.next + 1; workers = machine.change (machine.with_claim c.next) worker c.workers }) c)) (sym below) shown),
    )
      where
        next_is : c.next ≡ claim_word
        next_is = h.next ∙ min_low claim_word t.plan.sectors (omega arith)

        below : ltb c.next c.sectors ≡ true
        below = let a = next_is in let b = h.sectors in tells_below c.next c.sectors (omega arith)

        fit : (claim_word + 1) % 2 ^ 64 ≡ claim_word + 1
        fit = let a = word_small t s r in omega arith

        changed : (j : ℕ) (w : machine.Worker) → j ≡ worker → IsChanged t s c r h seat worker v (with_claim_in_view v claim_word) i.0 i.1 refl drawn refl drawn_own j w (machine.with_claim c.next w)
        changed j w e = record {
          claims = λ y. (
            (λ m. ⊎_elim (λ (a : Contains w.claims y). inl a)
                (λ (b : Contains (c.next ∷ []) y). let f : claim_word ≡ y = sym next_is ∙ contains_one y c.next b in inr (subst (λ (z : ℕ). z < t.plan.sectors) f low, subst (Contains drawn) (λ k. ((number ∙ sym e) k, f k)) (contains_here (worker_number v.role, claim_word) [])))
                (contains_append y w.claims (c.next ∷ []) m)),
            (λ m. ⊎_elim (λ (a : Contains w.claims y). contains_left y w.claims (c.next ∷ []) a)
                (λ (b : (y < t.plan.sectors) × Contains drawn (j, y)).
                let f : c.next ≡ y = next_is ∙ ap (λ (q : ℕ × ℕ). q.1) (drawn_is (j, y) b.1) in
                contains_right y w.claims (c.next ∷ []) (subst (Contains (c.next ∷ [])) f (contains_here c.next []))) m),
          );
          marks = λ m. m;
          ended = refl;
        }

        shown : Shows t (stepped s 0 (claim_word + 1) seat [] (with_claim_in_view v claim_word) keeps) (record c { next = c.next + 1; workers = machine.change (machine.with_claim c.next) worker c.workers })
        shown = step_shown t s c r h seat worker v (with_claim_in_view v claim_word) i.0 i.1 refl drawn refl drawn_own (set s.words 0 (claim_word + 1)) s.homes (c.next + 1) c.marked (machine.change (machine.with_claim c.next) worker c.workers)
            (let a = next_is in let b = min_low (claim_word + 1) t.plan.sectors (omega arith) in let d : min (get_or (set s.words 0 (claim_word + 1)) 0 0) t.plan.sectors ≡ min (claim_word + 1) t.plan.sectors = ap (λ (y : ℕ). min y t.plan.sectors) (first (claim_word + 1)) in omega arith)
            (marked_on (set s.words 0 (claim_word + 1)) (others (claim_word + 1)))
            (length-change (machine.with_claim c.next) worker c.workers)
            (λ j w n e. change_other (machine.with_claim c.next) worker j c.workers w n e)
            (λ j w' e. let b = changed_at (machine.with_claim c.next) worker c.workers j w' e in (b.0, b.1, (λ q. subst (IsChanged t s c r h seat worker v (with_claim_in_view v claim_word) i.0 i.1 refl drawn refl drawn_own j b.0) (sym (b.2 q)) (changed j b.0 q)), b.3))

    -- no source is left
    none_left : t.plan.sectors ≤ claim_word → ltb c.next c.sectors ≡ false
    none_left high = let a : c.next ≡ t.plan.sectors = h.next ∙ min_high claim_word t.plan.sectors high in let b = h.sectors in tells_not_below c.next c.sectors (omega arith)

    refused : (s' : State (Unit {0}) View) → t.plan.sectors ≤ claim_word → Shows t s' c → FollowsMachine t s c (Claim worker) NoSource s'
    refused s' high shown = (
      active t s c r h seat worker v i.0 i.1,
      ap (λ (b : Bool). cond {A = Reply} b (Source c.next) NoSource) (none_left high),
      subst (λ (b : Bool). Shows t s' (cond {A = machine.State} b (record c { next = c.next + 1; workers = machine.change (machine.with_claim c.next) worker c.workers }) c)) (sym (none_left high)) shown,
    )

    pub gives_none : t.plan.sectors ≤ claim_word → FollowsMachine t s c (Claim worker) NoSource (stepped s 0 ((claim_word + 1) % 2 ^ 64) seat [] (with_claim_in_view v claim_word) keeps)
    gives_none high = refused (stepped s 0 ((claim_word + 1) % 2 ^ 64) seat [] (with_claim_in_view v claim_word) keeps) high
        (subst (λ (y : ℕ). Shows t (stepped s 0 y seat [] (with_claim_in_view v claim_word) keeps) c) (sym fit) shown)
      where
        fit : (claim_word + 1) % 2 ^ 64 ≡ claim_word + 1
        fit = let a = word_small t s r in omega arith

        same : (j : ℕ) (w : machine.Worker) → IsChanged t s c r h seat worker v (with_claim_in_view v claim_word) i.0 i.1 refl drawn refl drawn_own j w w
        same j w = record {
          claims = λ y. (
            (λ m. inl m),
            (λ m. ⊎_elim (λ (a : Contains w.claims y). a) (λ (b : (y < t.plan.sectors) × Contains drawn (j, y)). let f : claim_word ≡ y = ap (λ (q : ℕ × ℕ). q.1) (drawn_is (j, y) b.1) in let l = b.0 in absurd (omega arith)) m),
          );
          marks = λ m. m;
          ended = refl;
        }

        shown : Shows t (stepped s 0 (claim_word + 1) seat [] (with_claim_in_view v claim_word) keeps) c
        shown = step_shown t s c r h seat worker v (with_claim_in_view v claim_word) i.0 i.1 refl drawn refl drawn_own (set s.words 0 (claim_word + 1)) s.homes c.next c.marked c.workers
            (h.next ∙ min_high claim_word t.plan.sectors high ∙ sym (min_high (claim_word + 1) t.plan.sectors (omega arith)) ∙ ap (λ (y : ℕ). min y t.plan.sectors) (sym (first (claim_word + 1))))
            (marked_on (set s.words 0 (claim_word + 1)) (others (claim_word + 1)))
            refl
            (λ j w n e. e)
            (λ j w e. (w, e, (λ _. same j w), (λ _. refl)))

    -- a seat whose claims and marks stay, and no word
    no_claim : (d : ℕ × ℕ) → Contains [] d → d.0 ≡ worker
    no_claim d m = absurd (contains_none d m)

    quiet : (k : ℕ) (u : View) → u.role ≡ v.role → u.claims ≡ v.claims → u.marks ≡ v.marks → Shows t (stepped s k (get_or s.words k 0) seat [] u keeps) c
    quiet k u same claims marks = subst (λ (ws : List ℕ). Shows t record { words = ws; homes = s.homes; views = set s.views seat u } c) (sym (set-get_or s.words k 0))
        (step_shown t s c r h seat worker v u i.0 i.1 same [] (claims ∙ sym (append-nil v.claims)) no_claim s.words s.homes c.next c.marked c.workers h.next h.marked refl (λ j w n e. e) (λ j w e. (w, e, (λ _. unchanged j w), (λ _. refl))))
      where
        unchanged : (j : ℕ) (w : machine.Worker) → IsChanged t s c r h seat worker v u i.0 i.1 same [] (claims ∙ sym (append-nil v.claims)) no_claim j w w
        unchanged j w = record {
          claims = λ y. ((λ m. inl m), (λ m. ⊎_elim (λ (a : Contains w.claims y). a) (λ (b : (y < t.plan.sectors) × Contains {X = ℕ × ℕ} [] (j, y)). absurd (contains_none (j, y) b.1)) m));
          marks = λ m. m ∙ ap (map board_pair) (sym marks);
          ended = refl;
        }

    pub gives_none_again : has_over v ≡ true → FollowsMachine t s c (Claim worker) NoSource (stepped s 0 ((claim_word + 0) % 2 ^ 64) seat [] v keeps)
    gives_none_again over = refused (stepped s 0 ((claim_word + 0) % 2 ^ 64) seat [] v keeps) high
        (subst (λ (y : ℕ). Shows t (stepped s 0 y seat [] v keeps) c) (sym fit) (quiet 0 v refl refl refl))
      where
        fit : (claim_word + 0) % 2 ^ 64 ≡ claim_word
        fit = let a = word_small t s r in omega arith

        task : v.task ≡ t
        task = (plainly t s r).task seat v i.0 (λ e. let f : Worker worker ≡ Spent = sym i.1 ∙ e in cc)

        high : t.plan.sectors ≤ claim_word
        high =
            let o = over_there v.task.plan.sectors v.claims (tells_some (overs v.task.plan.sectors v.claims) over) in
            let a = claim_below s.views seat v claim_word i.0 r.once o.0 o.1 in
            let b : v.task.plan.sectors ≡ t.plan.sectors = ap (λ (y : Task). y.plan.sectors) task in
            let d = o.2 in omega arith

    -- the machine's bits of a word are the word's
    same_bits : (k : ℕ) → k < word_count t.plan.sectors → get_or s.words (k + 1) 0 < 2 ^ 64 → machine.bits_in t.plan.sectors k c.marked ≡ get_or s.words (k + 1) 0
    same_bits k inside small = same_from_bits (machine.bits_in t.plan.sectors k c.marked) (get_or s.words (k + 1) 0)
        (λ j. same_bit _ _ (bit_at-lt (machine.bits_in t.plan.sectors k c.marked) j) (bit_at-lt (get_or s.words (k + 1) 0) j) (is_set j) (is_given j))
      where
        is_set : (j : ℕ) → bit_at (machine.bits_in t.plan.sectors k c.marked) j ≡ 1 → bit_at (get_or s.words (k + 1) 0) j ≡ 1
        is_set j e =
            let p = looks_are_true (record c { sectors = t.plan.sectors }) k j e in
            let m : IsBitSet t.plan.sectors s.words (p.0.a, p.0.b) = ((h.marked (p.0.a, p.0.b)).0 p.1).1 in
            subst (λ (z : ℕ × ℕ). bit_at (get_or s.words (z.0 + 1) 0) z.1 ≡ 1) (λ l. (p.2 l, p.3 l)) m

        is_given : (j : ℕ) → bit_at (get_or s.words (k + 1) 0) j ≡ 1 → bit_at (machine.bits_in t.plan.sectors k c.marked) j ≡ 1
        is_given j e = at (dec_le 64 j)
          where
            at : Dec (64 ≤ j) → bit_at (machine.bits_in t.plan.sectors k c.marked) j ≡ 1
            at (yes high) = let z = bit_at_above (get_or s.words (k + 1) 0) 64 j small high in absurd (omega arith)
            at (no low) =
                let m = r.bits k j inside (omega arith) e in
                let p = (h.marked m.0).1 (m.1, set_at t.plan.sectors s.words k j m.0 m.2 m.3 e) in
                subst (λ (z : ℕ × ℕ). bit_at (machine.bits_in t.plan.sectors z.0 c.marked) z.1 ≡ 1) (λ l. (m.2 l, m.3 l)) (shown_has t.plan.sectors c.marked (board_pair m.0) p)

    pub looks : (k : ℕ) → k < word_count t.plan.sectors → get_or s.words (k + 1) 0 < 2 ^ 64
        → FollowsMachine t s c (Look worker k) (Bits (get_or s.words (k + 1) 0)) (stepped s (k + 1) (get_or s.words (k + 1) 0) seat [] (with_look v k (get_or s.words (k + 1) 0)) keeps)
    looks k inside small = (
      active t s c r h seat worker v i.0 i.1,
      ap (λ (m : ℕ). Bits (machine.bits_in m k c.marked)) h.sectors ∙ ap Bits (same_bits k inside small),
      quiet (k + 1) (with_look v k (get_or s.words (k + 1) 0)) refl refl refl,
    )

    pub marks : (p : ℕ × ℕ) → IsBoardPair t.plan.sectors p → IsFindable t p
        → FollowsMachine t s c (Mark worker p.0 p.1) Done
        (stepped s (bit_word_of t.plan.sectors p + 1) (bit_or (get_or s.words (bit_word_of t.plan.sectors p + 1) 0) (2 ^ bit_in_word t.plan.sectors p)) seat [] (with_mark_in_view v p) keeps)
    marks p pair may = ((active t s c r h seat worker v i.0 i.1, (h.findable p).1 (pair, may)), refl, shown)
      where
        k : ℕ
        k = bit_word_of t.plan.sectors p + 1

        old : ℕ
        old = get_or s.words k 0

        new : ℕ
        new = bit_or old (2 ^ bit_in_word t.plan.sectors p)

        ws : List ℕ
        ws = set s.words k new

        new_word : get_or ws k 0 ≡ new
        new_word = let a = word_inside t.plan.sectors p pair in let b = r.wide in get_or-set_same s.words k new 0 (omega arith)

        other_word : (j : ℕ) → j ≢ k → get_or ws j 0 ≡ get_or s.words j 0
        other_word j n = get_or-set_other s.words k j new 0 n

        bit_now : (j : ℕ) → bit_at (get_or ws k 0) j ≡ max (bit_at old j) (bit_at (2 ^ bit_in_word t.plan.sectors p) j)
        bit_now j = ap (λ (y : ℕ). bit_at y j) new_word ∙ bit_at_or old (2 ^ bit_in_word t.plan.sectors p) j

        set_now : IsBitSet t.plan.sectors ws p
        set_now = bit_now (bit_in_word t.plan.sectors p) ∙ bit_of_right _ _ (bit_at-lt old (bit_in_word t.plan.sectors p)) (bit_at-lt (2 ^ bit_in_word t.plan.sectors p) (bit_in_word t.plan.sectors p)) (bit_at-pow_same (bit_in_word t.plan.sectors p))

        still : (q : ℕ × ℕ) → IsBitSet t.plan.sectors s.words q → IsBitSet t.plan.sectors ws q
        still q m = dite (ℕ_discrete (bit_word_of t.plan.sectors q + 1) k)
            (λ e. let f : bit_at old (bit_in_word t.plan.sectors q) ≡ 1 = subst (λ (y : ℕ). bit_at (get_or s.words y 0) (bit_in_word t.plan.sectors q) ≡ 1) e m in
            subst (λ (y : ℕ). bit_at (get_or ws y 0) (bit_in_word t.plan.sectors q) ≡ 1) (sym e) (bit_now (bit_in_word t.plan.sectors q) ∙ bit_of_left _ _ (bit_at-lt old (bit_in_word t.plan.sectors q)) (bit_at-lt (2 ^ bit_in_word t.plan.sectors p) (bit_in_word t.plan.sectors q)) f))
            (λ e. ap (λ (y : ℕ). bit_at y (bit_in_word t.plan.sectors q)) (other_word (bit_word_of t.plan.sectors q + 1) e) ∙ m)

        before : (q : ℕ × ℕ) → IsBoardPair t.plan.sectors q → IsBitSet t.plan.sectors ws q → (p ≡ q) ⊎ IsBitSet t.plan.sectors s.words q
        before q fit m = dite (ℕ_discrete (bit_word_of t.plan.sectors q + 1) k)
            (λ e. dite (ℕ_discrete (bit_in_word t.plan.sectors q) (bit_in_word t.plan.sectors p))
            (λ f. inl (same_pair t.plan.sectors p q pair fit (omega arith) (sym f)))
            (λ n. let g = bit_now (bit_in_word t.plan.sectors q) ∙ bit_of_none _ _ (bit_at-pow_other (bit_in_word t.plan.sectors p) (bit_in_word t.plan.sectors q) n) in
            inr (subst (λ (y : ℕ). bit_at (get_or s.words y 0) (bit_in_word t.plan.sectors q) ≡ 1) (sym e) (sym g ∙ subst (λ (y : ℕ). bit_at (get_or ws y 0) (bit_in_word t.plan.sectors q) ≡ 1) e m))))
            (λ n. inr (ap (λ (y : ℕ). bit_at y (bit_in_word t.plan.sectors q)) (sym (other_word (bit_word_of t.plan.sectors q + 1) n)) ∙ m))

        marked : (q : ℕ × ℕ) → Contains (c.marked ++ board_pair p ∷ []) (board_pair q) ↔ (IsBoardPair t.plan.sectors q × IsBitSet t.plan.sectors ws q)
        marked q = (
          (λ m. ⊎_elim (λ (a : Contains c.marked (board_pair q)). let d = (h.marked q).0 a in (d.0, still q d.1))
              (λ (b : Contains (board_pair p ∷ []) (board_pair q)). subst (λ (z : ℕ × ℕ). IsBoardPair t.plan.sectors z × IsBitSet t.plan.sectors ws z) (same_numbers p q (contains_one (board_pair q) (board_pair p) b)) (pair, set_now))
              (contains_append (board_pair q) c.marked (board_pair p ∷ []) m)),
          (λ m. ⊎_elim (λ (e : p ≡ q). contains_right (board_pair q) c.marked (board_pair p ∷ []) (subst (λ (z : ℕ × ℕ). Contains (board_pair p ∷ []) (board_pair z)) e (contains_here (board_pair p) [])))
              (λ (a : IsBitSet t.plan.sectors s.words q). contains_left (board_pair q) c.marked (board_pair p ∷ []) ((h.marked q).1 (m.0, a))) (before q m.0 m.1)),
        )

        changed : (j : ℕ) (w : machine.Worker) → IsChanged t s c r h seat worker v (with_mark_in_view v p) i.0 i.1 refl [] (sym (append-nil v.claims)) no_claim j w (machine.with_mark (board_pair p) w)
        changed j w = record {
          claims = λ y. ((λ m. inl m), (λ m. ⊎_elim (λ (a : Contains w.claims y). a) (λ (b : (y < t.plan.sectors) × Contains {X = ℕ × ℕ} [] (j, y)). absurd (contains_none (j, y) b.1)) m));
          marks = λ m. ap (λ (ps : List Pair). ps ++ board_pair p ∷ []) m ∙ sym (map-append board_pair v.marks (p ∷ []));
          ended = refl;
        }

        shown : Shows t (stepped s k new seat [] (with_mark_in_view v p) keeps) (record c { marked = c.marked ++ board_pair p ∷ []; workers = machine.change (machine.with_mark (board_pair p)) worker c.workers })
        shown = step_shown t s c r h seat worker v (with_mark_in_view v p) i.0 i.1 refl [] (sym (append-nil v.claims)) no_claim ws s.homes c.next (c.marked ++ board_pair p ∷ []) (machine.change (machine.with_mark (board_pair p)) worker c.workers)
            (h.next ∙ ap (λ (y : ℕ). min y t.plan.sectors) (sym (other_word 0 (λ e. omega arith))))
            marked
            (length-change (machine.with_mark (board_pair p)) worker c.workers)
            (λ j w n e. change_other (machine.with_mark (board_pair p)) worker j c.workers w n e)
            (λ j w' e. let b = changed_at (machine.with_mark (board_pair p)) worker c.workers j w' e in (b.0, b.1, (λ q. subst (IsChanged t s c r h seat worker v (with_mark_in_view v p) i.0 i.1 refl [] (sym (append-nil v.claims)) no_claim j b.0) (sym (b.2 q)) (changed j b.0)), b.3))
