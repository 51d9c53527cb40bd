-- A seat that is made leaves the machine as it is, a seat that is joined ends its worker, and a new board shows the machine's start.
use Rattle.std.proofs.Common.{◌≡◌, ◌≢◌, ◌⊎◌, inl, inr, ⊎_elim, ℕ, zero, suc, ◌+◌, ◌<◌, true, false, List, [], ◌∷◌, ◌++◌, map, length, get_or, set, replicate, refl, sym, ap, ◌∙◌, subst, arith}
use Rattle.std.specs.Prelude.{◌↔◌}
use Rattle.std.specs.List.{Contains}
use Rattle.std.specs.Int.{bit_at}
use Rattle.std.proofs.lemmas.Nat.Bits.{bit_at-zero}
use mathlib.Core.Logic.{dite}
use mathlib.Core.Option.{some, some-injective, some-ne-none}
use native.Mathlib.Decide.{ℕ_discrete}
use lib.ListN.{get_elem?}
use Rattle.atomic_table.specs.Table.{State, opening}
use Rattle.atomic_table.proofs.Lists.{at_longer, at_set, set_else, set_here}
use Rattle.pair_budget.specs.BoardCore.Machine as machine
use Rattle.pair_budget.specs.declared.board_core.event.Event.TheVariants.{End}
use Rattle.pair_budget.specs.declared.board_core.event.Reply.TheVariants.{Done}
use Rattle.pair_budget.proofs.BoardCore.Every.{change_here, change_other, changed_at, length-change}
use Rattle.sight_names.specs.declared.names.Pair.{Pair}
use Rattle.sight_workers.specs.declared.view.Task.{Task}
use Rattle.sight_workers.specs.declared.view.View.{View}
use Rattle.sight_workers.specs.declared.view.SeatRole.{SeatRole}
use Rattle.sight_workers.specs.declared.view.SeatRole.TheVariants.{Keeper, Worker}
use Rattle.sight_workers.specs.Board.{Holds, bit_in_word, keeper_of, numbers_of, spent, word_count, bit_word_of}
use Rattle.sight_workers.specs.Plays.{keeper_joined, keeper_with_more, new_worker}
use Rattle.sight_workers.specs.Steps.{AreFindable, FollowsMachine, IsClaimedBy, IsJoinedMark, IsKeeperView, IsSeatAt, Shows, ShowsWorker, board_pair}
use Rattle.sight_workers.proofs.Lists.{at_length, at_snoc_at, some_at}
use Rattle.sight_workers.proofs.Machines.{active, clash, contains_map, contains_unmap, not_joined, plain, same_worker}
use Rattle.sight_workers.proofs.Places.{word_inside}
use Rattle.math_base.proofs.Lists.{contains_append, contains_right, contains_left, contains_one, contains_none, contains_here}

module _ (t : Task) (s : State (Unit {0}) View) (c : machine.State) (r : Holds t s) (h : Shows t s c) where
  -- the board's own seat is the only one of its kind
  one_seat : (seat j : ℕ) (v y : View) → get_elem? s.views seat ≡ some v → v.role ≡ Keeper → get_elem? s.views j ≡ some y → y.role ≡ Keeper → j ≢ seat → ⊥
  one_seat seat j v y at is there role n = n ((plain t s c r h).one_keeper j y there role ∙ sym ((plain t s c r h).one_keeper seat v at is))

  -- a seat is made
  module _ (seat : ℕ) (v : View) (at : get_elem? s.views seat ≡ some v) (is : v.role ≡ Keeper) where
    abbrev pub made_views : List View
    made_views = set s.views seat (keeper_with_more v) ++ new_worker v ∷ []

    after_split : (j : ℕ) (y : View) → get_elem? made_views j ≡ some y → ((j ≡ seat) × (keeper_with_more v ≡ y)) ⊎ (((j ≢ seat) × (get_elem? s.views j ≡ some y)) ⊎ (new_worker v ≡ y))
    after_split j y e = ⊎_elim
        (λ (a : get_elem? (set s.views seat (keeper_with_more v)) j ≡ some y). ⊎_elim (λ (q : (j ≡ seat) × (keeper_with_more v ≡ y)). inl q) (λ (q : (j ≢ seat) × (get_elem? s.views j ≡ some y)). inr (inl q)) (at_set s.views seat j (keeper_with_more v) y a))
        (λ (b : (j ≡ length (set s.views seat (keeper_with_more v))) × (new_worker v ≡ y)). inr (inr b.1))
        (at_snoc_at (set s.views seat (keeper_with_more v)) (new_worker v) y j e)

    kept_more : (y : View) → IsKeeperView made_views y → keeper_with_more v ≡ y
    kept_more y k = ⊎_elim (λ (a : (k.0 ≡ seat) × (keeper_with_more v ≡ y)). a.1)
        (λ (b : ((k.0 ≢ seat) × (get_elem? s.views k.0 ≡ some y)) ⊎ (new_worker v ≡ y)). ⊎_elim
        (λ (q : (k.0 ≢ seat) × (get_elem? s.views k.0 ≡ some y)). absurd (one_seat seat k.0 v y at is q.1 k.2 q.0))
        (λ (q : new_worker v ≡ y). absurd (clash y v.made k.2 (ap (λ (z : View). z.role) (sym q)))) b)
        (after_split k.0 y k.1)

    claimed_back : (j x : ℕ) → IsClaimedBy made_views j x → IsClaimedBy s.views j x
    claimed_back j x m = ⊎_elim (λ (a : (m.0 ≡ seat) × (keeper_with_more v ≡ m.1)). (seat, v, at, subst (λ (z : View). Contains z.claims (j, x)) (sym a.1) m.3))
        (λ (b : ((m.0 ≢ seat) × (get_elem? s.views m.0 ≡ some m.1)) ⊎ (new_worker v ≡ m.1)). ⊎_elim
        (λ (q : (m.0 ≢ seat) × (get_elem? s.views m.0 ≡ some m.1)). (m.0, m.1, q.1, m.3))
        (λ (q : new_worker v ≡ m.1). absurd (contains_none (j, x) (subst (λ (z : View). Contains z.claims (j, x)) (sym q) m.3))) b)
        (after_split m.0 m.1 m.2)

    claimed_still : (j x : ℕ) → IsClaimedBy s.views j x → IsClaimedBy made_views j x
    claimed_still j x m = dite (ℕ_discrete m.0 seat)
        (λ e. let f : m.1 ≡ v = some_at s.views seat m.1 v (subst (λ (i : ℕ). get_elem? s.views i ≡ some m.1) e m.2) at in
        (seat, keeper_with_more v, at_longer (set s.views seat (keeper_with_more v)) (new_worker v ∷ []) seat (keeper_with_more v) (set_here s.views seat (keeper_with_more v) (at_length s.views seat v at)), subst (λ (z : View). Contains z.claims (j, x)) f m.3))
        (λ n. (m.0, m.1, at_longer (set s.views seat (keeper_with_more v)) (new_worker v ∷ []) m.0 m.1 (set_else s.views seat m.0 (keeper_with_more v) n ∙ m.2), m.3))

    split_worker : (j : ℕ) (w : machine.Worker) → ShowsWorker t s.views j w → ShowsWorker t made_views j w
    split_worker j w k = record {
      claims = λ x. ((λ a. let b = (k.claims x).0 a in (b.0, claimed_still j x b.1)), (λ a. (k.claims x).1 (a.0, claimed_back j x a.1)));
      marks = λ i y there role. ⊎_elim (λ (a : (i ≡ seat) × (keeper_with_more v ≡ y)). absurd (clash y j (ap (λ (z : View). z.role) (sym a.1) ∙ is) role))
          (λ (b : ((i ≢ seat) × (get_elem? s.views i ≡ some y)) ⊎ (new_worker v ≡ y)). ⊎_elim
          (λ (q : (i ≢ seat) × (get_elem? s.views i ≡ some y)). k.marks i y q.1 role)
          (λ (q : new_worker v ≡ y). let e : j ≡ v.made = same_worker j v.made y.role role (ap (λ (z : View). z.role) (sym q)) in
          k.unmade v (seat, at, is) (omega arith) ∙ ap (λ (z : View). map board_pair z.marks) q) b)
          (after_split i y there);
      unmade = λ y m l. let e : v.made + 1 ≡ y.made = ap (λ (z : View). z.made) (kept_more y m) in k.unmade v (seat, at, is) (omega arith);
      ended = λ y m. subst (λ (z : View). (w.ended ≡ true) ↔ Contains z.joined j) (kept_more y m) (k.ended v (seat, at, is));
    }

    pub splits : Shows t record { words = s.words; homes = s.homes; views = set s.views seat (keeper_with_more v) ++ new_worker v ∷ [] } c
    splits = record {
      sectors = h.sectors;
      findable = h.findable;
      next = h.next;
      marked = h.marked;
      many = h.many;
      workers = λ j w e. split_worker j w (h.workers j w e);
      joined = λ y k p. subst (λ (z : View). Contains z.marks p ↔ IsJoinedMark c z p) (kept_more y k) (h.joined v (seat, at, is) p);
    }

  -- a seat is joined
  module _ (seat other worker : ℕ) (v u : View) (at : get_elem? s.views seat ≡ some v) (is : v.role ≡ Keeper) (its : IsSeatAt t s c other worker u) where
    abbrev pub both : View
    both = keeper_joined v u

    abbrev pub views : List View
    views = set (set s.views seat both) other spent

    abbrev pub workers : List machine.Worker
    workers = machine.change machine.at_end worker c.workers

    apart : other ≢ seat
    apart e = clash v worker is (subst (λ (z : View). z.role ≡ Worker worker) (some_at s.views seat u v (subst (λ (i : ℕ). get_elem? s.views i ≡ some u) e its.0) at) its.1)

    here : get_elem? views seat ≡ some both
    here = set_else (set s.views seat both) other seat spent (λ e. apart (sym e)) ∙ set_here s.views seat both (at_length s.views seat v at)

    after_join : (j : ℕ) (y : View) → get_elem? views j ≡ some y → (spent ≡ y) ⊎ (((j ≡ seat) × (both ≡ y)) ⊎ ((j ≢ other) × (j ≢ seat) × (get_elem? s.views j ≡ some y)))
    after_join j y e = ⊎_elim (λ (a : (j ≡ other) × (spent ≡ y)). inl a.1)
        (λ (b : (j ≢ other) × (get_elem? (set s.views seat both) j ≡ some y)). inr (⊎_elim (λ (q : (j ≡ seat) × (both ≡ y)). inl q) (λ (q : (j ≢ seat) × (get_elem? s.views j ≡ some y)). inr (b.0, q.0, q.1)) (at_set s.views seat j both y b.1)))
        (at_set (set s.views seat both) other j spent y e)

    not_spent : (y : View) → spent ≡ y → y.role ≢ Keeper
    not_spent y e f = let g = ap (λ (z : View). z.role) e ∙ f in cc

    spent_is_none : (y : View) (w : ℕ) → spent ≡ y → y.role ≢ Worker w
    spent_is_none y w e f = let g = ap (λ (z : View). z.role) e ∙ f in cc

    kept_both : (y : View) → IsKeeperView views y → both ≡ y
    kept_both y k = ⊎_elim (λ (a : spent ≡ y). absurd (not_spent y a k.2))
        (λ (b : ((k.0 ≡ seat) × (both ≡ y)) ⊎ ((k.0 ≢ other) × (k.0 ≢ seat) × (get_elem? s.views k.0 ≡ some y))). ⊎_elim
        (λ (q : (k.0 ≡ seat) × (both ≡ y)). q.1)
        (λ (q : (k.0 ≢ other) × (k.0 ≢ seat) × (get_elem? s.views k.0 ≡ some y)). absurd (one_seat seat k.0 v y at is q.2 k.2 q.1)) b)
        (after_join k.0 y k.1)

    claims_back : (j x : ℕ) → IsClaimedBy views j x → IsClaimedBy s.views j x
    claims_back j x m = ⊎_elim (λ (a : spent ≡ m.1). absurd (contains_none (j, x) (subst (λ (z : View). Contains z.claims (j, x)) (sym a) m.3)))
        (λ (b : ((m.0 ≡ seat) × (both ≡ m.1)) ⊎ ((m.0 ≢ other) × (m.0 ≢ seat) × (get_elem? s.views m.0 ≡ some m.1))). ⊎_elim
        (λ (q : (m.0 ≡ seat) × (both ≡ m.1)). ⊎_elim (λ (d : Contains v.claims (j, x)). (seat, v, at, d)) (λ (d : Contains u.claims (j, x)). (other, u, its.0, d))
        (contains_append (j, x) v.claims u.claims (subst (λ (z : View). Contains z.claims (j, x)) (sym q.1) m.3)))
        (λ (q : (m.0 ≢ other) × (m.0 ≢ seat) × (get_elem? s.views m.0 ≡ some m.1)). (m.0, m.1, q.2, m.3)) b)
        (after_join m.0 m.1 m.2)

    claims_still : (j x : ℕ) → IsClaimedBy s.views j x → IsClaimedBy views j x
    claims_still j x m = dite (ℕ_discrete m.0 seat)
        (λ e. let f : m.1 ≡ v = some_at s.views seat m.1 v (subst (λ (i : ℕ). get_elem? s.views i ≡ some m.1) e m.2) at in
        (seat, both, here, contains_left (j, x) v.claims u.claims (subst (λ (z : View). Contains z.claims (j, x)) f m.3)))
        (λ n. dite (ℕ_discrete m.0 other)
        (λ e. let f : m.1 ≡ u = some_at s.views other m.1 u (subst (λ (i : ℕ). get_elem? s.views i ≡ some m.1) e m.2) its.0 in
        (seat, both, here, contains_right (j, x) v.claims u.claims (subst (λ (z : View). Contains z.claims (j, x)) f m.3)))
        (λ o. (m.0, m.1, set_else (set s.views seat both) other m.0 spent o ∙ (set_else s.views seat m.0 both n ∙ m.2), m.3)))

    unjoined : Contains v.joined worker → ⊥
    unjoined m = not_joined t s c r h other worker u v its.0 its.1 (seat, at, is) m

    join_worker : (j : ℕ) (w w' : machine.Worker) → ShowsWorker t s.views j w → (j ≡ worker → w' ≡ machine.at_end w) → (j ≢ worker → w' ≡ w) → ShowsWorker t views j w'
    join_worker j w w' k ends stays = record {
      claims = λ x. (
        (λ a. let b = (k.claims x).0 (subst (λ (xs : List ℕ). Contains xs x) same_claims a) in (b.0, claims_still j x b.1)),
        (λ a. subst (λ (xs : List ℕ). Contains xs x) (sym same_claims) ((k.claims x).1 (a.0, claims_back j x a.1))),
      );
      marks = λ i y there role. ⊎_elim (λ (a : spent ≡ y). absurd (spent_is_none y j a role))
          (λ (b : ((i ≡ seat) × (both ≡ y)) ⊎ ((i ≢ other) × (i ≢ seat) × (get_elem? s.views i ≡ some y))). ⊎_elim
          (λ (q : (i ≡ seat) × (both ≡ y)). absurd (clash y j (ap (λ (z : View). z.role) (sym q.1) ∙ is) role))
          (λ (q : (i ≢ other) × (i ≢ seat) × (get_elem? s.views i ≡ some y)). same_marks ∙ k.marks i y q.2 role) b)
          (after_join i y there);
      unmade = λ y m l. let e : v.made ≡ y.made = ap (λ (z : View). z.made) (kept_both y m) in same_marks ∙ k.unmade v (seat, at, is) (omega arith);
      ended = λ y m. subst (λ (z : View). (w'.ended ≡ true) ↔ Contains z.joined j) (kept_both y m) ended_now;
    }
      where
        same_claims : w'.claims ≡ w.claims
        same_claims = dite (ℕ_discrete j worker) (λ e. ap (λ (z : machine.Worker). z.claims) (ends e)) (λ n. ap (λ (z : machine.Worker). z.claims) (stays n))

        same_marks : w'.marks ≡ w.marks
        same_marks = dite (ℕ_discrete j worker) (λ e. ap (λ (z : machine.Worker). z.marks) (ends e)) (λ n. ap (λ (z : machine.Worker). z.marks) (stays n))

        ended_now : (w'.ended ≡ true) ↔ Contains (v.joined ++ numbers_of u.role) j
        ended_now = dite (ℕ_discrete j worker)
            (λ e. (
              (λ _. contains_right j v.joined (numbers_of u.role) (subst (λ (q : SeatRole). Contains (numbers_of q) j) (sym its.1) (subst (Contains (worker ∷ [])) (sym e) (contains_here worker [])))),
              (λ _. ap (λ (z : machine.Worker). z.ended) (ends e)),
            ))
            (λ n. (
              (λ a. contains_left j v.joined (numbers_of u.role) ((k.ended v (seat, at, is)).0 (sym (ap (λ (z : machine.Worker). z.ended) (stays n)) ∙ a))),
              (λ a. ap (λ (z : machine.Worker). z.ended) (stays n) ∙ (k.ended v (seat, at, is)).1 (⊎_elim (λ (d : Contains v.joined j). d)
                  (λ (d : Contains (numbers_of u.role) j). absurd (n (sym (contains_one j worker (subst (λ (q : SeatRole). Contains (numbers_of q) j) its.1 d))))) (contains_append j v.joined (numbers_of u.role) a))),
            ))

    joined_marks : (p : ℕ × ℕ) → Contains (v.marks ++ u.marks) p ↔ IsJoinedMark (record c { workers = workers }) both p
    joined_marks p = (
      (λ m. ⊎_elim
          (λ (a : Contains v.marks p). let d = (h.joined v (seat, at, is) p).0 a in (
            d.0,
            d.1,
            contains_left d.0 v.joined (numbers_of u.role) d.2,
            change_other machine.at_end worker d.0 c.workers d.1 (λ e. unjoined (subst (Contains v.joined) e d.2)) d.3,
            d.4,
          ))
          (λ (b : Contains u.marks p). let w = active t s c r h other worker u its.0 its.1 in (
            worker,
            machine.at_end w.0,
            contains_right worker v.joined (numbers_of u.role) (subst (λ (q : SeatRole). Contains (numbers_of q) worker) (sym its.1) (contains_here worker [])),
            change_here machine.at_end worker c.workers w.0 w.1,
            subst (λ (ps : List Pair). Contains ps (board_pair p)) (sym ((h.workers worker w.0 w.1).marks other u its.0 its.1)) (contains_map u.marks p b),
          ))
          (contains_append p v.marks u.marks m)),
      back,
    )
      where
        back : IsJoinedMark (record c { workers = workers }) both p → Contains (v.marks ++ u.marks) p
        back m = dite (ℕ_discrete m.0 worker)
            (λ e. let f = ap (λ (z : machine.Worker). z.marks) (w.2 e) in
            contains_right p v.marks u.marks (contains_unmap u.marks p (subst (λ (ps : List Pair). Contains ps (board_pair p)) (f ∙ (h.workers m.0 w.0 w.1).marks other u its.0 (its.1 ∙ ap Worker (sym e))) m.4)))
            (λ n. contains_left p v.marks u.marks ((h.joined v (seat, at, is) p).1 (
              m.0,
              w.0,
              ⊎_elim (λ (d : Contains v.joined m.0). d) (λ (d : Contains (numbers_of u.role) m.0). absurd (n (sym (contains_one m.0 worker (subst (λ (q : SeatRole). Contains (numbers_of q) m.0) its.1 d))))) (contains_append m.0 v.joined (numbers_of u.role) m.2),
              w.1,
              subst (λ (z : machine.Worker). Contains z.marks (board_pair p)) (w.3 n) m.4,
            )))
          where
            w : (x : machine.Worker) × (get_elem? c.workers m.0 ≡ some x) × (m.0 ≡ worker → m.1 ≡ machine.at_end x) × (m.0 ≢ worker → m.1 ≡ x)
            w = changed_at machine.at_end worker c.workers m.0 m.1 m.3

    pub joins : FollowsMachine t s c (End worker) Done record { words = s.words; homes = s.homes; views = set (set s.views seat (keeper_joined v u)) other spent }
    joins = (
      active t s c r h other worker u its.0 its.1,
      refl,
      record {
        sectors = h.sectors;
        findable = h.findable;
        next = h.next;
        marked = h.marked;
        many = length-change machine.at_end worker c.workers ∙ h.many;
        workers = λ j w' e. let b = changed_at machine.at_end worker c.workers j w' e in join_worker j b.0 w' (h.workers j b.0 b.1) b.2 b.3;
        joined = λ y k p. subst (λ (z : View). Contains z.marks p ↔ IsJoinedMark (record c { workers = workers }) z p) (kept_both y k) (joined_marks p);
      },
    )

-- a new board shows the machine before its first event
pub opens : (t : Task) (words : List ℕ) (findable : List Pair)
    → length words ≡ word_count t.plan.sectors + 1 → ((k : ℕ) → k < length words → get_or words k 0 ≡ 0) → AreFindable t findable
    → Shows {S = Unit {0}} t (opening words [] (keeper_of t)) (machine.start t.plan.sectors t.workers findable)
opens t words findable wide clear are = record {
  sectors = refl;
  findable = are;
  next = let z = clear 0 (omega arith) in omega arith;
  marked = λ p. (
    (λ m. absurd (contains_none (board_pair p) m)),
    (λ m.
        let a = word_inside t.plan.sectors p m.0 in
        let z : bit_at (get_or words (bit_word_of t.plan.sectors p + 1) 0) (bit_in_word t.plan.sectors p) ≡ 0 = ap (λ (y : ℕ). bit_at y (bit_in_word t.plan.sectors p)) (clear (bit_word_of t.plan.sectors p + 1) (omega arith)) ∙ bit_at-zero (bit_in_word t.plan.sectors p) in
        let o = m.1 in absurd (omega arith)),
  );
  many = long t.workers;
  workers = λ j w e. subst (ShowsWorker t (keeper_of t ∷ []) j) (idle_at t.workers j w e) (idle j);
  joined = λ y k p. let e = alone k.0 y k.1 in (
    (λ m. absurd (contains_none p (subst (λ (z : View). Contains z.marks p) (sym e) m))),
    (λ m. absurd (contains_none m.0 (subst (λ (z : View). Contains z.joined m.0) (sym e) m.2))),
  );
}
  where
    long : (m : ℕ) → length (replicate m machine.idle) ≡ m
    long zero = refl
    long (suc m) = ap suc (long m)

    idle_at : (m k : ℕ) (w : machine.Worker) → get_elem? (replicate m machine.idle) k ≡ some w → machine.idle ≡ w
    idle_at zero k w e = absurd (some-ne-none w (sym e))
    idle_at (suc m) zero w e = some-injective machine.idle w e
    idle_at (suc m) (suc k) w e = idle_at m k w e

    alone : (j : ℕ) (y : View) → get_elem? (keeper_of t ∷ []) j ≡ some y → keeper_of t ≡ y
    alone zero y e = some-injective (keeper_of t) y e
    alone (suc j) y e = absurd (some-ne-none y (sym e))

    idle : (j : ℕ) → ShowsWorker t (keeper_of t ∷ []) j machine.idle
    idle j = record {
      claims = λ x. ((λ m. absurd (contains_none x m)), (λ m. let k = m.1 in absurd (contains_none (j, x) (subst (λ (z : View). Contains z.claims (j, x)) (sym (alone k.0 k.1 k.2)) k.3))));
      marks = λ i y there role. absurd (clash y j (ap (λ (z : View). z.role) (sym (alone i y there))) role);
      unmade = λ y k l. refl;
      ended = λ y k. ((λ e. let f : false ≡ true = e in cc), (λ m. absurd (contains_none j (subst (λ (z : View). Contains z.joined j) (sym (alone k.0 y k.1)) m))));
    }
