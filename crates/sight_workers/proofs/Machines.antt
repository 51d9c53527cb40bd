-- A step of a worker's seat shows the machine's next state, whatever the step is.
use Rattle.std.proofs.Common.{◌≡◌, ◌≢◌, ◌⊎◌, inl, inr, ⊎_elim, ℕ, zero, suc, ◌<◌, min, List, [], ◌∷◌, ◌++◌, map, length, get_or, set, refl, sym, ap, ◌∙◌, subst, arith}
use Rattle.std.specs.Prelude.{◌↔◌}
use Rattle.std.specs.List.{Contains}
use mathlib.Core.Logic.{dite}
use mathlib.Core.Option.{Option, some}
use native.Mathlib.Decide.{ℕ_discrete}
use lib.ListN.{get_elem?}
use Rattle.atomic_table.specs.Table.{State}
use Rattle.atomic_table.proofs.Lists.{at_set, set_else, set_here}
use Rattle.pair_budget.specs.BoardCore.Machine as machine
use Rattle.sight_names.specs.declared.names.Pair.{Pair}
use Rattle.sight_workers.specs.declared.view.Task.{Task}
use Rattle.sight_workers.specs.declared.view.View.{View}
use Rattle.sight_workers.specs.declared.view.SeatRole.{SeatRole}
use Rattle.sight_workers.specs.declared.view.SeatRole.TheVariants.{Keeper, Worker}
use Rattle.sight_workers.specs.Board.{Holds, IsBoardPair, IsBitSet, worker_number}
use Rattle.sight_workers.specs.Plainly.{IsPlainState}
use Rattle.sight_workers.specs.Steps.{board_pair, IsClaimedBy, IsKeeperView, ShowsWorker, Shows}
use Rattle.sight_workers.proofs.Lists.{at_length, some_at}
use Rattle.sight_workers.proofs.Plainly.{plainly}
use Rattle.math_base.proofs.Lists.{contains_append, contains_right, contains_left, contains_cons, contains_none, contains_there, contains_here}
use Rattle.math_base.proofs.Bools.{by_value}

pub contains_map : (xs : List (ℕ × ℕ)) (p : ℕ × ℕ) → Contains xs p → Contains (map board_pair xs) (board_pair p)
contains_map [] p h = absurd (contains_none p h)
contains_map (x ∷ xs) p h = ⊎_elim (λ (e : x ≡ p). subst (λ (q : ℕ × ℕ). Contains (board_pair x ∷ map board_pair xs) (board_pair q)) e (contains_here (board_pair x) (map board_pair xs)))
    (λ (i : Contains xs p). contains_there (board_pair p) (board_pair x) (map board_pair xs) (contains_map xs p i)) (contains_cons p x xs h)

pub same_numbers : (p q : ℕ × ℕ) → board_pair p ≡ board_pair q → p ≡ q
same_numbers p q e = ap (λ (x : Pair). let z : ℕ × ℕ = (x.a, x.b) in z) e

pub contains_unmap : (xs : List (ℕ × ℕ)) (p : ℕ × ℕ) → Contains (map board_pair xs) (board_pair p) → Contains xs p
contains_unmap [] p h = absurd (contains_none (board_pair p) h)
contains_unmap (x ∷ xs) p h = ⊎_elim (λ (e : board_pair x ≡ board_pair p). subst (Contains (x ∷ xs)) (same_numbers x p e) (contains_here x xs))
    (λ (i : Contains (map board_pair xs) (board_pair p)). contains_there p x xs (contains_unmap xs p i)) (contains_cons (board_pair p) (board_pair x) (map board_pair xs) h)

there : {X : Type 0} (xs : List X) (k : ℕ) → k < length xs → (x : X) × (get_elem? xs k ≡ some x)
there [] k l = absurd (omega arith)
there (x ∷ xs) zero l = (x, refl)
there (x ∷ xs) (suc k) l = there xs k (omega arith)

pub clash : (x : View) (w : ℕ) → x.role ≡ Keeper → x.role ≡ Worker w → ⊥
clash x w e f = let h : Keeper ≡ Worker w = sym e ∙ f in cc

pub same_worker : (j k : ℕ) (q : SeatRole) → q ≡ Worker j → q ≡ Worker k → j ≡ k
same_worker j k q e f = sym (ap worker_number e) ∙ ap worker_number f

module _ (t : Task) (s : State (Unit {0}) View) (c : machine.State) (r : Holds t s) (h : Shows t s c) where
  abbrev pub plain : IsPlainState t s
  plain = plainly t s r

  pub kept_is : (x y : View) → IsKeeperView s.views x → IsKeeperView s.views y → x ≡ y
  kept_is x y a b = some_at s.views plain.keeper x y (at_keeper x a) (at_keeper y b)
    where
      at_keeper : (x : View) → IsKeeperView s.views x → get_elem? s.views plain.keeper ≡ some x
      at_keeper x a = subst (λ (j : ℕ). get_elem? s.views j ≡ some x) (plain.one_keeper a.0 x a.1 a.2) a.1

  pub kept : IsKeeperView s.views plain.kept
  kept = (plain.keeper, plain.keeper_at, plain.keeper_role)

  -- a worker whose seat isn't spent was made, and not joined
  pub made_before : (seat worker : ℕ) (v y : View) → get_elem? s.views seat ≡ some v → v.role ≡ Worker worker → IsKeeperView s.views y → worker < y.made
  made_before seat worker v y at is k = subst (λ (z : View). worker < z.made) (kept_is plain.kept y kept k) (plain.below seat v worker at is)

  pub not_joined : (seat worker : ℕ) (v y : View) → get_elem? s.views seat ≡ some v → v.role ≡ Worker worker → IsKeeperView s.views y → Contains y.joined worker → ⊥
  not_joined seat worker v y at is k m = (plain.joined worker (subst (λ (z : View). Contains z.joined worker) (kept_is y plain.kept k kept) m)).1 seat v at is

  pub active : (seat worker : ℕ) (v : View) → get_elem? s.views seat ≡ some v → v.role ≡ Worker worker → machine.IsActive c worker
  active seat worker v at is =
      let a = plain.below seat v worker at is in let b = plain.made in let d = h.many in
      let w = there c.workers worker (omega arith) in
      (w.0, w.1, by_value w.0.ended (λ e. absurd (not_joined seat worker v plain.kept at is kept (((h.workers worker w.0 w.1).ended plain.kept kept).0 e))) (λ e. e))

  -- a step of the seat, after which its view is u and has some claims more
  module _ (seat worker : ℕ) (v u : View) (at : get_elem? s.views seat ≡ some v) (is : v.role ≡ Worker worker) (same : u.role ≡ v.role)
      (more : List (ℕ × ℕ)) (grown : u.claims ≡ v.claims ++ more) (own : (d : ℕ × ℕ) → Contains more d → d.0 ≡ worker) where
    kept_back : (x : View) → IsKeeperView (set s.views seat u) x → IsKeeperView s.views x
    kept_back x k = ⊎_elim (λ (q : (k.0 ≡ seat) × (u ≡ x)). absurd (clash x worker k.2 (ap (λ (y : View). y.role) (sym q.1) ∙ (same ∙ is))))
        (λ (q : (k.0 ≢ seat) × (get_elem? s.views k.0 ≡ some x)). (k.0, q.1, k.2)) (at_set s.views seat k.0 u x k.1)

    claimed_now : (j x : ℕ) → IsClaimedBy (set s.views seat u) j x → IsClaimedBy s.views j x ⊎ Contains more (j, x)
    claimed_now j x m = ⊎_elim
        (λ (q : (m.0 ≡ seat) × (u ≡ m.1)). ⊎_elim (λ (a : Contains v.claims (j, x)). inl (seat, v, at, a)) (λ (b : Contains more (j, x)). inr b)
        (contains_append (j, x) v.claims more (subst (λ (cs : List (ℕ × ℕ)). Contains cs (j, x)) (ap (λ (y : View). y.claims) (sym q.1) ∙ grown) m.3)))
        (λ (q : (m.0 ≢ seat) × (get_elem? s.views m.0 ≡ some m.1)). inl (m.0, m.1, q.1, m.3))
        (at_set s.views seat m.0 u m.1 m.2)

    has_more : (d : ℕ × ℕ) → Contains (v.claims ++ more) d → Contains u.claims d
    has_more d m = subst (λ (cs : List (ℕ × ℕ)). Contains cs d) (sym grown) m

    claimed_then : (j x : ℕ) → IsClaimedBy s.views j x ⊎ Contains more (j, x) → IsClaimedBy (set s.views seat u) j x
    claimed_then j x (inl m) = dite (ℕ_discrete m.0 seat)
        (λ e. let f : m.1 ≡ v = some_at s.views seat m.1 v (subst (λ (i : ℕ). get_elem? s.views i ≡ some m.1) e m.2) at in
        (seat, u, set_here s.views seat u (at_length s.views seat v at), has_more (j, x) (contains_left (j, x) v.claims more (subst (λ (y : View). Contains y.claims (j, x)) f m.3))))
        (λ e. (m.0, m.1, set_else s.views seat m.0 u e ∙ m.2, m.3))
    claimed_then j x (inr m) = (seat, u, set_here s.views seat u (at_length s.views seat v at), has_more (j, x) (contains_right (j, x) v.claims more m))

    worker_shown : (j : ℕ) (w w' : machine.Worker) → ShowsWorker t s.views j w
        → ((x : ℕ) → Contains w'.claims x ↔ (Contains w.claims x ⊎ ((x < t.plan.sectors) × Contains more (j, x))))
        → (j ≡ worker → w.marks ≡ map board_pair v.marks → w'.marks ≡ map board_pair u.marks) → (j ≢ worker → w'.marks ≡ w.marks) → w'.ended ≡ w.ended
        → ShowsWorker t (set s.views seat u) j w'
    worker_shown j w w' k drawn mine others ended = record {
      claims = λ x. (
        (λ a. ⊎_elim (λ (b : Contains w.claims x). let d = (k.claims x).0 b in (d.0, claimed_then j x (inl d.1))) (λ (b : (x < t.plan.sectors) × Contains more (j, x)). (b.0, claimed_then j x (inr b.1))) ((drawn x).0 a)),
        (λ a. (drawn x).1 (⊎_elim (λ (b : IsClaimedBy s.views j x). inl ((k.claims x).1 (a.0, b))) (λ (b : Contains more (j, x)). inr (a.0, b)) (claimed_now j x a.1))),
      );
      marks = λ i y found role. ⊎_elim
          (λ (q : (i ≡ seat) × (u ≡ y)).
          let e : j ≡ worker = same_worker j worker u.role (ap (λ (z : View). z.role) q.1 ∙ role) (same ∙ is) in
          mine e (k.marks seat v at (is ∙ ap Worker (sym e))) ∙ ap (λ (z : View). map board_pair z.marks) q.1)
          (λ (q : (i ≢ seat) × (get_elem? s.views i ≡ some y)). others (λ e. q.0 (plain.different i seat y v worker q.1 at (role ∙ ap Worker e) is)) ∙ k.marks i y q.1 role)
          (at_set s.views seat i u y found);
      unmade = λ y m l. let b = kept_back y m in let d = made_before seat worker v y at is b in others (λ e. omega arith) ∙ k.unmade y b l;
      ended = λ y m. let b = kept_back y m in ((λ a. (k.ended y b).0 (sym ended ∙ a)), (λ a. ended ∙ (k.ended y b).1 a));
    }

    -- how the step changes the machine's worker
    pub record IsChanged (j : ℕ) (w w' : machine.Worker) : Type 0 where
      pub claims : (x : ℕ) → Contains w'.claims x ↔ (Contains w.claims x ⊎ ((x < t.plan.sectors) × Contains more (j, x)))
      pub marks : w.marks ≡ map board_pair v.marks → w'.marks ≡ map board_pair u.marks
      pub ended : w'.ended ≡ w.ended

    pub step_shown : (words : List ℕ) (homes : List (Option (Unit {0}))) (next : ℕ) (marked : List Pair) (workers : List machine.Worker)
        → next ≡ min (get_or words 0 0) t.plan.sectors
        → ((p : ℕ × ℕ) → Contains marked (board_pair p) ↔ (IsBoardPair t.plan.sectors p × IsBitSet t.plan.sectors words p))
        → length workers ≡ length c.workers
        → ((j : ℕ) (w : machine.Worker) → j ≢ worker → get_elem? c.workers j ≡ some w → get_elem? workers j ≡ some w)
        → ((j : ℕ) (w' : machine.Worker) → get_elem? workers j ≡ some w' → (w : machine.Worker) × (get_elem? c.workers j ≡ some w) × (j ≡ worker → IsChanged j w w') × (j ≢ worker → w' ≡ w))
        → Shows t record { words = words; homes = homes; views = set s.views seat u } (record c { next = next; marked = marked; workers = workers })
    step_shown words homes next marked workers nexts marks long on back = record {
      sectors = h.sectors;
      findable = h.findable;
      next = nexts;
      marked = marks;
      many = long ∙ h.many;
      workers = λ j w' e. let b = back j w' e in dite (ℕ_discrete j worker)
          (λ q. let f = b.2 q in worker_shown j b.0 w' (h.workers j b.0 b.1) f.claims (λ _. f.marks) (λ n. absurd (n q)) f.ended)
          (λ n. subst (ShowsWorker t (set s.views seat u) j) (sym (b.3 n))
          (worker_shown j b.0 b.0 (h.workers j b.0 b.1) (λ x. ((λ a. inl a), (λ a. ⊎_elim (λ (d : Contains b.0.claims x). d) (λ (d : (x < t.plan.sectors) × Contains more (j, x)). absurd (n (own (j, x) d.1))) a))) (λ q. absurd (n q)) (λ _. refl) refl));
      joined = λ y m p. let k = kept_back y m in (
        (λ a. let d = (h.joined y k p).0 a in (d.0, d.1, d.2, on d.0 d.1 (λ e. not_joined seat worker v y at is k (subst (Contains y.joined) e d.2)) d.3, d.4)),
        (λ a.
            let q = back a.0 a.1 a.3 in
            let f : a.1 ≡ q.0 = q.3 (λ e. not_joined seat worker v y at is k (subst (Contains y.joined) e a.2)) in
            (h.joined y k p).1 (a.0, q.0, a.2, q.1, subst (λ (w : machine.Worker). Contains w.marks (board_pair p)) f a.4)),
      );
    }
