-- A change of the log of one worker.
use Rattle.std.proofs.Common.{◌≡◌, ℕ, zero, suc, ◌<◌, List, [], ◌∷◌, length, get_or, set, sym, ap, arith, subst, Result, Ok, Err}
use Rattle.std.specs.Prelude.{MatchResult}
use mathlib.Core.Option.{some, some-ne-none}
use lib.ListN.{get_elem?}
use Rattle.pair_budget.specs.declared.board_core.event.Event.{Event}
use Rattle.pair_budget.specs.declared.board_core.event.Event.TheVariants.{Claim, Mark, End}
use Rattle.pair_budget.specs.BoardCore.Machine.{State, Worker, change, IsActive, CanStep}

pub change_set : (f : Worker → Worker) (hs : List Worker) (k : ℕ) (h d : Worker) → k < length hs → h ≡ f (get_or hs k d) → set hs k h ≡ change f k hs
change_set f [] k h d l e = absurd (omega arith)
change_set f (x ∷ hs) zero h d l e = ap (λ (w : Worker). w ∷ hs) e
change_set f (x ∷ hs) (suc k) h d l e = ap (λ (ws : List Worker). x ∷ ws) (change_set f hs k h d (omega arith) e)

pub same_set : (hs : List Worker) (k : ℕ) (h d : Worker) → k < length hs → h ≡ get_or hs k d → set hs k h ≡ hs
same_set [] k h d l e = absurd (omega arith)
same_set (x ∷ hs) zero h d l e = ap (λ (w : Worker). w ∷ hs) e
same_set (x ∷ hs) (suc k) h d l e = ap (λ (ws : List Worker). x ∷ ws) (same_set hs k h d (omega arith) e)

pub changes : {A E : Type 0} (r : Result A E) (f : Worker → Worker) (hs : List Worker) (k : ℕ) (h d : Worker) → k < length hs
    → MatchResult r (λ _. h ≡ f (get_or hs k d)) (λ _. h ≡ get_or hs k d)
    → MatchResult r (λ _. set hs k h ≡ change f k hs) (λ _. set hs k h ≡ hs)
changes (Ok x) f hs k h d l m = change_set f hs k h d l m
changes (Err x) f hs k h d l m = same_set hs k h d l m

inside : (hs : List Worker) (k : ℕ) (w : Worker) → get_elem? hs k ≡ some w → k < length hs
inside [] k w e = absurd (some-ne-none w (sym e))
inside (x ∷ hs) zero w e = omega arith
inside (x ∷ hs) (suc k) w e = let l = inside hs k w e in omega arith

pub active : (c : State) (k : ℕ) → IsActive c k → k < length c.workers
active c k a = inside c.workers k a.0 a.1

pub active_claim : (c : State) (e : Event) (k : ℕ) → e ≡ Claim k → CanStep c e → k < length c.workers
active_claim c e k is can = active c k (subst (CanStep c) is can)

pub active_mark : (c : State) (e : Event) (k a b : ℕ) → e ≡ Mark k a b → CanStep c e → k < length c.workers
active_mark c e k a b is can = active c k (subst (CanStep c) is can).0

pub active_end : (c : State) (e : Event) (k : ℕ) → e ≡ End k → CanStep c e → k < length c.workers
active_end c e k is can = active c k (subst (CanStep c) is can)
