-- Each step on the words of a board is a step of the machine that one thread sees.
use Rattle.std.specs.Prelude.{◌≡◌, ◌↔◌, ℕ, ◌+◌, ◌%◌, ◌^◌, ◌<◌, ◌≤◌, min, bit_or, true, List, [], ◌∷◌, ◌++◌, map, length, slice_index, slice_set}
use Rattle.std.specs.List.{Contains}
use mathlib.Core.Option.{some}
use lib.ListN.{get_elem?}
use Rattle.atomic_table.specs.Table.{State, keeps, opening, stepped}
use Rattle.pair_budget.specs.BoardCore.Machine as machine
use Rattle.pair_budget.specs.declared.board_core.event.Event.{Event}
use Rattle.pair_budget.specs.declared.board_core.event.Event.TheVariants.{Claim, Look, Mark, End}
use Rattle.pair_budget.specs.declared.board_core.event.Reply.{Reply}
use Rattle.pair_budget.specs.declared.board_core.event.Reply.TheVariants.{Source, NoSource, Bits, Done}
use Rattle.sight_names.specs.declared.names.Pair.{Pair}
use Rattle.sight_workers.specs.declared.view.Task.{Task}
use Rattle.sight_workers.specs.declared.view.View.{View}
use Rattle.sight_workers.specs.declared.view.SeatRole.TheVariants.{Keeper, Worker}
use Rattle.sight_workers.specs.Board.{Holds, IsFindable, IsBoardPair, IsBitSet, bit_in_word, has_over, keeper_of, spent, word_count, bit_word_of}
use Rattle.sight_workers.specs.Plays.{keeper_joined, keeper_with_more, new_worker, with_claim_in_view, with_look, with_mark_in_view}

abbrev pub board_pair : ℕ × ℕ → Pair
board_pair p = machine.pair p.0 p.1

-- the list has just the pairs that may be marked
abbrev pub AreFindable : Task → List Pair → Type 0
AreFindable t ps = (p : ℕ × ℕ) → Contains ps (board_pair p) ↔ (IsBoardPair t.plan.sectors p × IsFindable t p)

-- the number stands in a claim of the worker, in some view
abbrev pub IsClaimedBy : List View → ℕ → ℕ → Type 0
IsClaimedBy views worker x = (seat : ℕ) × (v : View) × (get_elem? views seat ≡ some v) × Contains v.claims (worker, x)

-- the view of the board's own seat
abbrev pub IsKeeperView : List View → View → Type 0
IsKeeperView views v = (seat : ℕ) × (get_elem? views seat ≡ some v) × (v.role ≡ Keeper)

-- the pair stands in the machine's marks of a worker that was joined
abbrev pub IsJoinedMark : machine.State → View → ℕ × ℕ → Type 0
IsJoinedMark c v p = (worker : ℕ) × (w : machine.Worker) × Contains v.joined worker × (get_elem? c.workers worker ≡ some w) × Contains w.marks (board_pair p)

-- what the views show of one worker of the machine
pub record ShowsWorker (t : Task) (views : List View) (worker : ℕ) (w : machine.Worker) : Type 0 where
  -- its claims are those whose number is a sector's
  pub claims : (x : ℕ) → Contains w.claims x ↔ ((x < t.plan.sectors) × IsClaimedBy views worker x)
  -- its marks are those of its seat, and it has none before its seat is made
  pub marks : (seat : ℕ) (v : View) → get_elem? views seat ≡ some v → v.role ≡ Worker worker → w.marks ≡ map board_pair v.marks
  pub unmade : (v : View) → IsKeeperView views v → v.made ≤ worker → w.marks ≡ []
  -- it has ended once its seat was joined
  pub ended : (v : View) → IsKeeperView views v → (w.ended ≡ true) ↔ Contains v.joined worker

-- the words and views show a state of the machine. Which of the joined workers has marked a pair no view keeps: the board's own
-- seat has the marks of all of them together
pub record Shows {S : Type 0} (t : Task) (s : State S View) (c : machine.State) : Type 0 where
  pub sectors : c.sectors ≡ t.plan.sectors
  pub findable : AreFindable t c.findable
  -- the next source is the claim word's number, or the number of sectors once that is less
  pub next : c.next ≡ min (slice_index s.words 0) t.plan.sectors
  -- the marked pairs are those whose bits are set
  pub marked : (p : ℕ × ℕ) → Contains c.marked (board_pair p) ↔ (IsBoardPair t.plan.sectors p × IsBitSet t.plan.sectors s.words p)
  pub many : length c.workers ≡ t.workers
  pub workers : (worker : ℕ) (w : machine.Worker) → get_elem? c.workers worker ≡ some w → ShowsWorker t s.views worker w
  pub joined : (v : View) → IsKeeperView s.views v → (p : ℕ × ℕ) → Contains v.marks p ↔ IsJoinedMark c v p

module _ (t : Task) (s : State (Unit {0}) View) (c : machine.State) where
  -- the machine can take the event, replies the same, and is shown after it
  abbrev pub FollowsMachine : Event → Reply → State (Unit {0}) View → Type 0
  FollowsMachine e r s' = machine.CanStep c e × (machine.reply c e ≡ r) × Shows t s' (machine.after c e)

  abbrev pub IsSeatAt : ℕ → ℕ → View → Type 0
  IsSeatAt seat worker v = (get_elem? s.views seat ≡ some v) × (v.role ≡ Worker worker)

  abbrev pub word : ℕ → ℕ
  word i = slice_index s.words i

  -- what each kind of step on words and views is to the machine: the word that the step is on becomes another, and its seat has
  -- a new view
  pub record StepsFollow : Type 0 where
    -- a claim whose number is a sector's gives it
    pub gives : (seat worker : ℕ) (v : View) → IsSeatAt seat worker v → word 0 < t.plan.sectors
        → FollowsMachine (Claim worker) (Source (word 0)) (stepped s 0 ((word 0 + 1) % 2 ^ 64) seat [] (with_claim_in_view v (word 0)) keeps)
    -- another gives none, and neither does one by a seat that has drawn such a number, which adds nothing to the word
    pub gives_none : (seat worker : ℕ) (v : View) → IsSeatAt seat worker v → t.plan.sectors ≤ word 0
        → FollowsMachine (Claim worker) NoSource (stepped s 0 ((word 0 + 1) % 2 ^ 64) seat [] (with_claim_in_view v (word 0)) keeps)
    pub gives_none_again : (seat worker : ℕ) (v : View) → IsSeatAt seat worker v → has_over v ≡ true
        → FollowsMachine (Claim worker) NoSource (stepped s 0 ((word 0 + 0) % 2 ^ 64) seat [] v keeps)
    -- a look gives the word's bits
    pub looks : (seat worker : ℕ) (v : View) (i : ℕ) → IsSeatAt seat worker v → i < word_count t.plan.sectors → word (i + 1) < 2 ^ 64
        → FollowsMachine (Look worker i) (Bits (word (i + 1))) (stepped s (i + 1) (word (i + 1)) seat [] (with_look v i (word (i + 1))) keeps)
    -- a mark sets the pair's bit
    pub marks : (seat worker : ℕ) (v : View) (p : ℕ × ℕ) → IsSeatAt seat worker v → IsBoardPair t.plan.sectors p → IsFindable t p
        → FollowsMachine (Mark worker p.0 p.1) Done
        (stepped s (bit_word_of t.plan.sectors p + 1) (bit_or (word (bit_word_of t.plan.sectors p + 1)) (2 ^ bit_in_word t.plan.sectors p)) seat [] (with_mark_in_view v p) keeps)
    -- the machine has its workers from the start: when a seat is made, it does nothing
    pub splits : (seat : ℕ) (v : View) → get_elem? s.views seat ≡ some v → v.role ≡ Keeper
        → Shows t record { words = s.words; homes = s.homes; views = slice_set s.views seat (keeper_with_more v) ++ new_worker v ∷ [] } c
    -- when a seat is joined, its worker ends
    pub joins : (seat other worker : ℕ) (v u : View) → get_elem? s.views seat ≡ some v → v.role ≡ Keeper → IsSeatAt other worker u
        → FollowsMachine (End worker) Done record { words = s.words; homes = s.homes; views = slice_set (slice_set s.views seat (keeper_joined v u)) other spent }

-- a new board shows the machine's first state, and where words and views show a state, each step is one of the machine
abbrev pub StepsFollowTheMachine : Type 0
StepsFollowTheMachine =
    ((t : Task) (words : List ℕ) (findable : List Pair)
    → length words ≡ word_count t.plan.sectors + 1 → ((k : ℕ) → k < length words → slice_index words k ≡ 0) → AreFindable t findable
    → Shows {S = Unit {0}} t (opening words [] (keeper_of t)) (machine.start t.plan.sectors t.workers findable))
    × ((t : Task) (s : State (Unit {0}) View) (c : machine.State) → Holds t s → Shows t s c → StepsFollow t s c)
