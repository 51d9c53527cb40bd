-- The machine of a board: its state, its events, and what one event does.
use Rattle.std.specs.Prelude.{◌≡◌, ℕ, zero, suc, ◌+◌, ◌*◌, ◌/◌, ◌%◌, ◌^◌, ◌<◌, Bool, true, false, cond, eqb, ltb, bit_or, List, [], ◌∷◌, ◌++◌, replicate}
use Rattle.std.specs.List.{Contains}
use mathlib.Core.Option.{some}
use lib.ListN.{get_elem?}
use Rattle.pair_budget.specs.declared.board_core.event.Event.{Event}
use Rattle.pair_budget.specs.declared.board_core.event.Event.TheVariants.{Claim, Look, Mark, End}
use Rattle.pair_budget.specs.declared.board_core.event.Reply.{Reply}
use Rattle.pair_budget.specs.declared.board_core.event.Reply.TheVariants.{Source, NoSource, Bits, Done}
use Rattle.sight_names.specs.declared.names.Pair.{Pair}

pub record Worker : Type 0 where
  pub claims : List ℕ
  pub marks : List Pair
  pub ended : Bool

pub record State : Type 0 where
  pub sectors : ℕ
  pub findable : List Pair
  pub next : ℕ
  pub marked : List Pair
  pub workers : List Worker

abbrev pub idle : Worker
idle = record { claims = []; marks = []; ended = false }

-- before the first event
abbrev pub start : ℕ → ℕ → List Pair → State
start n workers findable = record { sectors = n; findable = findable; next = 0; marked = []; workers = replicate workers idle }

-- two sectors, the smaller first
abbrev pub IsPair : ℕ → Pair → Type 0
IsPair n p = (p.a < p.b) × (p.b < n)

abbrev pub pair : ℕ → ℕ → Pair
pair a b = record { a = a; b = b }

abbrev pub word_of : ℕ → Pair → ℕ
word_of n p = (p.a * n + p.b) / 64

abbrev pub bit_of : ℕ → Pair → ℕ
bit_of n p = (p.a * n + p.b) % 64

-- the pair's bit, if it stands in the bit word
abbrev pub bit_in : ℕ → ℕ → Pair → ℕ
bit_in n k p = cond (eqb (word_of n p) k) (2 ^ bit_of n p) 0

-- the bits of the pairs that stand in a bit word
abbrev pub bits_in : ℕ → ℕ → List Pair → ℕ
bits_in n k [] = 0
bits_in n k (p ∷ ps) = bit_or (bit_in n k p) (bits_in n k ps)

abbrev pub with_claim : ℕ → Worker → Worker
with_claim x w = record w { claims = w.claims ++ x ∷ [] }

abbrev pub with_mark : Pair → Worker → Worker
with_mark p w = record w { marks = w.marks ++ p ∷ [] }

abbrev pub at_end : Worker → Worker
at_end w = record w { ended = true }

-- the worker at a place is changed
abbrev pub change : (Worker → Worker) → ℕ → List Worker → List Worker
change f k [] = []
change f zero (w ∷ ws) = f w ∷ ws
change f (suc k) (w ∷ ws) = w ∷ change f k ws

-- a worker that has not ended
abbrev pub IsActive : State → ℕ → Type 0
IsActive s k = (w : Worker) × (get_elem? s.workers k ≡ some w) × (w.ended ≡ false)

abbrev pub CanStep : State → Event → Type 0
CanStep s (Claim k) = IsActive s k
CanStep s (Look k i) = IsActive s k
CanStep s (Mark k a b) = IsActive s k × Contains s.findable (pair a b)
CanStep s (End k) = IsActive s k

abbrev pub claimed : State → ℕ → State
claimed s k = cond (ltb s.next s.sectors) (record s { next = s.next + 1; workers = change (with_claim s.next) k s.workers }) s

abbrev pub after : State → Event → State
after s (Claim k) = claimed s k
after s (Look k i) = s
after s (Mark k a b) = record s { marked = s.marked ++ pair a b ∷ []; workers = change (with_mark (pair a b)) k s.workers }
after s (End k) = record s { workers = change at_end k s.workers }

abbrev pub reply : State → Event → Reply
reply s (Claim k) = cond (ltb s.next s.sectors) (Source s.next) NoSource
reply s (Look k i) = Bits (bits_in s.sectors i s.marked)
reply s (Mark k a b) = Done
reply s (End k) = Done
