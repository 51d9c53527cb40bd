-- Runs of the machine.
use Rattle.std.specs.Prelude.{◌≡◌, ℕ, ◌+◌, cond, eqb, ltb, List, [], ◌∷◌, ◌++◌}
use Rattle.std.specs.List.{Contains}
use Rattle.std.specs.Int.{bit_at}
use mathlib.Core.Option.{some}
use lib.ListN.{get_elem?}
use Rattle.pair_budget.specs.declared.board_core.event.Event.{Event}
use Rattle.pair_budget.specs.declared.board_core.event.Event.TheVariants.{Claim, Look, Mark, End}
use Rattle.sight_names.specs.declared.names.Pair.{Pair}
use Rattle.pair_budget.specs.BoardCore.Machine.{State, Worker, CanStep, after, bits_in, word_of, bit_of, start}

-- each event is by a worker that has not ended, and marks only what may be marked
abbrev pub IsRun : State → List Event → Type 0
IsRun s [] = Unit {0}
IsRun s (e ∷ es) = CanStep s e × IsRun (after s e) es

abbrev pub state_after : State → List Event → State
state_after s [] = s
state_after s (e ∷ es) = state_after (after s e) es

-- the worker and the number that an event logs out
abbrev pub gift : State → Event → List (ℕ × ℕ)
gift s (Claim k) = cond (ltb s.next s.sectors) ((k, s.next) ∷ []) []
gift s (Look k i) = []
gift s (Mark k a b) = []
gift s (End k) = []

abbrev pub handed : State → List Event → List (ℕ × ℕ)
handed s [] = []
handed s (e ∷ es) = gift s e ++ handed (after s e) es

abbrev pub times : ℕ → List (ℕ × ℕ) → ℕ
times x [] = 0
times x (c ∷ cs) = cond (eqb c.1 x) 1 0 + times x cs

-- the numbers that were handed to one worker, in order
abbrev pub numbers_to : ℕ → List (ℕ × ℕ) → List ℕ
numbers_to k [] = []
numbers_to k (c ∷ cs) = cond (eqb c.0 k) (c.1 ∷ numbers_to k cs) (numbers_to k cs)

-- the numbers handed out are those below next, each to one worker, once; and each worker's claims are what it was handed
abbrev pub HandsOutOnce : Type 0
HandsOutOnce =
    (n workers : ℕ) (findable : List Pair) (es : List Event)
    → ((x : ℕ) → times x (handed (start n workers findable) es) ≡ cond (ltb x (state_after (start n workers findable) es).next) 1 0)
    × ((k : ℕ) (w : Worker) → get_elem? (state_after (start n workers findable) es).workers k ≡ some w → w.claims ≡ numbers_to k (handed (start n workers findable) es))

-- each marked pair is findable, and stands in some worker's marks
abbrev pub MarksTruly : Type 0
MarksTruly =
    (n workers : ℕ) (findable : List Pair) (es : List Event) (p : Pair) → IsRun (start n workers findable) es → Contains (state_after (start n workers findable) es).marked p
    → Contains findable p × ((k : ℕ) × (w : Worker) × (get_elem? (state_after (start n workers findable) es).workers k ≡ some w) × Contains w.marks p)

abbrev pub IsBitShown : State → ℕ → Pair → Type 0
IsBitShown s i p = bit_at (bits_in s.sectors i s.marked) (bit_of s.sectors p) ≡ 1

-- a look gives every pair of its word that the worker has marked, and every pair that a look gave before
abbrev pub LooksGrow : Type 0
LooksGrow =
    (n workers : ℕ) (findable : List Pair) (es : List Event) → IsRun (start n workers findable) es
    → ((k : ℕ) (w : Worker) (p : Pair) → get_elem? (state_after (start n workers findable) es).workers k ≡ some w → Contains w.marks p → IsBitShown (state_after (start n workers findable) es) (word_of n p) p)
    × ((more : List Event) (i : ℕ) (p : Pair) → IsBitShown (state_after (start n workers findable) es) i p → IsBitShown (state_after (state_after (start n workers findable) es) more) i p)

-- each bit that a look gives is that of a marked pair, which stands in the word
abbrev pub LooksTruly : Type 0
LooksTruly =
    (s : State) (i b : ℕ) → bit_at (bits_in s.sectors i s.marked) b ≡ 1
    → (p : Pair) × Contains s.marked p × (word_of s.sectors p ≡ i) × (bit_of s.sectors p ≡ b)
