-- How much a walk may still try: each half-edge that is asked counts three times as much as one of those behind it.
use Rattle.std.specs.Prelude.{ℕ, zero, suc, ◌+◌, ◌-◌, ◌^◌, List, [], ◌∷◌, Option, Some, None, length, slice_get}
use Rattle.cert_checker.specs.declared.tree_judge.roots.Root.{Root}
use Rattle.gate_floods.specs.RowJudge.Asked.{Pending, pending_roots}
use Rattle.gate_floods.specs.RowJudge.Words.{row_in_words}
use Rattle.gate_floods.specs.declared.row_judge.follow.Wait.{Wait}
use Rattle.gate_floods.specs.declared.row_judge.walk.RowWalk.{RowWalk}
use Rattle.row_trees.specs.Walkable.{Scene}

-- no path is longer than this
abbrev pub most : Scene → ℕ
most s = length s.edges + 1

abbrev pub weight_at : ℕ → ℕ → ℕ
weight_at d depth = 3 ^ (d - depth)

-- of what is still to be asked, where paths have d portals at most
abbrev pub weight : ℕ → List Pending → ℕ
weight d [] = 0
weight d (p ∷ ps) = weight_at d (length p.path) + weight d ps

-- of the right ways that wait
abbrev pub weight_of_waits : ℕ → List Wait → ℕ
weight_of_waits d [] = 0
weight_of_waits d (w ∷ ws) = weight_at d w.depth + weight_of_waits d ws

abbrev pub weight_of_asked : ℕ → ℕ → Option ℕ → ℕ
weight_of_asked d depth None = 0
weight_of_asked d depth (Some i) = weight_at d depth

abbrev pub root_then : Option Root → (Option ℕ → List ℕ) → List ℕ
root_then None more = []
root_then (Some r) more = r.edge ∷ more r.next

abbrev pub root_at_then : List Root → Option ℕ → (Option ℕ → List ℕ) → List ℕ
root_at_then roots None more = []
root_at_then roots (Some k) more = root_then (slice_get roots k) more

-- the half-edges of the roots from this place on, at most so many
abbrev pub chain_of : List Root → ℕ → Option ℕ → List ℕ
chain_of roots zero o = []
chain_of roots (suc n) o = root_at_then roots o (λ next. chain_of roots n next)

-- of a walk, by its state alone
abbrev pub row_walk_left : Scene → RowWalk → ℕ
row_walk_left s w = weight_of_asked (most s) w.follow.depth w.follow.asked + (weight_of_waits (most s) w.waits.items + weight (most s) (pending_roots s.masks (row_in_words w.rows.items s.masks.width 0) (chain_of s.roots (length s.roots) w.follow.root)))
