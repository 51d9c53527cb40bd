-- The triangles of each group as a chain: the first one, and from each the next one with its label.
use Rattle.std.specs.Prelude.{◌≡◌, ◌≢◌, ℕ, ◌+◌, ◌<◌, ◌≤◌, List, Option, Some, length, slice_get, slice_index_or}
use Rattle.map_picture.specs.declared.chains.Chains.{Chains}

-- from place i on, place j is the first one with this label, or the end
pub record IsNextWith (labels : List (Option ℕ)) (g i j : ℕ) : Type 0 where
  pub from : i ≤ j
  pub none : (k : ℕ) → i ≤ k → k < j → slice_get labels k ≢ Some (Some g)
  pub here : j < length labels → slice_get labels j ≡ Some (Some g)

-- of each group the first place from place i on, and from each place from there on the next one
pub record AreChainsFrom (labels : List (Option ℕ)) (i : ℕ) (first next : List ℕ) : Type 0 where
  pub starts : (g d : ℕ) → g < length first → IsNextWith labels g i (slice_index_or first g d)
  pub nexts : (k g d : ℕ) → i ≤ k → slice_get labels k ≡ Some (Some g) → g < length first → IsNextWith labels g (k + 1) (slice_index_or next k d)

-- the chains of so many groups
pub record AreChains (labels : List (Option ℕ)) (groups : ℕ) (c : Chains) : Type 0 where
  pub each_group : length c.first.items ≡ groups
  pub each_triangle : length c.next.items ≡ length labels
  pub chains : AreChainsFrom labels 0 c.first.items c.next.items
