-- Neighbours are neighbours either way.
use Rattle.std.proofs.Common.{◌≡◌, ℕ, Some, Bool, true, false, not}
use Rattle.sight_names.specs.Map.{Map, sector_on}
use Rattle.sight_names.specs.Found.{AreNeighbours}

pub neighbours_back : (m : Map) (a b : ℕ) → AreNeighbours m a b → AreNeighbours m b a
neighbours_back m a b (i, l, left, at, passable, from, to) = (i, l, not left, at, passable, to, twice left from)
  where
    twice : (left : Bool) → sector_on l left ≡ Some a → sector_on l (not (not left)) ≡ Some a
    twice true h = h
    twice false h = h
