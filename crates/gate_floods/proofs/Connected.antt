-- The sectors of a gate: numbers of sectors of the map, and connected.
use Rattle.std.proofs.Common.{◌≡◌, ℕ, ◌<◌, List, [], ◌∷◌, ◌++◌, Option, Some, Bool, true, false, not, refl, sym, subst}
use Rattle.std.specs.Prelude.{IfSome}
use Rattle.sight_names.specs.Map.{Map, MapLine, IsMap, IsMapLine, sector_on}
use Rattle.sight_names.specs.Found.{AreConnected, AreNeighbours, IsChain}
use Rattle.sight_names.specs.Sequence.{Portal}
use Rattle.sight_lift.proofs.Doors.{door_neighbours}
use Rattle.gate_floods.specs.Gates.{IsGate}
use Rattle.gate_floods.proofs.Flooding.{door_of_gate}

-- a chain of neighbours, with one neighbour more
chain_on : (m : Map) (a b c : ℕ) (cs : List ℕ) → IsChain m a cs b → AreNeighbours m b c → IsChain m a (cs ++ c ∷ []) c
chain_on m a b c [] e n = (subst (λ (x : ℕ). AreNeighbours m x c) (sym e) n, refl)
chain_on m a b c (d ∷ cs) h n = (h.0, chain_on m d b c cs h.1 n)

named_below : (n : ℕ) (o : Option ℕ) (a : ℕ) → IfSome o (λ b. b < n) → o ≡ Some a → a < n
named_below n o a h e = subst (λ (x : Option ℕ). IfSome x (λ b. b < n)) e h

pub side_below : (n : ℕ) (l : MapLine) (left : Bool) (a : ℕ) → IsMapLine n l → sector_on l left ≡ Some a → a < n
side_below n l true a h e = named_below n l.left a h.left e
side_below n l false a h e = named_below n l.right a h.right e

module _ (g : Map) (is_map : IsMap g) where
  pub near_below : (b d : ℕ) (p : Portal) → IsGate g b d p → b < g.sectors
  near_below b d p gate = let h = door_of_gate g b d p gate in side_below g.sectors h.line h.left b (is_map h.number h.line h.is) h.from

  pub far_below : (b d : ℕ) (p : Portal) → IsGate g b d p → d < g.sectors
  far_below b d p gate = let h = door_of_gate g b d p gate in side_below g.sectors h.line (not h.left) d (is_map h.number h.line h.is) h.to

pub on_through : (g : Map) (a b d : ℕ) (p : Portal) → AreConnected g a b → IsGate g b d p → AreConnected g a d
on_through g a b d p c gate = (c.0 ++ d ∷ [], chain_on g a b d c.0 c.1 (door_neighbours g b d p (door_of_gate g b d p gate)))
