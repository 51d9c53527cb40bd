-- Noise paths (linuxdoom's P_RecursiveSound, with each passable line open). A line with flag 64 blocks sound (ML_SOUNDBLOCK
-- there; "block sound" in the Unofficial Doom Specs on LINEDEFS), and a noise passes at most one such line.
use Rattle.std.specs.Prelude.{◌≡◌, ℕ, ◌-◌, ◌<◌, ◌≤◌, ◌⊎◌, ◌↔◌, List, [], ◌∷◌, Some, Bool, false, not, length, slice_index_or, IsTrue, IsFalse}
use Rattle.std.specs.List.{count_by, range_with_len, sum_by}
use Rattle.sight_names.specs.declared.names.Side.{Side}
use Rattle.sight_names.specs.Map.{Map, MapLine, line_at, sector_on}
use Rattle.sight_names.specs.Found.{SideBefore}

-- the side of a passable line names a, and the line's other side names b
abbrev pub LeadsAcross : Map → Side → ℕ → ℕ → Type 0
LeadsAcross m s a b = (l : MapLine) × (line_at m s.line ≡ Some l) × IsFalse l.solid × (sector_on l s.left ≡ Some a) × (sector_on l (not s.left) ≡ Some b)

-- the sides lead from a to b: the first names a, the other side of each line names what the next side names, and the other
-- side of the last line names b
abbrev pub LeadThrough : Map → ℕ → List Side → ℕ → Type 0
LeadThrough m a [] b = a ≡ b
LeadThrough m a (s ∷ ss) b = (c : ℕ) × LeadsAcross m s a c × LeadThrough m c ss b

-- the line blocks sound, by one entry for each line record
abbrev pub is_damped : List Bool → Side → Bool
is_damped dampers s = slice_index_or dampers s.line false

-- at most one of its lines blocks sound; where a and b are one sector, it is empty
pub record IsNoisePath (m : Map) (dampers : List Bool) (a b : ℕ) (sides : List Side) : Type 0 where
  pub lead : LeadThrough m a sides b
  pub damped : count_by (is_damped dampers) sides ≤ 1
  pub alone : a ≡ b → sides ≡ []

-- a noise passes from a to b
abbrev pub IsNoiseHeard : Map → List Bool → ℕ → ℕ → Type 0
IsNoiseHeard m dampers a b = (sides : List Side) × IsNoisePath m dampers a b sides

-- compared from the front
abbrev pub SidesBefore : List Side → List Side → Type 0
SidesBefore [] [] = ⊥
SidesBefore [] (t ∷ ts) = Unit {0}
SidesBefore (s ∷ ss) [] = ⊥
SidesBefore (s ∷ ss) (t ∷ ts) = SideBefore s t ⊎ ((s ≡ t) × SidesBefore ss ts)

-- a noise path with the fewest sides, and of these the first
pub record IsFirstNoisePath (m : Map) (dampers : List Bool) (a b : ℕ) (sides : List Side) : Type 0 where
  pub path : IsNoisePath m dampers a b sides
  pub fewest : (other : List Side) → IsNoisePath m dampers a b other → length sides ≤ length other
  pub first : (other : List Side) → IsNoisePath m dampers a b other → length other ≡ length sides → (other ≡ sides) ⊎ SidesBefore sides other

-- how many pairs (a, b) of sectors with a <= b there are between which a noise passes, and between which none does
pub record AreHeardCounts (m : Map) (dampers : List Bool) (pairs silent : ℕ) : Type 0 where
  pub hears : ℕ → ℕ → Bool
  pub tells : (a b : ℕ) → a < m.sectors → b < m.sectors → IsTrue (hears a b) ↔ IsNoiseHeard m dampers a b
  pub pairs_are : pairs ≡ sum_by (λ a. count_by (hears a) (range_with_len a (m.sectors - a))) (range_with_len 0 m.sectors)
  pub silent_are : silent ≡ sum_by (λ a. count_by (λ b. not (hears a b)) (range_with_len a (m.sectors - a))) (range_with_len 0 m.sectors)
