-- Doors: the sides of passable lines, and how they are found by the sector that they name.
use Rattle.std.specs.Prelude.{◌≡◌, ℕ, ◌+◌, ◌<◌, ◌≤◌, ◌⊎◌, ◌↔◌, List, Some, Option, Bool, true, false, not, length, slice_get, Contains, IsFalse}
use Rattle.sight_names.specs.declared.names.Side.{Side}
use Rattle.sight_names.specs.declared.plan.Line.{Line}
use Rattle.sight_names.specs.Map.{Map}
use Rattle.sight_names.specs.Noise.{LeadsAcross, is_damped}
use Rattle.sound_reach.specs.declared.doors.Door.{Door}
use Rattle.sound_reach.specs.declared.doors.Doors.{Doors}

-- the sector on a side of a line
abbrev pub sector_beside : Line → Bool → Option ℕ
sector_beside l false = l.right
sector_beside l true = l.left

-- the line is passable, and this is one of its sides
pub record IsDoorOf (number : ℕ) (l : Line) (blocks : Bool) (e : Door) : Type 0 where
  pub passable : IsFalse l.solid
  pub line : e.side.line ≡ number
  pub from : sector_beside l e.side.left ≡ Some e.from
  pub to : sector_beside l (not e.side.left) ≡ Some e.to
  pub damped : e.damped ≡ blocks

abbrev pub AreDoorsAdded : ℕ → Line → Bool → List Door → List Door → Type 0
AreDoorsAdded number l blocks old new = (e : Door) → Contains new e ↔ (Contains old e ⊎ IsDoorOf number l blocks e)

-- a side of a passable line, and whether the line blocks sound
pub record IsSoundDoor (m : Map) (dampers : List Bool) (e : Door) : Type 0 where
  pub leads : LeadsAcross m e.side e.from e.to
  pub damped : e.damped ≡ is_damped dampers e.side

abbrev pub AreDoors : Map → List Bool → List Door → Type 0
AreDoors m dampers es = (e : Door) → Contains es e ↔ IsSoundDoor m dampers e

-- the other side of the line
abbrev pub turned_side : Side → Side
turned_side s = record { line = s.line; left = not s.left }

abbrev pub turned_door : Door → Door
turned_door e = record { from = e.to; side = turned_side e.side; to = e.from; damped = e.damped }

-- the doors of a map: both sides of each line, and each side once
pub record IsNet (es : List Door) : Type 0 where
  pub both : (e : Door) → Contains es e → Contains es (turned_door e)
  pub one : (e f : Door) → Contains es e → Contains es f → e.side ≡ f.side → e ≡ f

-- the doors before place i are those of sectors before c
pub record IsDoorStart (es : List Door) (c i : ℕ) : Type 0 where
  pub within : i ≤ length es
  pub before : (k : ℕ) (e : Door) → k < i → slice_get es k ≡ Some e → e.from < c
  pub from : (k : ℕ) (e : Door) → i ≤ k → slice_get es k ≡ Some e → c ≤ e.from

abbrev pub AreDoorStarts : List Door → List ℕ → Type 0
AreDoorStarts es starts = (c i : ℕ) → slice_get starts c ≡ Some i → IsDoorStart es c i

-- a start for each sector, and one behind the last
pub record AreDoorsIndexed (ds : Doors) : Type 0 where
  pub each : length ds.starts.items ≡ ds.sectors + 1
  pub starts : AreDoorStarts ds.doors.items ds.starts.items
  pub net : IsNet ds.doors.items
  pub within : (e : Door) → Contains ds.doors.items e → e.to < ds.sectors

-- the doors from one sector
abbrev pub AreDoorsFrom : List Door → ℕ → List Door → Type 0
AreDoorsFrom es c found = (e : Door) → Contains found e ↔ (Contains es e × (e.from ≡ c))
