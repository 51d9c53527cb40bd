-- States of a noise, and the doors between them.
use Rattle.std.specs.Prelude.{ℕ, ◌+◌, ◌*◌, Bool, not, ◌&&◌, ◌||◌, Option, Some, None, if◌then◌else◌}
use Rattle.sound_reach.specs.declared.state.State.{State}
use Rattle.sound_reach.specs.declared.doors.Door.{Door}

-- two places for each sector
abbrev pub state_place : State → ℕ
state_place x = x.sector * 2 + (if x.spare then 1 else 0)

-- through the door, which takes the spare line if it is one that blocks sound
abbrev pub after_of : Door → Bool → Option State
after_of e spare = if e.damped && not spare then None else Some (record { sector = e.to; spare = spare && not e.damped })

-- the other way: what was to spare behind the door, where this is left before it
abbrev pub before_of : Door → Bool → Option State
before_of e spare = if e.damped && spare then None else Some (record { sector = e.to; spare = spare || e.damped })
