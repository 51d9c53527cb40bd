-- The scale of a picture: a bar, and the number beside it, which tells in map units how long the bar is. The points of a map are told
-- in units of its last decimal place, so that all of them are whole; of a map with so many places 10 ^ places of these are a map unit.
use Rattle.std.specs.Prelude.{ℕ, zero, suc, ◌*◌, ◌/◌, ◌-◌, ◌^◌, nat_le, if◌then◌else◌}
use Rattle.map_picture.specs.declared.scale.Bar.{Bar}

-- what so many steps are cut down to a multiple of, which one reads easily
abbrev pub grain_for : ℕ → ℕ
grain_for steps = if nat_le 1024 steps then 1024 else if nat_le 128 steps then 128 else if nat_le 16 steps then 16 else 1

abbrev pub cut_down : ℕ → ℕ
cut_down steps = steps / grain_for steps * grain_for steps

-- The step of a bar of at most this length is a power of ten, the greatest that is no longer and at most a map unit. So it is a map
-- unit where one fits in, and else its steps are less than ten.
unfoldable pub step_for : ℕ → ℕ → ℕ
step_for length zero = 0
step_for length (suc places) = if nat_le (10 ^ suc places) length then suc places else step_for length places

-- the bar of so many steps, each of them 10 ^ step, and the decimal places of the number that tells it in map units
abbrev pub bar_of : ℕ → ℕ → ℕ → Bar
bar_of places step steps = record { length = steps * 10 ^ step; steps = steps; behind = places - step }

-- that of a picture of this width is at most a fourth of it
abbrev pub bar_for : ℕ → ℕ → Bar
bar_for width places = bar_of places (step_for (width / 4) places) (cut_down (width / 4 / 10 ^ step_for (width / 4) places))
