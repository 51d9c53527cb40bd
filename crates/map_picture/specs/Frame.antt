-- The frame of a picture: the least and greatest coordinates of the points, and the sizes that follow from them. All
-- sizes are whole, in the map's own unit, since a width in pixels isn't drawn by each reader of such files.
use Rattle.std.specs.Prelude.{ℕ, ◌+◌, ◌*◌, ◌/◌, max, pos, ◌-ℤ◌, List, [], ◌∷◌, unsigned_abs}
use Rattle.std.specs.Int.{int_max, int_min}
use Rattle.sight_names.specs.declared.names.Pt.{Pt}
use Rattle.map_picture.specs.declared.frame.Frame.{Frame}
use Rattle.map_picture.specs.declared.frame.Sizes.{Sizes}

-- the frame of one point
abbrev pub frame_at : Pt → Frame
frame_at p = record { left = p.x; right = p.x; bottom = p.y; top = p.y }

-- as far as the point, too
abbrev pub widened : Frame → Pt → Frame
widened f p = record { left = int_min f.left p.x; right = int_max f.right p.x; bottom = int_min f.bottom p.y; top = int_max f.top p.y }

abbrev pub widened_by : Frame → List Pt → Frame
widened_by f [] = f
widened_by f (p ∷ ps) = widened_by (widened f p) ps

-- the least frame that has all the points; where there is none, that of the origin
abbrev pub frame_of_points : List Pt → Frame
frame_of_points [] = record { left = pos 0; right = pos 0; bottom = pos 0; top = pos 0 }
frame_of_points (p ∷ ps) = widened_by (frame_at p) ps

abbrev pub width_of : Frame → ℕ
width_of f = unsigned_abs (f.right -ℤ f.left)

abbrev pub height_of : Frame → ℕ
height_of f = unsigned_abs (f.top -ℤ f.bottom)

-- what is left free on each side of a picture whose longer side is this: about a fiftieth of it
abbrev pub margin_for : ℕ → ℕ
margin_for longer = longer / 50 + 1

-- The size of a picture of so many of the map's units, with a strip below for the scale. The longer side of the map and its two margins are
-- 1000 pixels.
abbrev pub sizes_for : ℕ → ℕ → Sizes
sizes_for width height =
    let longer = max width height in
    let around = 2 * margin_for longer in
    record {
      margin = margin_for longer;
      stroke = longer / 1200 + 1;
      wide = width + around;
      high = height + 2 * around;
      wide_pixels = 1000 * (width + around) / (longer + around);
      high_pixels = 1000 * (height + 2 * around) / (longer + around);
      strip = height + around;
    }

abbrev pub sizes_of_frame : Frame → Sizes
sizes_of_frame f = sizes_for (width_of f) (height_of f)

-- a point's place in the picture: how far it is from the left edge, and how far below the upper one
abbrev pub place_across : Frame → Pt → ℕ
place_across f p = unsigned_abs (p.x -ℤ f.left)

abbrev pub place_down : Frame → Pt → ℕ
place_down f p = unsigned_abs (f.top -ℤ p.y)
