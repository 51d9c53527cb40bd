-- Where a ray crosses a line, as a picture has it: in thousandths of the map's own unit, cut down.
use Rattle.std.specs.Prelude.{ℕ, ◌+◌, ◌*◌, ◌/◌, ℤ, pos, ◌+ℤ◌, ◌-ℤ◌, ◌*ℤ◌, ◌≤ℤ◌, ◌<ℤ◌, unsigned_abs}
use Rattle.sight_names.specs.declared.names.Pt.{Pt}
use Rattle.sight_names.specs.declared.names.Ray.{Ray}
use Rattle.sight_names.specs.Point.{Point}
use Rattle.geom_exact.specs.Formulas.{side_value}
use Rattle.map_picture.specs.declared.frame.Frame.{Frame}
use Rattle.map_picture.specs.declared.crossings.Spot.{Spot}
use Rattle.map_picture.specs.Frame.{place_across, place_down}

-- 1,000 times the mean of p with weight g and q with weight f, cut down
abbrev pub thousandths_between : ℕ → ℕ → ℕ → ℕ → ℕ
thousandths_between f g p q = 1000 * (g * p + f * q) / (f + g)

-- where the ray crosses the segment: the nearer an end is to the ray, the more it weighs
abbrev pub crossing_spot : Frame → Ray → Pt → Pt → Spot
crossing_spot f r p q = record {
  across = thousandths_between (unsigned_abs (side_value r p)) (unsigned_abs (side_value r q)) (place_across f p) (place_across f q);
  down = thousandths_between (unsigned_abs (side_value r p)) (unsigned_abs (side_value r q)) (place_down f p) (place_down f q);
}

-- t is 1,000 * n / d, cut down
pub record IsCutDown (t : ℕ) (n : ℤ) (d : ℕ) : Type 0 where
  pub least : (pos t *ℤ pos d) ≤ℤ (pos 1000 *ℤ n)
  pub next : (pos 1000 *ℤ n) <ℤ ((pos t +ℤ pos 1) *ℤ pos d)

-- the spot is where the point is, less than a thousandth to the left of it or above it: its distances from the frame's left and
-- from the frame's top are the point's, cut down
pub record IsSpotOf (f : Frame) (p : Point) (s : Spot) : Type 0 where
  pub across : IsCutDown s.across (p.x -ℤ f.left *ℤ pos p.d) p.d
  pub down : IsCutDown s.down (f.top *ℤ pos p.d -ℤ p.y) p.d
