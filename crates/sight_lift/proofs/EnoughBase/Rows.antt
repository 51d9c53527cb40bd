-- The number on worked maps: 1 where no line is passable, else the product.
use Rattle.std.proofs.Common.{◌≡◌, ℕ, ◌*◌, max, ap, List, length}
use Rattle.sight_names.specs.declared.names.Triangle.{Triangle}
use Rattle.sight_names.specs.Points.{points_of}
use Rattle.sight_names.proofs.WorkedMaps.{square, line3, u_map}
use Rattle.sight_names.specs.Enough.{enough_of}

square_enough : (ts : List Triangle) → length ts ≡ 2 → enough_of square ts ≡ 1
unfolding points_of
square_enough ts e = ap (λ (t : ℕ). max 1 (0 * 4 * 4 * t)) e

line3_enough : (ts : List Triangle) → length ts ≡ 6 → enough_of line3 ts ≡ 768
unfolding points_of
line3_enough ts e = ap (λ (t : ℕ). max 1 (2 * 8 * 8 * t)) e

u_enough : (ts : List Triangle) → length ts ≡ 10 → enough_of u_map ts ≡ 2000
unfolding points_of
u_enough ts e = ap (λ (t : ℕ). max 1 (2 * 10 * 10 * t)) e
