-- Triangles, rays, listed pairs, and the head of a tree are whole records.
use Rattle.std.proofs.Common.{ℕ, ◌+◌, ◌%◌, Bool, ltb, not, ◌&&◌, ◌==◌, List, Option, Result, Ok, ℤ}
use Rattle.std.specs.Int.{Width, w16, w32, w64, byte_len, cast_signed}
use Rattle.sight_names.specs.declared.faults.CertFault.{CertFault}
use Rattle.sight_names.specs.declared.faults.CertFault.TheVariants as faults
use Rattle.sight_names.specs.declared.names.Pair.{Pair}
use Rattle.sight_names.specs.declared.names.PairRay.{PairRay}
use Rattle.sight_names.specs.declared.names.Ray.{Ray}
use Rattle.sight_names.specs.declared.names.Side.{Side}
use Rattle.cert_format.specs.declared.cert.Sizes.{Sizes}
use Rattle.cert_format.specs.declared.cert.Labelled.{Labelled}
use Rattle.cert_format.specs.Reading.{◌>>=◌, passed, comes_after, pair_after, pair_if_any, triangle_after, number_at, signed_at, number_below, point_apart, side_at, triangle_at, sight_line_at, ray_at, pair_at}
use Rattle.certificates.specs.CertParts.Steps.{head_at}
use Rattle.certificates.proofs.CertParts.Whole.{value, tested, IsWhole, whole_then, whole_value, whole_test, from_here, whole_number, whole_field}

abbrev Reader : Type 0 → Type 0
Reader X = ℕ → ℕ → List ℕ → Result (X × List ℕ) CertFault

-- ---- fields

pub below_whole : (limit : ℕ) → IsWhole (λ start total bytes. number_below limit total bytes) 2
unfolding number_below
below_whole limit = whole_field w16 (λ n. ltb n limit) (λ at. faults.OutOfRange at) (λ n. n)

apart_whole : (points p q : ℕ) → IsWhole (λ start total bytes. point_apart points p q total bytes) 2
unfolding point_apart
apart_whole points p q = whole_field w16 (λ n. ltb n points && not (n == p) && not (n == q)) (λ at. faults.OutOfRange at) (λ n. n)

abbrev side_of : ℕ → Side
side_of n = record { line = n % 32768; left = ltb 32767 n }

side_whole : (lines : ℕ) → IsWhole (λ start total bytes. side_at lines total bytes) 2
unfolding side_at
side_whole lines = whole_field w16 (λ n. ltb (n % 32768) lines) (λ at. faults.OutOfRange at) side_of

signed_whole : (w : Width) → IsWhole (λ start total bytes. signed_at w total bytes) (byte_len w + 0)
unfolding signed_at
signed_whole w = whole_then (λ start total bytes. number_at w total bytes) (λ n start total bytes. value (cast_signed w n) bytes) (byte_len w) 0 (whole_number w) (λ n. whole_value (cast_signed w n))

-- ---- triangles

module _ (sizes : Sizes) (last : Option Labelled) where
  abbrev with_points : ℕ → ℕ → ℕ → Reader Labelled
  with_points p q r start total bytes = number_below sizes.sectors total bytes >>= λ sector.
      passed (ltb p q && ltb p r && triangle_after last (record { p = p; q = q; r = r })) (faults.NotSorted start) (record { triangle = record { p = p; q = q; r = r }; sector = sector.0 }, sector.1)

  abbrev with_two : ℕ → ℕ → Reader Labelled
  with_two p q start total bytes = point_apart sizes.points p q total bytes >>= λ r. with_points p q r.0 start total r.1

  abbrev with_one : ℕ → Reader Labelled
  with_one p start total bytes = point_apart sizes.points p p total bytes >>= λ q. with_two p q.0 start total q.1

  abbrev whole_triangle : Reader Labelled
  whole_triangle start total bytes = number_below sizes.points total bytes >>= λ p. with_one p.0 start total p.1

  points_whole : (p q r : ℕ) → IsWhole (with_points p q r) 2
  points_whole p q r =
      let made : ℕ → Labelled = λ sector. record { triangle = record { p = p; q = q; r = r }; sector = sector } in
      let test : Bool = ltb p q && ltb p r && triangle_after last (record { p = p; q = q; r = r }) in
      whole_then (λ start total bytes. number_below sizes.sectors total bytes) (λ sector start total bytes. tested test (faults.NotSorted start) (made sector) bytes) 2 0
      (below_whole sizes.sectors) (λ sector. whole_test test (λ at. faults.NotSorted at) (made sector))

  two_whole : (p q : ℕ) → IsWhole (with_two p q) 4
  two_whole p q = whole_then (λ start total bytes. point_apart sizes.points p q total bytes) (with_points p q) 2 2 (apart_whole sizes.points p q) (points_whole p q)

  one_whole : (p : ℕ) → IsWhole (with_one p) 6
  one_whole p = whole_then (λ start total bytes. point_apart sizes.points p p total bytes) (with_two p) 2 4 (apart_whole sizes.points p p) (two_whole p)

  pub triangle_whole : IsWhole (λ start total bytes. triangle_at sizes total last bytes) 8
  unfolding triangle_at
  triangle_whole = from_here whole_triangle 8 (whole_then (λ start total bytes. number_below sizes.points total bytes) with_one 2 6 (below_whole sizes.points) one_whole)

-- ---- rays

module _ (lines : ℕ) where
  abbrev with_b : Side → Side → ℤ → ℤ → Reader Ray
  with_b first last a b start total bytes = signed_at w64 total bytes >>= λ c. Ok (record { first = first; last = last; a = a; b = b; c = c.0 }, c.1)

  abbrev with_a : Side → Side → ℤ → Reader Ray
  with_a first last a start total bytes = signed_at w32 total bytes >>= λ b. with_b first last a b.0 start total b.1

  abbrev with_sides : Side → Side → Reader Ray
  with_sides first last start total bytes = signed_at w32 total bytes >>= λ a. with_a first last a.0 start total a.1

  abbrev with_side : Side → Reader Ray
  with_side first start total bytes = side_at lines total bytes >>= λ last. with_sides first last.0 start total last.1

  b_whole : (first last : Side) (a b : ℤ) → IsWhole (with_b first last a b) 8
  b_whole first last a b =
      let made : ℤ → Ray = λ c. record { first = first; last = last; a = a; b = b; c = c } in
      whole_then (λ start total bytes. signed_at w64 total bytes) (λ c start total bytes. value (made c) bytes) 8 0 (signed_whole w64) (λ c. whole_value (made c))

  a_whole : (first last : Side) (a : ℤ) → IsWhole (with_a first last a) 12
  a_whole first last a = whole_then (λ start total bytes. signed_at w32 total bytes) (with_b first last a) 4 8 (signed_whole w32) (b_whole first last a)

  sides_whole : (first last : Side) → IsWhole (with_sides first last) 16
  sides_whole first last = whole_then (λ start total bytes. signed_at w32 total bytes) (with_a first last) 4 12 (signed_whole w32) (a_whole first last)

  side_then : (first : Side) → IsWhole (with_side first) 18
  side_then first = whole_then (λ start total bytes. side_at lines total bytes) (with_sides first) 2 16 (side_whole lines) (sides_whole first)

  line_whole : IsWhole (λ start total bytes. sight_line_at lines total bytes) 20
  unfolding sight_line_at
  line_whole = whole_then (λ start total bytes. side_at lines total bytes) with_side 2 18 (side_whole lines) side_then

module _ (sizes : Sizes) (before : Option PairRay) where
  abbrev with_pair : ℕ → ℕ → Reader PairRay
  with_pair a b start total bytes = sight_line_at sizes.lines total bytes >>= λ ray.
      passed (ltb a b && pair_after (pair_if_any before) (record { a = a; b = b })) (faults.NotSorted start) (record { pair = record { a = a; b = b }; ray = ray.0 }, ray.1)

  abbrev with_from : ℕ → Reader PairRay
  with_from a start total bytes = number_below sizes.sectors total bytes >>= λ b. with_pair a b.0 start total b.1

  abbrev whole_ray : Reader PairRay
  whole_ray start total bytes = number_below sizes.sectors total bytes >>= λ a. with_from a.0 start total a.1

  pair_then : (a b : ℕ) → IsWhole (with_pair a b) 20
  pair_then a b =
      let made : Ray → PairRay = λ ray. record { pair = record { a = a; b = b }; ray = ray } in
      let test : Bool = ltb a b && pair_after (pair_if_any before) (record { a = a; b = b }) in
      whole_then (λ start total bytes. sight_line_at sizes.lines total bytes) (λ ray start total bytes. tested test (faults.NotSorted start) (made ray) bytes) 20 0
      (line_whole sizes.lines) (λ ray. whole_test test (λ at. faults.NotSorted at) (made ray))

  from_whole : (a : ℕ) → IsWhole (with_from a) 22
  from_whole a = whole_then (λ start total bytes. number_below sizes.sectors total bytes) (with_pair a) 2 20 (below_whole sizes.sectors) (pair_then a)

  pub ray_whole : IsWhole (λ start total bytes. ray_at sizes total before bytes) 24
  unfolding ray_at
  ray_whole = from_here whole_ray 24 (whole_then (λ start total bytes. number_below sizes.sectors total bytes) with_from 2 22 (below_whole sizes.sectors) from_whole)

-- ---- listed pairs

module _ (sizes : Sizes) (before : Option Pair) where
  abbrev with_first : ℕ → Reader Pair
  with_first a start total bytes = number_below sizes.sectors total bytes >>= λ b.
      passed (ltb a b.0 && pair_after before (record { a = a; b = b.0 })) (faults.NotSorted start) (record { a = a; b = b.0 }, b.1)

  abbrev whole_pair : Reader Pair
  whole_pair start total bytes = number_below sizes.sectors total bytes >>= λ a. with_first a.0 start total a.1

  first_whole : (a : ℕ) → IsWhole (with_first a) 2
  first_whole a =
      let made : ℕ → Pair = λ b. record { a = a; b = b } in
      let test : ℕ → Bool = λ b. ltb a b && pair_after before (made b) in
      whole_then (λ start total bytes. number_below sizes.sectors total bytes) (λ b start total bytes. tested (test b) (faults.NotSorted start) (made b) bytes) 2 0
      (below_whole sizes.sectors) (λ b. whole_test (test b) (λ at. faults.NotSorted at) (made b))

  pub pair_whole : IsWhole (λ start total bytes. pair_at sizes total before bytes) 4
  unfolding pair_at
  pair_whole = from_here whole_pair 4 (whole_then (λ start total bytes. number_below sizes.sectors total bytes) with_first 2 2 (below_whole sizes.sectors) first_whole)

-- ---- heads of trees

module _ (sizes : Sizes) (last : Option ℕ) where
  abbrev with_sorted : ℕ → Reader (ℕ × ℕ)
  with_sorted source start total bytes = number_at w64 total bytes >>= λ count. Ok ((source, count.0), count.1)

  abbrev with_source : ℕ → Reader (ℕ × ℕ)
  with_source source start total bytes = tested (comes_after last source) (faults.NotSorted start) source bytes >>= λ sorted. with_sorted sorted.0 start total sorted.1

  abbrev whole_head : Reader (ℕ × ℕ)
  whole_head start total bytes = number_below sizes.sectors total bytes >>= λ source. with_source source.0 start total source.1

  sorted_whole : (source : ℕ) → IsWhole (with_sorted source) 8
  sorted_whole source =
      let made : ℕ → ℕ × ℕ = λ count. (source, count) in
      whole_then (λ start total bytes. number_at w64 total bytes) (λ count start total bytes. value (made count) bytes) 8 0 (whole_number w64) (λ count. whole_value (made count))

  source_whole : (source : ℕ) → IsWhole (with_source source) 8
  source_whole source =
      whole_then (λ start total bytes. tested (comes_after last source) (faults.NotSorted start) source bytes) with_sorted 0 8 (whole_test (comes_after last source) (λ at. faults.NotSorted at) source) sorted_whole

  pub head_whole : IsWhole (λ start total bytes. head_at sizes total last bytes) 10
  unfolding head_at
  head_whole = from_here whole_head 10 (whole_then (λ start total bytes. number_below sizes.sectors total bytes) with_source 2 8 (below_whole sizes.sectors) source_whole)
