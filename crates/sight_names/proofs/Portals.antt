-- Triangles by their edges, portals and their ends, taken one by one.
use Rattle.std.proofs.Common.{◌≡◌, ℕ, zero, suc, ◌<◌, List, [], ◌∷◌, ◌++◌, length, slice_get, Some, subst, ℤ, pos, ◌<ℤ◌, arith}
use Rattle.std.proofs.lemmas.Int.{ints}
use Rattle.std.proofs.lemmas.List.Quantifiers.{position-Some}
use Rattle.math_base.proofs.Options.{none_is_not_some, some_is_same}
use Rattle.sight_names.specs.declared.names.Triangle.{Triangle}
use Rattle.sight_names.specs.Map.{Map}
use Rattle.sight_names.specs.Mesh.{triangle_at, has_edge}
use Rattle.sight_names.specs.Point.{Point}
use Rattle.sight_names.specs.Points.{Edge}
use Rattle.sight_names.specs.Sequence.{Portal, Splits}
use Rattle.sight_names.specs.Splitting.{EndPoints, IsParted, SplitsEnds}

pub scale_above : (p : Point) → pos 0 <ℤ pos p.d
scale_above p = let h = p.positive in omega (arith, ints)

pub triangle_within : (ts : List Triangle) (e : Edge) (k : ℕ) → triangle_at ts e ≡ Some k → k < length ts
triangle_within ts e k found = (position-Some (has_edge e) ts k (record { p = 0; q = 0; r = 0 }) found).0

-- what splits a list of portals splits each of them, and those in front
pub split_front : (m : Map) (qs rs : List Portal) (a b c : ℤ) → Splits m (qs ++ rs) a b c → Splits m qs a b c
split_front m [] rs a b c h = tt
split_front m (q ∷ qs) rs a b c h = (h.0, split_front m qs rs a b c h.1)

pub parted_at : (a b c : ℤ) (es : List EndPoints) (k : ℕ) (p : EndPoints) → SplitsEnds es a b c → slice_get es k ≡ Some p → IsParted a b c p
parted_at a b c [] k p h e = absurd (none_is_not_some p e)
parted_at a b c (q ∷ es) zero p h e = subst (IsParted a b c) (some_is_same q p e) h.0
parted_at a b c (q ∷ es) (suc k) p h e = parted_at a b c es k p h.1 e
