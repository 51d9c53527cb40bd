-- The ends of a map's lines are points of the map.
use Rattle.std.proofs.Common.{◌≡◌, ℕ, zero, suc, List, [], ◌∷◌, Option, Some, None, Contains, option_and_then, filter_map, slice_get, ap, subst}
use Rattle.std.proofs.lemmas.Option.{none-some, same_Some}
use Rattle.math_base.proofs.Lists.{contains_here, contains_there}
use Rattle.sight_names.specs.declared.names.Pt.{Pt}
use Rattle.sight_names.specs.Map.{Map, MapLine, line_at}
use Rattle.sight_names.specs.Points.{ends_of_lines, points_of}
use Rattle.sight_names.proofs.PlanPoints.{in_order_has}

abbrev ends : List (Option MapLine) → List Pt
ends ls = ends_of_lines (filter_map (λ l. l) ls)

at_place : (o : Option (Option MapLine)) (l : MapLine) → option_and_then (λ l. l) o ≡ Some l → o ≡ Some (Some l)
at_place None l e = absurd (none-some l e)
at_place (Some x) l e = ap (λ (y : Option MapLine). Some y) e

both_ends : (ls : List (Option MapLine)) (i : ℕ) (l : MapLine) → slice_get ls i ≡ Some (Some l) → Contains (ends ls) l.first × Contains (ends ls) l.second
both_ends [] i l h = absurd (none-some (Some l) h)
both_ends (None ∷ ls) zero l h = absurd (none-some l (same_Some None (Some l) h))
both_ends (None ∷ ls) (suc i) l h = both_ends ls i l h
both_ends (Some k ∷ ls) zero l h =
    subst (λ (x : MapLine). Contains (ends (Some k ∷ ls)) x.first × Contains (ends (Some k ∷ ls)) x.second) (same_Some k l (same_Some (Some k) (Some l) h))
    (contains_here k.first (k.second ∷ ends ls), contains_there k.second k.first (k.second ∷ ends ls) (contains_here k.second (ends ls)))
both_ends (Some k ∷ ls) (suc i) l h =
    let r = both_ends ls i l h in
    (contains_there l.first k.first (k.second ∷ ends ls) (contains_there l.first k.second (ends ls) r.0), contains_there l.second k.first (k.second ∷ ends ls) (contains_there l.second k.second (ends ls) r.1))

pub has_ends : (m : Map) (i : ℕ) (l : MapLine) → line_at m i ≡ Some l → Contains (points_of m) l.first × Contains (points_of m) l.second
unfolding points_of
has_ends m i l h = let r = both_ends m.lines i l (at_place (slice_get m.lines i) l h) in (in_order_has (ends m.lines) l.first r.0, in_order_has (ends m.lines) l.second r.1)
