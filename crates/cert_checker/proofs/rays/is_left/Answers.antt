use Rattle.std.proofs.Common.{◌≡◌, ℕ, ℤ, List, Some, slice_get, pos, ◌<ℤ◌, subst, arith}
use Rattle.std.proofs.lemmas.Int.{ints}
use Rattle.sight_names.specs.declared.names.Pt.{Pt}
use Rattle.sight_names.specs.declared.names.Ray.{Ray}
use Rattle.geom_exact.specs.Formulas.{side_value}
use Rattle.cert_checker.specs.Rays.{IsOnLeft, IsOnRight}
use Rattle.cert_checker.proofs.rays.is_left.Goals as goal

seen_left : (points : List Pt) (r : Ray) (k : ℕ) (p : Pt) (v : ℤ) → slice_get points k ≡ Some p → v ≡ side_value r p → pos 0 <ℤ v → IsOnLeft points r k
unfolding side_value
seen_left points r k p v there is h = (p, there, subst (λ (z : ℤ). pos 0 <ℤ z) is h)

seen_right : (points : List Pt) (r : Ray) (k : ℕ) (p : Pt) (v : ℤ) → slice_get points k ≡ Some p → v ≡ side_value r p → v <ℤ pos 0 → IsOnRight points r k
unfolding side_value
seen_right points r k p v there is h = (p, there, subst (λ (z : ℤ). z <ℤ pos 0) is h)

pub returns-then-value-gt0-clause-left : goal.returns-then-value-gt0-clause-left
returns-then-value-gt0-clause-left c = λ _.
    let h : pos 0 <ℤ c.side_of-value.result = omega (arith, ints) in
    seen_left c.args.plan.now.points c.args.ray.now c.args.number c.place.result c.side_of-value.result c.place.ensures.number c.side_of-value.ensures.value h

pub returns-then-value-lt0-clause-right : goal.returns-then-value-lt0-clause-right
returns-then-value-lt0-clause-right c = λ _.
    let h : c.side_of-value.result <ℤ pos 0 = omega (arith, ints) in
    seen_right c.args.plan.now.points c.args.ray.now c.args.number c.place.result c.side_of-value.result c.place.ensures.number c.side_of-value.ensures.value h
