use Rattle.std.proofs.Common.{ℕ, ◌<◌, arith, subst, sym}
use Rattle.std.proofs.Math.Nat.{one-le-pow}
use Rattle.map_picture.proofs.scale.bar_for.Goals as goal

pub nonzero_div-quarter-2 : goal.nonzero_div-quarter-2
nonzero_div-quarter-2 c = subst (λ (n : ℕ). 0 < n) (sym c.pow-unit.ensures) (one-le-pow c.from.result 10 (omega arith))
