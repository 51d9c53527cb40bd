use Rattle.std.proofs.Common.{ℤ, pos, ◌+ℤ◌, ◌≡◌, to_z, of_z, to_z-of_z, w32, sym, subst, rules}
use mir.Val.{SFits}
use Rattle.map_faults.specs.Corners.{IsMeanDown}
use Rattle.map_faults.proofs.Cornering.{lowered_mean}
use Rattle.map_faults.proofs.corners.mean_down.Goals as goal

pub returns-clause-mean : goal.returns-clause-mean
returns-clause-mean c =
    let same : to_z w32 (of_z w32 c.lowered.result) ≡ c.lowered.result = to_z-of_z (let fits : SFits w32 c.lowered.result = search rules in fits) in
    let a : to_z w32 (of_z w32 c.args.a) ≡ c.args.a = to_z-of_z (let fits : SFits w32 c.args.a = search rules in fits) in
    let b : to_z w32 (of_z w32 c.args.b) ≡ c.args.b = to_z-of_z (let fits : SFits w32 c.args.b = search rules in fits) in
    subst (λ (z : ℤ). IsMeanDown c.args.m c.args.n c.args.a c.args.b z) (sym same)
    (lowered_mean c.args.m c.args.n c.raised.result c.raised-2.result c.mean.result c.args.a c.args.b c.lowered.result
    (subst (λ (z : ℤ). pos c.raised.result ≡ z +ℤ pos 33554432) a c.raised.ensures.value) (subst (λ (z : ℤ). pos c.raised-2.result ≡ z +ℤ pos 33554432) b c.raised-2.ensures.value) c.lowered.ensures.value c.mean.ensures.below c.mean.ensures.above)
