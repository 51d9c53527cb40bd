use Rattle.std.proofs.Common.{w64, FitsSigned, to_z-of_z, ◌*ℤ◌, ap, arith}
use Rattle.std.proofs.lemmas.Int.{ints}
use Rattle.udmf_map.proofs.Units.{wide_fits, finer_fits}
use Rattle.udmf_map.proofs.grid.finer.Goals as goal

pub overflow_mul-result : goal.overflow_mul-result
overflow_mul-result c =
    let n = c.ranges.units in let w = wide_fits c.args.units c.ranges.units in let t = c.pow.type_inv in
    let p : FitsSigned w64 c.pow.result = omega (arith, ints, t) in
    simp to_z-of_z (finer_fits c.args.units c.pow.result c.args.more c.ranges.units c.pow.ensures c.requires)

pub returns : goal.returns
returns c =
    let n = c.ranges.units in let w = wide_fits c.args.units c.ranges.units in let t = c.pow.type_inv in
    let p : FitsSigned w64 c.pow.result = omega (arith, ints, t) in
    let q = finer_fits c.args.units c.pow.result c.args.more c.ranges.units c.pow.ensures c.requires in
    simp to_z-of_z (ap (λ z. c.args.units *ℤ z) c.pow.ensures)
