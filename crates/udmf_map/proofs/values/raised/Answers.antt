use Rattle.std.proofs.Common.{◌*◌, ◌^◌, sym}
use Rattle.udmf_map.proofs.FarNumbers.{too_far, far_mantissa, far_power}
use Rattle.udmf_map.proofs.values.raised.Goals as goal

pub returns-then-mantissa : goal.returns-then-mantissa
returns-then-mantissa c = sym (too_far c.args.negative (c.args.mantissa * 10 ^ c.args.power) 0 (far_mantissa c.args.mantissa c.args.power c.if-mantissa.true))

pub returns-then-power : goal.returns-then-power
returns-then-power c = sym (too_far c.args.negative (c.args.mantissa * 10 ^ c.args.power) 0 (far_power c.args.mantissa c.args.power c.requires c.if-power.true))
