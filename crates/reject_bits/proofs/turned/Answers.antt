use Rattle.reject_bits.proofs.Bits.{turned_bit}
use Rattle.reject_bits.proofs.turned.Goals as goal

pub returns : goal.returns
returns c = turned_bit c.args.byte
