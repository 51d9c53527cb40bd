use Rattle.std.proofs.Common.{arith}
use Rattle.reject_bits.proofs.Bits.{none_in_byte}
use Rattle.reject_bits.proofs.passed.Goals as goal

pub returns-then-byte-bit-clause-others : goal.returns-then-byte-bit-clause-others
returns-then-byte-bit-clause-others c = λ k from lt. none_in_byte c.args.byte c.args.bit k c.requires.bit (let h = c.requires.from in omega arith) c.if-byte-bit.true
