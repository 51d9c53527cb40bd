use Rattle.reject_bits.proofs.Bits.{masked_keeps, masked_ends}
use Rattle.reject_bits.proofs.clear_spare.Goals as goal

pub returns-clause-kept : goal.returns-clause-kept
returns-clause-kept c = masked_keeps c.args.n c.args.bytes.now c.requires c.if-used-eq0.false

pub returns-clause-zero : goal.returns-clause-zero
returns-clause-zero c = masked_ends c.args.n c.args.bytes.now c.requires c.if-used-eq0.false
