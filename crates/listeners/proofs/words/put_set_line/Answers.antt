use Rattle.std.proofs.Common.{arith}
use Rattle.std.proofs.lemmas.List.{drop_all}
use Rattle.listeners.proofs.words.put_set_line.Goals as goal

pub returns-in-Listed-clause-line : goal.returns-in-Listed-clause-line
returns-in-Listed-clause-line c = rw c.in-Listed.is (drop_all 96 c.args.buf.now (omega (arith, c.requires.room)))

pub returns-in-Clear-clause-line : goal.returns-in-Clear-clause-line
returns-in-Clear-clause-line c = rw c.in-Clear.is (drop_all 96 c.args.buf.now (omega (arith, c.requires.room)))
