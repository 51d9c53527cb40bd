use Rattle.std.proofs.Common.{arith}
use Rattle.std.proofs.lemmas.List.{drop_all}
use Rattle.listeners.proofs.Backwards.{total_line_made}
use Rattle.listeners.proofs.words.put_total_line.Goals as goal

pub returns-clause-line : goal.returns-clause-line
returns-clause-line c =
    total_line_made c.args.set c.args.clear c.args.listed _ _ _ _ _ _ _ _ c.put_before.ensures.written c.put_number_before-start-3.ensures.written c.put_before-start-3.ensures.written
    c.put_number_before-start-2.ensures.written c.put_before-start-2.ensures.written c.put_number_before-start.ensures.written c.put_before-start.ensures.written
    (drop_all 96 c.args.buf.now (omega (arith, c.requires.room)))
