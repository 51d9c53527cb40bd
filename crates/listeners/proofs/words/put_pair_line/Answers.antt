use Rattle.std.proofs.Common.{arith, rules, ◌≡◌}
use Rattle.std.proofs.lemmas.List.{drop_all}
use Rattle.listeners.proofs.Backwards.{pair_line_made}
use Rattle.listeners.proofs.words.put_pair_line.Goals as goal

pub returns-clause-line : goal.returns-clause-line
returns-clause-line c =
    let at_b : c.from.result ≡ c.args.b = search rules in
    let at_a : c.from-2.result ≡ c.args.a = search rules in
    pair_line_made c.args.word.now c.args.a c.args.b c.from-2.result c.from.result _ _ _ _ _ _ at_a at_b c.put_before.ensures.written c.put_number_before-start-2.ensures.written c.put_before-start-2.ensures.written
    c.put_number_before-start.ensures.written c.put_before-start.ensures.written (drop_all 96 c.args.buf.now (omega (arith, c.requires.room)))
