use Rattle.std.proofs.Common.{arith, rules, ◌≤◌, length, decimal}
use Rattle.std.proofs.lemmas.Fmt.{length-decimal-le}
use Rattle.listeners.proofs.words.put_number_before.Goals as goal

pub write_digits-requires : goal.write_digits-requires
write_digits-requires c = search (rules, length-decimal-le 20)

pub returns-clause-start : goal.returns-clause-start
returns-clause-start c =
    let short : length (decimal c.args.n) ≤ 20 = search (rules, length-decimal-le 20) in
    let e = c.write_digits.ensures.start in
    (omega (arith, short, e), omega (arith, e))
