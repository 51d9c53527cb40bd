use Rattle.std.specs.Prelude.{[]}
use Rattle.std.proofs.lemmas.Option.{none-some}
use Rattle.cert_checker.proofs.Rows.{fault_then, fine_then, totals_then}
use Rattle.exact_checker.specs.Pairs.{known_of, IsFaultAt, IsFine}
use Rattle.exact_checker.proofs.SectorPairs.{all_right, first_wrong}
use Rattle.exact_checker.proofs.judge.judge_each_pair.Goals as goal

pub judge_pairs-requires-clause-listed : goal.judge_pairs-requires-clause-listed
judge_pairs-requires-clause-listed c = record { ascend = λ i j p q less at there. absurd (none-some p at); within = λ i p at. absurd (none-some p at) }

pub returns-in-Ok-clause-pairs : goal.returns-in-Ok-clause-pairs
returns-in-Ok-clause-pairs c = λ cert about.
    let k = known_of c.args.known in
    let told = c.in_ok-judged.ensures in
    all_right cert k about c.in-Ok.totals (fine_then (IsFine k) (IsFaultAt k) k.table [] k.table.n c.in_ok-judged.judged c.in-Ok.totals c.in-Ok.is told.fine) (totals_then (IsFine k) (IsFaultAt k) k.table [] k.table.n c.in_ok-judged.judged c.in-Ok.totals c.in-Ok.is told.totals)

pub returns-in-Err-clause-pairs : goal.returns-in-Err-clause-pairs
returns-in-Err-clause-pairs c = λ cert about.
    let k = known_of c.args.known in
    first_wrong cert k about c.in-Err.fault (fault_then (IsFine k) (IsFaultAt k) k.table [] k.table.n c.in_ok-judged.judged c.in-Err.fault c.in-Err.is c.in_ok-judged.ensures.fine)
