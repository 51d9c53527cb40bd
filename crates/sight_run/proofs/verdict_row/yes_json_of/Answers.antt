use Rattle.std.proofs.Common.{codes, sym}
use Rattle.std.specs.Fmt.{decimal}
use Rattle.map_answers.proofs.SightStatus.Lines.{four_counts}
use Rattle.sight_run.proofs.verdict_row.yes_json_of.Goals as goal

pub returns : goal.returns
returns c =
    let n = sym c.from.ensures in
    let set = sym c.from-2.ensures in
    let clear = sym c.from-3.ensures in
    let listed = sym c.from-4.ensures in
    rw (n, set, clear, listed) (four_counts _ _ _ _ _ (codes "{\"verdict\":\"yes\",\"sectors\":") (decimal c.from.result) (codes ",\"set\":") (decimal c.from-2.result) (codes ",\"clear\":") (decimal c.from-3.result) (codes ",\"listed\":") (decimal c.from-4.result) (codes "}\n")
    c.new-line.ensures.bytes c.in_ok-push_count.ensures c.in_ok-push_count-2.ensures c.in_ok-push_count-3.ensures c.in_ok-push_last.ensures)
