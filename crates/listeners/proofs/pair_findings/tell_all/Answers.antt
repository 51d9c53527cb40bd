use Rattle.std.proofs.Common.{◌≡◌, ◌+◌, ◌<◌, arith, ap, map, length, rules}
use Rattle.std.proofs.lemmas.List.{nil_from_length}
use Rattle.std.proofs.lemmas.Result.{err_from_is_err_and}
use Rattle.listeners.proofs.Heards.{are_told, heard_fronts}
use Rattle.listeners.proofs.Turns.{stops_on_way, told_all, told_to_none, under_way, under_way_more}
use Rattle.listeners.specs.PairFindings.Found.{row_from}
use Rattle.listeners.proofs.PairFindings.Places.{all_are_left, row_passed}
use Rattle.listeners.proofs.PairFindings.Rows.{rows_all, rows_from, rows_more, rows_none}
use Rattle.listeners.proofs.pair_findings.tell_all.Goals as goal

pub loop-a-init : goal.loop-a-init
loop-a-init g c = record {
  on_way = under_way _ _ _ _ (rows_all c.args.table.now c.args.listed.now);
  place = all_are_left c.args.listed.now c.requires.ascend;
}

pub loop-a-preserved : goal.loop-a-preserved
loop-a-preserved g c =
    let t = c.args.table.now in
    let listed = c.args.listed.now in
    let a = c.loop-a.a in
    let within : a < t.n = omega (arith, c.sectors-a-end.ensures) in
    record {
      on_way = under_way_more _ _ _ _ _ _ c.loop-a.invariant.on_way (row_from t listed a a) (rows_from t listed (a + 1)) _ _ (rows_more t listed a within) c.in_ok-tell_row.ensures.told;
      place = row_passed t.n listed c.tell_row.new.place a c.requires.pairs c.in_ok-tell_row.ensures.place;
    }

pub returns-then-is_empty-clause-in_turn : goal.returns-then-is_empty-clause-in_turn
returns-then-is_empty-clause-in_turn g c =
    let none : length c.loop-a.list.items ≡ 0 = search rules in
    told_to_none _ _ _ _ _ _ c.loop-a.invariant.on_way (ap (map _) (nil_from_length c.loop-a.list.items none))

pub returns-then-is_empty-clause-told : goal.returns-then-is_empty-clause-told
returns-then-is_empty-clause-told g c = are_told _ _ _ _ _ (ap (map _) c.requires.nobody) (returns-then-is_empty-clause-in_turn g c)

pub returns-clause-in_turn : goal.returns-clause-in_turn
returns-clause-in_turn g c = told_all _ _ _ _ _ _ c.loop-a.invariant.on_way (rows_none c.args.table.now c.args.listed.now c.loop-a.a (omega (arith, c.sectors-a-end.ensures)))

pub returns-clause-told : goal.returns-clause-told
returns-clause-told g c = are_told _ _ _ _ _ (ap (map _) c.requires.nobody) (returns-clause-in_turn g c)

pub returns-in_err-tell_row-clause-stops : goal.returns-in_err-tell_row-clause-stops
returns-in_err-tell_row-clause-stops g c =
    let p = err_from_is_err_and c.from_residual.result c.from_residual.ensures.1 in
    let t = c.args.table.now in
    let listed = c.args.listed.now in
    let a = c.loop-a.a in
    let within : a < t.n = omega (arith, c.sectors-a-end.ensures) in
    rw p.1 (stops_on_way _ _ _ _ _ _ c.loop-a.invariant.on_way (row_from t listed a a) (rows_from t listed (a + 1)) _ _ (rows_more t listed a within) c.in_err-tell_row.ensures.stops)

pub returns-in_err-tell_row-clause-memory : goal.returns-in_err-tell_row-clause-memory
returns-in_err-tell_row-clause-memory g c =
    let p = err_from_is_err_and c.from_residual.result c.from_residual.ensures.1 in
    let t = c.args.table.now in
    let listed = c.args.listed.now in
    let a = c.loop-a.a in
    let within : a < t.n = omega (arith, c.sectors-a-end.ensures) in
    rw p.1 (heard_fronts _ _ _ _ _ (stops_on_way _ _ _ _ _ _ c.loop-a.invariant.on_way (row_from t listed a a) (rows_from t listed (a + 1)) _ _ (rows_more t listed a within) c.in_err-tell_row.ensures.stops))
