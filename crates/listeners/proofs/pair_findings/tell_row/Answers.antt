use Rattle.std.proofs.Common.{◌+◌, ◌<◌, ◌∷◌, [], arith, refl}
use Rattle.std.proofs.lemmas.Result.{err_from_is_err_and}
use Rattle.listeners.proofs.Turns.{stops_at, stops_on_way, tells_one, told_all, under_way, under_way_more}
use Rattle.listeners.specs.PairFindings.Found.{row_from}
use Rattle.listeners.proofs.PairFindings.Rows.{row_more, row_none}
use Rattle.listeners.proofs.pair_findings.tell_row.Goals as goal

pub loop-b-init : goal.loop-b-init
loop-b-init g c = record {
  on_way = under_way _ _ _ _ refl;
  place = c.requires.place;
}

pub returns-in_err-tell-clause-stops : goal.returns-in_err-tell-clause-stops
returns-in_err-tell-clause-stops g c =
    let p = err_from_is_err_and c.from_residual.result c.from_residual.ensures.1 in
    let within : c.loop-b.b < c.args.table.now.n = omega (arith, c.sectors-b-end.ensures) in
    rw p.1 (stops_on_way _ _ _ _ _ _ c.loop-b.invariant.on_way (record { a = c.args.a; b = c.loop-b.b; kind = c.kind_at-kind.result } ∷ []) (row_from c.args.table.now c.args.listed.now c.args.a (c.loop-b.b + 1)) _ _
    (row_more c.args.table.now c.args.listed.now c.args.a c.loop-b.b c.pass-found.result c.kind_at-kind.result within c.pass-found.ensures.listed c.kind_at-kind.ensures)
    (stops_at _ _ _ _ _ c.in_err-tell.ensures.memory))

pub loop-b-preserved : goal.loop-b-preserved
loop-b-preserved g c =
    let within : c.loop-b.b < c.args.table.now.n = omega (arith, c.sectors-b-end.ensures) in
    record {
      on_way = under_way_more _ _ _ _ _ _ c.loop-b.invariant.on_way (record { a = c.args.a; b = c.loop-b.b; kind = c.kind_at-kind.result } ∷ []) (row_from c.args.table.now c.args.listed.now c.args.a (c.loop-b.b + 1)) _ _
          (row_more c.args.table.now c.args.listed.now c.args.a c.loop-b.b c.pass-found.result c.kind_at-kind.result within c.pass-found.ensures.listed c.kind_at-kind.ensures)
          (tells_one _ _ _ _ _ c.in_ok-tell.ensures.told);
      place = c.pass-found.ensures.place;
    }

pub returns-clause-told : goal.returns-clause-told
returns-clause-told g c = told_all _ _ _ _ _ _ c.loop-b.invariant.on_way (row_none c.args.table.now c.args.listed.now c.args.a c.loop-b.b (omega (arith, c.sectors-b-end.ensures)))
