use Rattle.std.proofs.Common.{rules, refl}
use Rattle.std.proofs.lemmas.Result.{err_from_is_err_and}
use Rattle.shelf_io.proofs.BegunLemmas.{among_same, among_then}
use Rattle.sight_run.proofs.OutputPieces.OnWay.{left_is, next_text, no_text}
use Rattle.sight_run.proofs.output_pieces.report.put_texts.Goals as goal

pub loop-listener-preserved : goal.loop-listener-preserved
loop-listener-preserved g c = record {
  way = λ before all rest h. c.in_ok-put_text.ensures.put before all _
      (left_is before _ _ all _ _ (next_text _ c.args.list.now c.loop-listener.listener-index c.listener-item.result rest c.loop-listener-test.true c.listener-item.is) (c.loop-listener.invariant.way before all rest h));
  begun = among_then _ _ _ _ c.loop-listener.invariant.begun c.in_ok-put_text.ensures.begun;
  counts = search rules;
  quiet = search rules;
}

pub returns-in_err-put_text-clause-failed : goal.returns-in_err-put_text-clause-failed
returns-in_err-put_text-clause-failed g c =
    let p = err_from_is_err_and c.from_residual.result c.from_residual.ensures.1 in
    λ before all rest h. rw p.1 (c.in_err-put_text.ensures.failed before all _
    (left_is before _ _ all _ _ (next_text _ c.args.list.now c.loop-listener.listener-index c.listener-item.result rest c.loop-listener-test.true c.listener-item.is) (c.loop-listener.invariant.way before all rest h)))

pub returns-clause-put : goal.returns-clause-put
returns-clause-put g c =
    λ before all rest h. left_is before _ _ all _ rest (no_text _ c.args.list.now c.loop-listener.listener-index rest c.loop-listener-test.false) (c.loop-listener.invariant.way before all rest h)

pub returns-in_err-put_text-clause-begun : goal.returns-in_err-put_text-clause-begun
returns-in_err-put_text-clause-begun g c = among_then _ _ _ _ c.loop-listener.invariant.begun c.in_err-put_text.ensures.begun

pub loop-listener-init : goal.loop-listener-init
loop-listener-init g c = record {
  way = λ before all rest h. h;
  begun = among_same _ _ _ refl;
  counts = search rules;
  quiet = search rules;
}
