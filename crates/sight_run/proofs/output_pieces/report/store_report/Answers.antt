use Rattle.std.proofs.Common.{[], sym, refl}
use Rattle.std.proofs.lemmas.List.{append-nil}
use Rattle.std.proofs.lemmas.Result.{err_from_is_err_and}
use Rattle.shelf_io.proofs.BegunLemmas.{among_then}
use Rattle.sight_run.proofs.OutputPieces.OnWay.{all_put, begun, left_is}
use Rattle.sight_run.proofs.output_pieces.report.store_report.Goals as goal

pub returns-in_err-put_texts-clause-failed : goal.returns-in_err-put_texts-clause-failed
returns-in_err-put_texts-clause-failed g c =
    let p = err_from_is_err_and c.from_residual-in_err-put_texts.result c.from_residual-in_err-put_texts.ensures.1 in
    rw p.1 (c.in_err-put_texts.ensures.failed _ _ _ (begun _ _ c.args.name.now _ c.in_ok-create.ensures.made))

pub returns-in_err-put_texts-2-clause-failed : goal.returns-in_err-put_texts-2-clause-failed
returns-in_err-put_texts-2-clause-failed g c =
    let p = err_from_is_err_and c.from_residual-in_err-put_texts-2.result c.from_residual-in_err-put_texts-2.ensures.1 in
    let ended = c.in_ok-put_texts.ensures.put _ _ _ (begun _ _ c.args.name.now _ c.in_ok-create.ensures.made) in
    rw p.1 (c.in_err-put_texts-2.ensures.failed _ _ [] (left_is _ _ _ _ _ _ (sym (append-nil _)) ended))

pub returns-clause-stored : goal.returns-clause-stored
returns-clause-stored g c =
    let ended = c.in_ok-put_texts.ensures.put _ _ _ (begun _ _ c.args.name.now _ c.in_ok-create.ensures.made) in
    all_put _ _ c.args.name.now _ [] (c.in_ok-put_texts-2.ensures.put _ _ [] (left_is _ _ _ _ _ _ (sym (append-nil _)) ended)) refl

pub returns-in_err-put_texts-clause-begun : goal.returns-in_err-put_texts-clause-begun
returns-in_err-put_texts-clause-begun g c = among_then _ _ _ _ c.in_ok-create.ensures.begun c.in_err-put_texts.ensures.begun

pub returns-in_err-put_texts-2-clause-begun : goal.returns-in_err-put_texts-2-clause-begun
returns-in_err-put_texts-2-clause-begun g c = among_then _ _ _ _ (among_then _ _ _ _ c.in_ok-create.ensures.begun c.in_ok-put_texts.ensures.begun) c.in_err-put_texts-2.ensures.begun

pub returns-clause-begun : goal.returns-clause-begun
returns-clause-begun g c = among_then _ _ _ _ (among_then _ _ _ _ c.in_ok-create.ensures.begun c.in_ok-put_texts.ensures.begun) c.in_ok-put_texts-2.ensures.begun
