use Rattle.std.proofs.Common.{rules, arith, ◌+◌, ◌≤◌, length}
use Rattle.std.proofs.lemmas.Result.{err_from_is_err_and}
use Rattle.shelf_io.proofs.BegunLemmas.{among_then}
use Rattle.shelf_io.proofs.FilesLemmas.{failed_piece, stored_piece}
use Rattle.shelf_io.proofs.transfer.store.Goals as goal

pub returns-in_err-append-clause-failed : goal.returns-in_err-append-clause-failed
returns-in_err-append-clause-failed g c =
    let state = g.S.Shelf.state in
    let p = err_from_is_err_and c.from_residual-in_err-append.result c.from_residual-in_err-append.ensures.1 in
    rw p.1 (failed_piece (state c.args.shelf.now).files (state c.loop-at.shelf).files (state c.append.new.self).files c.args.name.now c.args.bytes.now c.loop-at.at (c.loop-at.at + c.min.result) (omega arith) c.loop-at.invariant.stored c.in_err-append.ensures.failed)

pub returns-in_err-append-clause-begun : goal.returns-in_err-append-clause-begun
returns-in_err-append-clause-begun g c = among_then _ _ _ _ c.loop-at.invariant.begun c.in_err-append.ensures.begun

pub loop-at-preserved : goal.loop-at-preserved
loop-at-preserved g c =
    let state = g.S.Shelf.state in
    let fits : c.loop-at.at + c.min.result ≤ length c.args.bytes.now = omega arith in
    record {
      within = fits;
      stored = stored_piece (state c.args.shelf.now).files (state c.loop-at.shelf).files (state c.append.new.self).files c.args.name.now c.args.bytes.now c.loop-at.at (c.loop-at.at + c.min.result) (omega arith) fits c.loop-at.invariant.stored c.in_ok-append.ensures.added;
      begun = among_then _ _ _ _ c.loop-at.invariant.begun c.in_ok-append.ensures.begun;
      counts = search rules;
      quiet = search rules;
    }
