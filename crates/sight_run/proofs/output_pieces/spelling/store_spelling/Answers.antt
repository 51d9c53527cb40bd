use Rattle.std.proofs.Common.{rules, sym, subst, take, List, ℕ}
use Rattle.std.proofs.lemmas.Result.{err_from_is_err_and}
use Rattle.certificates.specs.Grammar.{spelling}
use Rattle.shelf_io.proofs.BegunLemmas.{among_then}
use Rattle.sight_run.specs.OutputPieces.UnderWay.{IsStoring}
use Rattle.sight_run.proofs.OutputPieces.OnWay.{all_put, begun, piece_failed, piece_put}
use Rattle.certificates.proofs.OneSpelling.{spelled_is}
use Rattle.sight_run.proofs.output_pieces.spelling.store_spelling.Goals as goal

pub loop-printer-init : goal.loop-printer-init
loop-printer-init g c =
    let state = g.S.Shelf.state in
    let before = (state c.args.shelf.now).files in
    let now = (state c.create.new.self).files in
    let all = spelling c.args.cert.now in
    record {
      way = subst (λ (t : List ℕ). IsStoring before now c.args.name.now all t) (sym (spelled_is c.args.cert.now _ c.printer-printer.ensures)) (begun before now c.args.name.now all c.in_ok-create.ensures.made);
      room = search rules;
      begun = c.in_ok-create.ensures.begun;
      counts = search rules;
      quiet = search rules;
    }

pub loop-printer-preserved : goal.loop-printer-preserved
loop-printer-preserved g c =
    let state = g.S.Shelf.state in
    record {
      way = piece_put (state c.args.shelf.now).files (state c.loop-printer.shelf).files (state c.append.new.self).files c.args.name.now (spelling c.args.cert.now) c.loop-printer.printer
          (take c.next-count.result c.next-count.new.buf) c.next-count.new.self c.loop-printer.invariant.way c.next-count.ensures.given c.in_ok-append.ensures.added;
      room = search rules;
      begun = among_then _ _ _ _ c.loop-printer.invariant.begun c.in_ok-append.ensures.begun;
      counts = search rules;
      quiet = search rules;
    }

pub returns-in_err-append-clause-failed : goal.returns-in_err-append-clause-failed
returns-in_err-append-clause-failed g c =
    let state = g.S.Shelf.state in
    let p = err_from_is_err_and c.from_residual-in_err-append.result c.from_residual-in_err-append.ensures.1 in
    rw p.1 (piece_failed (state c.args.shelf.now).files (state c.loop-printer.shelf).files (state c.append.new.self).files c.args.name.now (spelling c.args.cert.now) c.loop-printer.printer
    (take c.next-count.result c.next-count.new.buf) c.next-count.new.self c.loop-printer.invariant.way c.next-count.ensures.given c.in_err-append.ensures.failed)

pub returns-then-count-eq0-clause-stored : goal.returns-then-count-eq0-clause-stored
returns-then-count-eq0-clause-stored g c =
    let state = g.S.Shelf.state in
    all_put (state c.args.shelf.now).files (state c.loop-printer.shelf).files c.args.name.now (spelling c.args.cert.now) c.loop-printer.printer c.loop-printer.invariant.way (c.next-count.ensures.end.0 c.if-count-eq0.true)

pub returns-in_err-append-clause-begun : goal.returns-in_err-append-clause-begun
returns-in_err-append-clause-begun g c = among_then _ _ _ _ c.loop-printer.invariant.begun c.in_err-append.ensures.begun
