use Rattle.std.proofs.Common.{rules, arith, take}
use Rattle.std.proofs.lemmas.Result.{err_from_is_err_and}
use Rattle.shelf_io.proofs.BegunLemmas.{among_then}
use Rattle.sight_run.proofs.OutputPieces.OnWay.{left_is, next_bytes, nothing_left, piece_failed, piece_put, words_fit}
use Rattle.sight_run.proofs.output_pieces.report.put_text.Goals as goal

pub loop-piece-preserved : goal.loop-piece-preserved
loop-piece-preserved g c =
    let state = g.S.Shelf.state in
    let n = c.words_of-count.result in
    let piece = c.words_of-count.new.buf in
    let words = c.words_of-count.ensures.words in
    record {
      way = λ before all rest h.
          piece_put before (state c.loop-piece.shelf).files (state c.append.new.self).files c.args.name.now all _ (take n piece) _ (c.loop-piece.invariant.way before all rest h)
          (next_bytes _ piece c.loop-piece.piece rest c.loop-piece.at n (words_fit _ _ piece c.loop-piece.at n words) words.bytes) c.in_ok-append.ensures.added;
      within = omega (arith, words.count, c.loop-piece.invariant.within);
      room = search rules;
      begun = among_then _ _ _ _ c.loop-piece.invariant.begun c.in_ok-append.ensures.begun;
      counts = search rules;
      quiet = search rules;
    }

pub returns-in_err-append-clause-failed : goal.returns-in_err-append-clause-failed
returns-in_err-append-clause-failed g c =
    let state = g.S.Shelf.state in
    let n = c.words_of-count.result in
    let piece = c.words_of-count.new.buf in
    let words = c.words_of-count.ensures.words in
    let p = err_from_is_err_and c.from_residual.result c.from_residual.ensures.1 in
    λ before all rest h. rw p.1
    (piece_failed before (state c.loop-piece.shelf).files (state c.append.new.self).files c.args.name.now all _ (take n piece) _ (c.loop-piece.invariant.way before all rest h)
    (next_bytes _ piece c.loop-piece.piece rest c.loop-piece.at n (words_fit _ _ piece c.loop-piece.at n words) words.bytes) c.in_err-append.ensures.failed)

pub returns-then-count-eq0-clause-put : goal.returns-then-count-eq0-clause-put
returns-then-count-eq0-clause-put g c =
    let words = c.words_of-count.ensures.words in
    λ before all rest h. left_is before _ _ all _ rest (nothing_left _ rest c.loop-piece.at (omega (arith, words.count, c.if-count-eq0.true, c.loop-piece.invariant.room))) (c.loop-piece.invariant.way before all rest h)

pub returns-in_err-append-clause-begun : goal.returns-in_err-append-clause-begun
returns-in_err-append-clause-begun g c = among_then _ _ _ _ c.loop-piece.invariant.begun c.in_err-append.ensures.begun
