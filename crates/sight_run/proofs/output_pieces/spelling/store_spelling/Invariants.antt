use Rattle.std.proofs.Common.{◌≡◌, [], ◌∷◌, length}
use Rattle.certificates.specs.Grammar.{spelling}
use Rattle.shelf_io.specs.Shelf.{BeginsAmong, NoneFell, SameCounts}
use Rattle.sight_run.specs.OutputPieces.UnderWay.{IsStoring}
use Rattle.sight_run.proofs.output_pieces.spelling.store_spelling.Given as goal

-- a front of the spelling stands, and the printer has the rest of it
abbrev pub invariant-loop-printer : goal.invariant-loop-printer
invariant-loop-printer g l =
    let state = g.S.Shelf.state in
    record {
      way : IsStoring (state l.fn.shelf).files (state l.shelf).files l.name (spelling l.cert) l.printer;
      room : length l.piece ≡ 65536;
      begun : BeginsAmong (state l.fn.shelf).begun (state l.shelf).begun (l.name ∷ []);
      counts : NoneFell (state l.fn.shelf) (state l.shelf);
      quiet : SameCounts (state l.fn.shelf) (state l.shelf);
    }

abbrev pub decreases-loop-printer : goal.decreases-loop-printer
decreases-loop-printer g l = length l.printer
