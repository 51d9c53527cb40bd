use Rattle.std.proofs.Common.{◌≡◌, ◌-◌, ◌≤◌, ℕ, List, [], ◌∷◌, ◌++◌, Option, drop, length}
use Rattle.listeners.specs.Listening.{listener_text}
use Rattle.shelf_io.specs.Shelf.{BeginsAmong, Files, NoneFell, SameCounts}
use Rattle.sight_run.specs.OutputPieces.UnderWay.{IsStoring}
use Rattle.sight_run.proofs.output_pieces.report.put_text.Given as goal

-- what the text has behind a place is still to come
abbrev pub invariant-loop-piece : goal.invariant-loop-piece
invariant-loop-piece g l =
    let state = g.S.Shelf.state in
    let text = listener_text ((goal.Listener-dyn g (l.listener.vtable, l.listener.value)).listener_state l.listener.value) in
    record {
      way : (before : Option Files) (all rest : List ℕ) → IsStoring before (state l.fn.shelf).files l.name all (text ++ rest) → IsStoring before (state l.shelf).files l.name all (drop l.at text ++ rest);
      within : l.at ≤ length text;
      room : length l.piece ≡ 65536;
      begun : BeginsAmong (state l.fn.shelf).begun (state l.shelf).begun (l.name ∷ []);
      counts : NoneFell (state l.fn.shelf) (state l.shelf);
      quiet : SameCounts (state l.fn.shelf) (state l.shelf);
    }

abbrev pub decreases-loop-piece : goal.decreases-loop-piece
decreases-loop-piece g l = length (listener_text ((goal.Listener-dyn g (l.listener.vtable, l.listener.value)).listener_state l.listener.value)) - l.at
