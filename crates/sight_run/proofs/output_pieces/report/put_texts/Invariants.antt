use Rattle.std.proofs.Common.{ℕ, List, [], ◌∷◌, ◌++◌, Option, drop, map}
use Rattle.listeners.specs.Told.{texts}
use Rattle.shelf_io.specs.Shelf.{BeginsAmong, Files, NoneFell, SameCounts}
use Rattle.sight_run.specs.OutputPieces.UnderWay.{IsStoring}
use Rattle.sight_run.proofs.output_pieces.report.put_texts.Given as goal

-- the texts of those behind are still to come
abbrev pub invariant-loop-listener : goal.invariant-loop-listener
invariant-loop-listener g l =
    let state = g.S.Shelf.state in
    record {
      way : (before : Option Files) (all rest : List ℕ) → IsStoring before (state l.fn.shelf).files l.name all (texts (map (λ b. (goal.Listener-dyn g (b.vtable, b.value)).listener_state b.value) l.list) ++ rest) → IsStoring before (state l.shelf).files l.name all (texts (map (λ b. (goal.Listener-dyn g (b.vtable, b.value)).listener_state b.value) (drop l.listener-index l.list)) ++ rest);
      begun : BeginsAmong (state l.fn.shelf).begun (state l.shelf).begun (l.name ∷ []);
      counts : NoneFell (state l.fn.shelf) (state l.shelf);
      quiet : SameCounts (state l.fn.shelf) (state l.shelf);
    }
