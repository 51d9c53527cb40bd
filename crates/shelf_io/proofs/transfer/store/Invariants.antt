use Rattle.std.proofs.Common.{◌≡◌, ◌-◌, ◌≤◌, ◌∷◌, [], length, take}
use Rattle.std.specs.Option.{option_map}
use Rattle.shelf_io.specs.Shelf.{BeginsAmong, NoneFell, SameCounts, put}
use Rattle.shelf_io.proofs.transfer.store.Given as goal

-- a front of the bytes stands there, and no count rose
abbrev pub invariant-loop-at : goal.invariant-loop-at
invariant-loop-at g l =
    let state = g.S.Shelf.state in
    record {
      within : l.at ≤ length l.bytes;
      stored : (state l.shelf).files ≡ option_map (λ files. put files l.name (take l.at l.bytes)) (state l.fn.shelf).files;
      begun : BeginsAmong (state l.fn.shelf).begun (state l.shelf).begun (l.name ∷ []);
      counts : NoneFell (state l.fn.shelf) (state l.shelf);
      quiet : SameCounts (state l.fn.shelf) (state l.shelf);
    }

abbrev pub decreases-loop-at : goal.decreases-loop-at
decreases-loop-at g l = length l.bytes - l.at
