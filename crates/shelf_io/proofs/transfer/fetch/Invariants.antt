use Rattle.std.proofs.Common.{◌≡◌, ◌-◌, ◌≤◌, length, vec_len, Some}
use Rattle.shelf_io.specs.Shelf.{Files, NoneFell, SameCounts}
use Rattle.shelf_io.proofs.FetchLemmas.{ReadSoFar}
use Rattle.shelf_io.proofs.transfer.fetch.Given as goal

abbrev pub invariant-loop-taken : goal.invariant-loop-taken
invariant-loop-taken g l =
    let state = g.S.Shelf.state in
    record {
      told : (files : Files) → (state l.fn.shelf).files ≡ Some files → ReadSoFar (files l.name) l.bytes.items;
      within : vec_len l.bytes ≤ l.limit;
      room : length l.buf ≡ 65536;
      files : (state l.shelf).files ≡ (state l.fn.shelf).files;
      begun : (state l.shelf).begun ≡ (state l.fn.shelf).begun;
      counts : NoneFell (state l.fn.shelf) (state l.shelf);
      quiet : SameCounts (state l.fn.shelf) (state l.shelf);
    }

abbrev pub decreases-loop-taken : goal.decreases-loop-taken
decreases-loop-taken g l = l.limit - vec_len l.bytes
