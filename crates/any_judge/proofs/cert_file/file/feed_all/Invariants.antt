use Rattle.std.proofs.Common.{◌≡◌, ◌-◌, ◌≤◌, [], length}
use Rattle.sight_names.specs.Plan.{PlanParts}
use Rattle.shelf_io.specs.Shelf.{NoneFell, SameCounts}
use Rattle.reject_bits.specs.Parts.{TableParts}
use Rattle.any_judge.specs.Judge.{HasBeenFed}
use Rattle.any_judge.proofs.CertFile.OnWay.{IsUnderWay}
use Rattle.any_judge.proofs.cert_file.file.feed_all.Given as goal

-- the judge was fed what was read, and no count rose
abbrev pub invariant-loop-taken : goal.invariant-loop-taken
invariant-loop-taken g l =
    let state = g.S.Shelf.state in
    record {
      way : (p : PlanParts) (t : TableParts) → HasBeenFed p t [] l.fn.judge → IsUnderWay p t (state l.fn.shelf).files l.name l.at l.judge;
      within : l.at ≤ 9223372036854775807;
      room : length l.piece ≡ 65536;
      files : (state l.shelf).files ≡ (state l.fn.shelf).files;
      begun : (state l.shelf).begun ≡ (state l.fn.shelf).begun;
      counts : NoneFell (state l.fn.shelf) (state l.shelf);
      quiet : SameCounts (state l.fn.shelf) (state l.shelf);
    }

abbrev pub decreases-loop-taken : goal.decreases-loop-taken
decreases-loop-taken g l = 9223372036854775807 - l.at
