use Rattle.std.proofs.Common.{◌≡◌, [], drop, map}
use Rattle.shelf_io.specs.Shelf.{BeginsAmong, NoneFell, SameCounts}
use Rattle.sight_run.specs.Reply.{roles_of, written}
use Rattle.sight_run.proofs.Settles.{LeftToSettle}
use Rattle.sight_run.proofs.Stores.{HasEachRole}
use Rattle.sight_run.proofs.reply.settle_all.Given as goal

-- the files are as before, and no count rose
abbrev pub invariant-loop-output : goal.invariant-loop-output
invariant-loop-output g l =
    let state = g.S.Shelf.state in
    record {
      files : (state l.shelf).files ≡ (state l.fn.shelf).files;
      roles : HasEachRole (roles_of (map written l.outputs)) (roles_of (map written (drop l.output-index l.outputs)));
      begun : BeginsAmong (state l.fn.shelf).begun (state l.shelf).begun ([]);
      settled : LeftToSettle (state l.shelf).begun l.outputs (drop l.output-index l.outputs);
      counts : NoneFell (state l.fn.shelf) (state l.shelf);
      quiet : SameCounts (state l.fn.shelf) (state l.shelf);
    }
