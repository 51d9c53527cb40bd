use Rattle.std.proofs.Common.{length}
use Rattle.piece_tests.proofs.wads.+changes_of.Given as goal

-- the rest of the maps is shorter
abbrev pub decreases-changes_of : goal.decreases-changes_of
decreases-changes_of l = length l.maps.now
