use Rattle.std.proofs.Common.{◌≡◌, length}
use Rattle.portal_walk.proofs.Aheads.{AreAheadBelow}
use Rattle.portal_walk.proofs.ahead.all_ahead.Given as goal

abbrev pub invariant-loop-number : goal.invariant-loop-number
invariant-loop-number l = record {
  len : length l.all.items ≡ l.number;
  ahead : AreAheadBelow l.edges l.way l.number l.all.items;
}
