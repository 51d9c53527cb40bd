use Rattle.std.proofs.Common.{◌≡◌, take}
use Rattle.whole_wad.specs.Outcomes.{changes_of}
use Rattle.whole_wad.proofs.whole.changes_in.Given as goal

abbrev pub invariant-loop-outcome : goal.invariant-loop-outcome
invariant-loop-outcome l = l.changes.items ≡ changes_of (take l.outcome-index l.outcomes)
