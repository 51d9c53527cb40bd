use Rattle.std.proofs.Common.{◌≡◌, ◌++◌, take}
use Rattle.block_evidence.proofs.up_to_six.UpToSix.extend.Given as goal

abbrev pub invariant-loop-end : goal.invariant-loop-end
invariant-loop-end l = l.self ≡ l.initial.self ++ take l.end-index l.ends
