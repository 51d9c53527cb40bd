use Rattle.std.proofs.Common.{◌≡◌, ℕ, ◌+◌, ◌-◌, ◌<◌, List, ◌++◌, take, drop, length, arith}
use Rattle.std.proofs.lemmas.List.{length-append, length-drop, length-take-le}
use Rattle.piece_tests.proofs.verdicts.judged_singly.Goals as goal

-- with the byte at this place there is one more
one_more : (fed all : List ℕ) (k : ℕ) → length fed ≡ k → k < length all → length (fed ++ take (k + 1 - k) (drop k all)) ≡ k + 1
one_more fed all k count within =
    let rest = length-drop k all in
    let one = length-take-le (k + 1 - k) (drop k all) (omega (arith, rest, within)) in
    omega (arith, count, one, length-append fed (take (k + 1 - k) (drop k all)))

pub loop-k-preserved : goal.loop-k-preserved
loop-k-preserved c = record {
  bytes = _;
  fed = c.feed.ensures.fed c.args.plan.now c.args.table.now c.loop-k.invariant.bytes c.loop-k.invariant.fed;
  count = one_more c.loop-k.invariant.bytes c.args.bytes.now c.loop-k.k c.loop-k.invariant.count c.loop-k-test.true;
}
