use Rattle.std.proofs.Common.{refl, inr, arith}
use Rattle.std.proofs.lemmas.Bool.{OnTrue_at}
use Rattle.triangulate.proofs.GreedySegments.Listed.{far_up, far_down}
use Rattle.triangulate.proofs.greedy_segments.rounds.add_near.Goals as goal

pub returns-then-is_above : goal.returns-then-is_above
returns-then-is_above c =
    let long = far_up c.args.start c.args.end c.args.high (OnTrue_at c.if-is_above.true c.is_above.ensures) in
    inr ((λ b. let s = b.1 in omega arith), refl)

pub returns-then-is_above-2 : goal.returns-then-is_above-2
returns-then-is_above-2 c =
    let long = far_down c.args.start c.args.end c.args.high (OnTrue_at c.if-is_above-2.true c.is_above-2.ensures) in
    inr ((λ b. let s = b.1 in omega arith), refl)
