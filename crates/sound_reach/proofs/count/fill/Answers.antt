use Rattle.std.proofs.Common.{◌≡◌, ◌+◌, ◌-◌, ◌<◌, true, cond, sym, ◌∙◌, refl, arith}
use Rattle.sound_reach.specs.Counts.{is_heard_near}
use Rattle.sound_reach.proofs.Heards.{filling_far, filling_near, none_more, one_more}
use Rattle.sound_reach.proofs.count.fill.Goals as goal
use Rattle.sound_reach.proofs.count.fill.Goals.{then-is_near_at, else-is_near_at, then-is_near_at-2, else-is_near_at-2}

pub loop-done-preserved : goal.loop-done-preserved
loop-done-preserved c =
    let lt : c.loop-done.done < c.args.sectors = omega arith in
    let e : c.if-is_near_at.count ≡ cond (is_heard_near c.args.distances.now true (c.args.sectors - 1 - c.loop-done.done)) 1 0 + c.loop-done.count = elim c.if-is_near_at.branch [
      | then-is_near_at w ↦ one_more _ _ _ (sym c.is_near_at.ensures ∙ w.if-is_near_at.true) w.count-is
      | else-is_near_at w ↦ none_more _ _ _ (sym c.is_near_at.ensures ∙ w.if-is_near_at.false) w.count-is
    ] in
    elim c.if-is_near_at-2.branch [
      | then-is_near_at-2 w ↦ rw w.rows-is (filling_near c.args.sectors c.loop-done.done c.loop-done.count c.if-is_near_at.count (c.args.sectors - 1 - c.loop-done.done) c.args.distances.now c.args.rows.now c.loop-done.rows c.requires.rows lt refl e (sym c.is_near_at-in-loop-done.ensures ∙ w.if-is_near_at-2.true) c.loop-done.invariant)
      | else-is_near_at-2 w ↦ rw w.rows-is (filling_far c.args.sectors c.loop-done.done c.loop-done.count c.if-is_near_at.count (c.args.sectors - 1 - c.loop-done.done) c.args.distances.now c.args.rows.now c.loop-done.rows lt refl e (sym c.is_near_at-in-loop-done.ensures ∙ w.if-is_near_at-2.false) c.loop-done.invariant)
    ]
