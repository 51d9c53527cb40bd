use Rattle.std.proofs.Common.{◌≡◌, length, refl, ◌∙◌}
use Rattle.cert_checker.proofs.TreeJudge.Noting.{stored}
use Rattle.cert_checker.proofs.TreeJudge.TreesSoFar.{counted_ended, stays_ended, end_whole, end_wrong}
use Rattle.cert_checker.proofs.tree_judge.hearing.TreeJudge.end.Goals as goal

pub returns-then-not-self : goal.returns-then-not-self
returns-then-not-self c = λ m ts xs front tree h. record {
  roots = h.roots;
  steps = h.steps;
  judged = λ all. stays_ended m ts xs front tree c.args.self.now c.args.self.now.wrong c.if-not-self.true (h.judged (counted_ended m.sectors front tree all));
}

pub returns-then-is_done : goal.returns-then-is_done
returns-then-is_done c = λ m ts xs front tree h.
    let j = c.args.self.now in
    end_whole m ts xs front tree j _ c.source-source.result c.as_mut_slice.result.now c.mark.new.flags h c.if-not-self.false
    (λ t old w. c.is_done.ensures.whole xs j.roots.roots.items j.roots.first.items t old j.reached w c.if-is_done.true)
    c.source-source.ensures c.as_mut_slice.ensures.value c.mark.ensures refl refl
    (stored c.mark.new.flags _ j.walked.len (let d : length c.mark.new.flags ≡ length c.as_mut_slice.result.now = c.mark.auto.flags in d ∙ c.as_mut_slice.ensures.len)) refl refl refl

pub returns-else-is_done : goal.returns-else-is_done
returns-else-is_done c = λ m ts xs front tree h.
    let j = c.args.self.now in
    end_wrong m ts xs front tree j _ c.source-source.result j.number h c.if-not-self.false
    (λ t old w. c.is_done.ensures.missing xs j.roots.roots.items j.roots.first.items t old j.reached w c.if-is_done.false)
    c.source-source.ensures refl refl refl refl refl
