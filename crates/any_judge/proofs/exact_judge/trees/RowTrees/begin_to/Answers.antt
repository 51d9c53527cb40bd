use Rattle.std.proofs.Common.{◌≡◌, ℕ, ◌-◌, sym, ◌∙◌, subst, arith}
use Rattle.any_judge.specs.ExactJudge.Trees.{Begun, many_begun, HasHeardRowTrees}
use Rattle.any_judge.proofs.ExactJudge.Begun.{one_on}
use Rattle.any_judge.proofs.ExactJudge.Walked.{wrong_all, all_begin}
use Rattle.any_judge.proofs.exact_judge.trees.RowTrees.begin_to.Goals as goal

pub returns-then-is_some-clause-heard : goal.returns-then-is_some-clause-heard
returns-then-is_some-clause-heard c = λ b w. wrong_all c.args.count b c.args.self.now (sym c.is_some.ensures ∙ c.if-is_some.true) w

pub loop-preserved : goal.loop-preserved
loop-preserved c =
    let i = c.loop.invariant in
    let from = c.args.self.now.begun in
    record {
      from = omega (arith, i.from);
      to = omega (arith, i.from, i.to, c.loop-test.true);
      ground = c.begin.ensures.ground ∙ i.ground;
      heard = λ b w. subst (λ (x : Begun). HasHeardRowTrees x c.begin.new.self) (sym (one_on c.loop.counter from b i.from)) (c.in_ok-begin.ensures.heard (many_begun (c.loop.counter - from) b) (i.heard b w));
    }

pub returns-clause-heard : goal.returns-clause-heard
returns-clause-heard c = λ b w.
    let i = c.loop.invariant in
    let from = c.args.self.now.begun in
    let same : c.loop.counter - from ≡ c.args.count - from = omega (arith, i.to, c.loop-test.false) in
    all_begin c.args.count b c.args.self.now c.loop.self (sym c.is_some.ensures ∙ c.if-is_some.false) w i.ground (subst (λ (n : ℕ). HasHeardRowTrees (many_begun n b) c.loop.self) same (i.heard b w))
