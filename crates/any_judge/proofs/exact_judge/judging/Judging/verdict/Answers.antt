use Rattle.std.proofs.Common.{inl, inr, sym, subst}
use Rattle.exact_checker.specs.Judged.{JudgesThree}
use Rattle.any_judge.proofs.ExactJudge.Keeping.{broken_rule, few_groups_in, not_gathering, not_lost, walking_told}
use Rattle.any_judge.proofs.exact_judge.judging.Judging.verdict.Goals as goal

pub verdict_of-requires : goal.verdict_of-requires
verdict_of-requires c = let r = c.requires in few_groups_in r.plan r.table r.cert c.args.self c.close.new.self r.heard c.in_ok-close.ensures c.as_slice.result.now c.as_slice.ensures

pub returns-in-Walking : goal.returns-in-Walking
returns-in-Walking c = λ p t cert w. subst (JudgesThree p t cert) (sym c.any_of.ensures)
    (walking_told p t cert c.args.self c.close.new.self w c.in_ok-close.ensures c.in-Walking.trees c.as_slice.result.now c.in_ok-verdict-in-Walking.verdict c.in-Walking.is c.as_slice.ensures (λ over b. c.in_ok-verdict-in-Walking.ensures p over cert b))

pub returns-in-Broken : goal.returns-in-Broken
returns-in-Broken c = λ p t cert w. broken_rule p t cert c.args.self c.close.new.self w c.in_ok-close.ensures c.in-Broken.fault c.in-Broken.is

pub unreachable-requires : goal.unreachable-requires
unreachable-requires c =
    let r = c.requires in
    elim c.in-Gathering.is as (λ _. ⊥) [
      | inl gathering ↦ not_gathering r.plan r.table r.cert c.args.self c.close.new.self r.heard c.in_ok-close.ensures gathering
      | inr lost ↦ not_lost r.plan r.table r.cert c.args.self c.close.new.self r.heard c.in_ok-close.ensures lost
    ]
