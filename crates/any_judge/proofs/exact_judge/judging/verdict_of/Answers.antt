use Rattle.std.proofs.Common.{ap, ◌∙◌}
use Rattle.any_judge.specs.declared.exact_judge.ground.Ground.{Ground}
use Rattle.any_judge.proofs.ExactJudge.Told.{all_told, wrong_told, pairs_told}
use Rattle.any_judge.proofs.exact_judge.judging.verdict_of.Goals as goal

pub returns-in-Some : goal.returns-in-Some
returns-in-Some c = λ p over cert b is groups right w all.
    let g = c.args.trees.ground in
    let told = all_told p over c.args.table.now cert is g right b c.finish.new.self all c.finish.ensures.ground (c.in_ok-finish.ensures.heard b w) in
    wrong_told p over c.args.table.now cert is g right c.finish.new.self.wrong c.in-Some.wrong c.in-Some.is told

pub returns : goal.returns
returns c = λ p over cert b is groups right w all.
    let g = c.args.trees.ground in
    let told = all_told p over c.args.table.now cert is g right b c.finish.new.self all c.finish.ensures.ground (c.in_ok-finish.ensures.heard b w) in
    pairs_told p over c.args.table.now cert is g right c.finish.new.self.wrong c.judge_sectors.result c.joined.result.now c.in-None.is told (c.joined.ensures ∙ ap (λ (h : Ground). h.joined.items) c.finish.ensures.ground) c.judge_sectors.ensures.kind (c.judge_sectors.ensures.pairs cert groups)
