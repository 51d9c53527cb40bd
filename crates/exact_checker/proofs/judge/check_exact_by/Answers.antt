use Rattle.std.proofs.Common.{◌↔◌}
use Rattle.std.proofs.lemmas.Result.{IfOk-weaker}
use Rattle.sight_names.specs.Map.{map_of}
use Rattle.gate_floods.specs.Exact.{IsAcceptedThree, TellsAll}
use Rattle.group_checker.specs.Judged.{IsYesAny}
use Rattle.exact_checker.specs.Judged.{JudgesThree}
use Rattle.exact_checker.proofs.Accepting.{yes_exactly_three, yes_tells}
use Rattle.exact_checker.proofs.judge.check_exact_by.Goals as goal

pub returns-clause-accepted : goal.returns-clause-accepted
returns-clause-accepted g c = IfOk-weaker c.judge_three.result (JudgesThree c.args.plan.now c.args.table.now c.args.exact.now) (λ v. IsYesAny v ↔ IsAcceptedThree (map_of c.args.plan.now) c.args.table.now.bytes c.args.exact.now)
    (λ v h. yes_exactly_three c.args.plan.now c.lines.ensures.plan c.args.table.now c.args.exact.now c.requires.table c.requires.cert v h) c.judge_three.ensures

pub returns-clause-sight : goal.returns-clause-sight
returns-clause-sight g c = IfOk-weaker c.judge_three.result (JudgesThree c.args.plan.now c.args.table.now c.args.exact.now) (λ v. IsYesAny v → TellsAll (map_of c.args.plan.now) c.args.table.now)
    (λ v h y. yes_tells c.args.plan.now c.lines.ensures.plan c.args.table.now c.args.exact.now c.requires.table c.requires.cert c.requires.audited v h y) c.judge_three.ensures
