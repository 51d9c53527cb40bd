use Rattle.std.proofs.Common.{◌↔◌}
use Rattle.std.proofs.lemmas.Result.{IfOk-weaker}
use Rattle.sight_names.specs.Map.{map_of}
use Rattle.cert_checker.specs.AcceptedGroups.Accepted.{IsAcceptedTwo}
use Rattle.cert_checker.specs.Sight.{TellsSightOne}
use Rattle.group_checker.specs.Judged.{with_list, IsYesAny, JudgesTwo}
use Rattle.group_checker.proofs.AcceptingTwo.{yes_exactly_two}
use Rattle.group_checker.proofs.SeeingTwo.{accepted_two_tells}
use Rattle.group_checker.proofs.judge.check_two.Goals as goal

pub returns-clause-accepted : goal.returns-clause-accepted
returns-clause-accepted g c = IfOk-weaker c.judge_two.result (JudgesTwo c.args.plan.now c.args.table.now c.args.two.now) (λ v. IsYesAny v ↔ IsAcceptedTwo (map_of c.args.plan.now) c.args.table.now.bytes c.args.two.now)
    (λ v h. yes_exactly_two c.args.plan.now c.lines.ensures.plan c.args.table.now c.args.two.now c.requires.table c.requires.cert v h) c.judge_two.ensures

pub returns-clause-sight : goal.returns-clause-sight
returns-clause-sight g c = IfOk-weaker c.judge_two.result (JudgesTwo c.args.plan.now c.args.table.now c.args.two.now) (λ v. IsYesAny v → TellsSightOne (map_of c.args.plan.now) c.args.table.now (with_list c.args.two.now))
    (λ v h y. accepted_two_tells c.args.plan.now c.lines.ensures.plan c.requires.audited c.args.table.now c.args.two.now c.requires.table ((yes_exactly_two c.args.plan.now c.lines.ensures.plan c.args.table.now c.args.two.now c.requires.table c.requires.cert v h).0 y)) c.judge_two.ensures
