use Rattle.std.proofs.Common.{subst}
use Rattle.sight_names.specs.Map.{map_of}
use Rattle.map_answers.specs.declared.sight_status.status.Status.{Status}
use Rattle.map_answers.specs.Sound.{IsAuditRefusal}
use Rattle.draw_answers.proofs.Flawed.{gives_flaw}
use Rattle.draw_answers.proofs.faults.drawn_refused.Goals as goal

pub returns-in-BadMap-clause-judged : goal.returns-in-BadMap-clause-judged
returns-in-BadMap-clause-judged c = λ out.
    let m = map_of c.args.plan.now in
    gives_flaw m c.args.map.now out c.in-BadMap.which (subst (λ (s : Status). IsAuditRefusal m s) c.in-BadMap.is c.requires)
    c.drawn_fault.result c.made.result c.drawn_fault.ensures c.made.ensures.made
