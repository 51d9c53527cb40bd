use Rattle.std.proofs.Common.{ap}
use Rattle.sight_run.specs.Check.{of_cert_fetch}
use Rattle.sight_run.proofs.Judging.{judgement_by_map}
use Rattle.sight_run.proofs.judgement.judged_in.Goals as goal

pub returns-in-Ok-clause-told : goal.returns-in-Ok-clause-told
returns-in-Ok-clause-told g c = λ files e. let j = c.in-Ok.ensures.told files e in
    record {
      bytes = j.bytes;
      whole = ap of_cert_fetch j.whole;
      judged = judgement_by_map c.args.plan.now c.args.table.now j.bytes c.in-Ok.judged c.points-points.ensures.plan c.has_sizes_of_map.ensures j.judged;
    }
