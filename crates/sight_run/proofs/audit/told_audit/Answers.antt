use Rattle.std.proofs.Common.{refl, string_bytes}
use Rattle.sight_names.specs.Map.{map_of}
use Rattle.sight_run.proofs.Reporting.{flaw_told, tells_sound}
use Rattle.sight_run.proofs.audit.told_audit.Goals as goal

pub returns-in-Ok-clause-tells : goal.returns-in-Ok-clause-tells
returns-in-Ok-clause-tells c = tells_sound (map_of c.args.plan.now) (string_bytes c.in-Ok.line) (string_bytes c.in-Ok.line) refl c.in-Ok.ensures.judged

pub returns-in-Err-BadMap-clause-tells : goal.returns-in-Err-BadMap-clause-tells
returns-in-Err-BadMap-clause-tells c =
    let x = c.in-Err-BadMap in
    flaw_told (map_of c.args.plan.now) x.flaw (rw (x.is, x.field-0-is) at c.judge_audit.ensures.judged) c.told_flaw.result c.told_flaw.ensures.line c.told_flaw.ensures.right
