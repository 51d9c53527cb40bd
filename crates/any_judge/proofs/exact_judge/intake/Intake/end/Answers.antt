use Rattle.std.proofs.Common.{[]}
use Rattle.std.proofs.lemmas.Option.{MatchOption-at_none, MatchOption-at_some}
use Rattle.cert_format.specs.Sizes.{sizes_of_plan}
use Rattle.certificates.specs.CertExact.Reading.{exact_at}
use Rattle.cert_judge.proofs.Endings.{unread_told, verdict_told}
use Rattle.certificates.specs.ExactParts.Parts.{three_parts_of}
use Rattle.certificates.specs.ExactParts.Left.{parts_left}
use Rattle.any_judge.specs.ExactJudge.Intake.{IsGoingOn, AreRefusedExact}
use Rattle.any_judge.specs.ExactJudge.Judged.{IsVerdictOfExact}
use Rattle.any_judge.proofs.ExactJudge.Intakes.{refused_whole, same_fits, fault_at_end, read_at_end}
use Rattle.any_judge.proofs.exact_judge.intake.Intake.end.Goals as goal

pub returns-in-Some : goal.returns-in-Some
returns-in-Some c = λ p t bytes w.
    let f = c.in-Some.fault in
    unread_told three_parts_of (exact_at (sizes_of_plan p) bytes) f (IsVerdictOfExact p t) (refused_whole p bytes f (MatchOption-at_some (IsGoingOn p t bytes [] c.args.self) (AreRefusedExact p bytes) f c.in-Some.is w))

pub returns-in_ok-told-in-Err : goal.returns-in_ok-told-in-Err
returns-in_ok-told-in-Err c = λ p t bytes w.
    let on = MatchOption-at_none (IsGoingOn p t bytes [] c.args.self) (AreRefusedExact p bytes) c.in_default.is w in
    let f = c.in_ok-told-in-Err.told in
    unread_told three_parts_of (exact_at (sizes_of_plan p) bytes) f (IsVerdictOfExact p t) (fault_at_end p t bytes c.args.self on f (c.in_ok-told-in-Err.ensures (parts_left c.args.self.reader []) c.in-Err.ensures.fault))

pub verdict-requires : goal.verdict-requires
verdict-requires c =
    let r = c.requires in
    let on = MatchOption-at_none (IsGoingOn r.plan r.table r.bytes [] c.args.self) (AreRefusedExact r.plan r.bytes) c.in_default.is r.taken in
    let read = read_at_end r.plan r.table r.bytes c.args.self on r.fits c.in-Ok.ensures.whole in
    record { plan = r.plan; table = r.table; cert = read.0; heard = read.2 }

pub returns-in_ok-verdict-in-Ok : goal.returns-in_ok-verdict-in-Ok
returns-in_ok-verdict-in-Ok c = λ p t bytes w.
    let r = c.requires in
    let on = MatchOption-at_none (IsGoingOn p t bytes [] c.args.self) (AreRefusedExact p bytes) c.in_default.is w in
    let known = MatchOption-at_none (IsGoingOn r.plan r.table r.bytes [] c.args.self) (AreRefusedExact r.plan r.bytes) c.in_default.is r.taken in
    let fits = same_fits p r.plan t r.table bytes r.bytes c.args.self on known r.fits in
    let read = read_at_end p t bytes c.args.self on fits c.in-Ok.ensures.whole in
    verdict_told (exact_at (sizes_of_plan p) bytes) read.0 c.in_ok-verdict-in-Ok.verdict (IsVerdictOfExact p t) read.1 (record { cert = read.2.cert; judges = c.in_ok-verdict-in-Ok.ensures p t read.0 read.2 })
