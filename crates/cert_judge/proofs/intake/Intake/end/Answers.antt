use Rattle.std.proofs.Common.{[]}
use Rattle.std.proofs.lemmas.Option.{MatchOption-at_none, MatchOption-at_some}
use Rattle.cert_format.specs.Sizes.{sizes_of_plan}
use Rattle.cert_format.specs.CertGroups.Reading.{any_at}
use Rattle.certificates.specs.CertParts.Parts.{any_parts_of}
use Rattle.cert_judge.specs.Intake.{IsGoingOn, AreRefusedListing}
use Rattle.cert_judge.specs.Judged.{IsVerdictOfListing}
use Rattle.cert_judge.proofs.Intakes.{refused_whole, same_fits, read_at_end}
use Rattle.cert_judge.proofs.Endings.{unread_told, verdict_told}
use Rattle.cert_judge.proofs.intake.Intake.end.Goals as goal

pub returns-in-Some : goal.returns-in-Some
returns-in-Some c = λ p t bytes w.
    let f = c.in-Some.fault in
    unread_told any_parts_of (any_at (sizes_of_plan p) bytes) f (IsVerdictOfListing p t) (refused_whole p bytes f (MatchOption-at_some (IsGoingOn p t bytes [] c.args.self) (AreRefusedListing p bytes) f c.in-Some.is w))

pub verdict_of-requires : goal.verdict_of-requires
verdict_of-requires c =
    let r = c.requires in
    let on = MatchOption-at_none (IsGoingOn r.plan r.table r.bytes [] c.args.self) (AreRefusedListing r.plan r.bytes) c.in_default.is r.taken in
    let read = read_at_end r.plan r.table r.bytes c.args.self on r.fits c.in-Ok.ensures.whole in
    record { plan = r.plan; table = r.table; cert = read.0; heard = read.2 }

pub returns-in_ok-verdict_of-in-Ok : goal.returns-in_ok-verdict_of-in-Ok
returns-in_ok-verdict_of-in-Ok c = λ p t bytes w.
    let r = c.requires in
    let on = MatchOption-at_none (IsGoingOn p t bytes [] c.args.self) (AreRefusedListing p bytes) c.in_default.is w in
    let known = MatchOption-at_none (IsGoingOn r.plan r.table r.bytes [] c.args.self) (AreRefusedListing r.plan r.bytes) c.in_default.is r.taken in
    let fits = same_fits p r.plan t r.table bytes r.bytes c.args.self on known r.fits in
    let read = read_at_end p t bytes c.args.self on fits c.in-Ok.ensures.whole in
    verdict_told (any_at (sizes_of_plan p) bytes) read.0 c.in_ok-verdict_of-in-Ok.field-0 (IsVerdictOfListing p t) read.1 (c.in_ok-verdict_of-in-Ok.ensures p t read.0 read.2)
