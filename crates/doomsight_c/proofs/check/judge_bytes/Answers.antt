use Rattle.std.proofs.Common.{[]}
use Rattle.cert_format.specs.Sizes.{sizes_of_plan}
use Rattle.certificates.specs.Reading.{certificate_at}
use Rattle.any_judge.proofs.CertFile.Promises.{promised}
use Rattle.doomsight_c.proofs.check.judge_bytes.Goals as goal

pub returns : goal.returns
returns c =
    let p = c.args.plan.now in
    let t = c.args.table.now in
    let bytes = c.args.cert.now in
    let fed = c.in_ok-feed.ensures.fed p t [] c.new-judge.ensures.fed in
    let says = c.end.ensures in
    promised p t (certificate_at (sizes_of_plan p) bytes) c.end.result (says.exact p t bytes fed) (says.accepted p t bytes fed) (says.sight p t bytes fed c.requires.audited)
