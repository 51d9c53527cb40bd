use Rattle.cert_format.specs.Sizes.{sizes_of_plan}
use Rattle.certificates.specs.Reading.{certificate_at}
use Rattle.any_judge.proofs.CertFile.Promises.{promised}
use Rattle.any_judge.proofs.cert_file.file.judgement_of.Goals as goal

pub returns : goal.returns
returns c = λ t bytes fed.
    let p = c.args.plan.now in
    let says = c.end.ensures in
    promised p t (certificate_at (sizes_of_plan p) bytes) c.end.result (says.exact p t bytes fed) (says.accepted p t bytes fed) (says.sight p t bytes fed c.requires.audited)
