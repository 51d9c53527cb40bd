use Rattle.cert_judge.proofs.Endings.{with_cert}
use Rattle.cert_judge.proofs.intake.verdict_of.Goals as goal

pub returns : goal.returns
returns c = λ p t d w. with_cert p t d c.verdict.result w.cert (c.verdict.ensures p t d w)
