use Rattle.listeners.proofs.PairFindings.Counted.{findings_are_counted}
use Rattle.listeners.proofs.pair_findings.findings_are_counted.Goals as goal

pub returns : goal.returns
returns c = findings_are_counted
