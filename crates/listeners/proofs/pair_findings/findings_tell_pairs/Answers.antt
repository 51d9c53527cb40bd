use Rattle.listeners.proofs.PairFindings.Telling.{findings_tell_pairs}
use Rattle.listeners.proofs.pair_findings.findings_tell_pairs.Goals as goal

pub returns : goal.returns
returns c = findings_tell_pairs
