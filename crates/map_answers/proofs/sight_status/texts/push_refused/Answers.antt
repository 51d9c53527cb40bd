use Rattle.map_answers.proofs.SightStatus.Lines.{pushed}
use Rattle.map_answers.proofs.sight_status.texts.push_refused.Goals as goal

pub returns : goal.returns
returns c = pushed c.push_reason.result _ _ _ _ _ c.in_ok-push_text.ensures c.push_reason.ensures
