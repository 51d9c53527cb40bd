use Rattle.draw_answers.proofs.Telling.{faults_marked}
use Rattle.draw_answers.proofs.laws.faults_are_marked.Goals as goal

pub returns : goal.returns
returns c = faults_marked
