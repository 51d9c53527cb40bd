use Rattle.map_picture.proofs.Marking.{faults_shown}
use Rattle.map_picture.proofs.laws.faults_are_shown.Goals as goal

pub returns : goal.returns
returns c = faults_shown
