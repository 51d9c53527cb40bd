use Rattle.sight_workers.proofs.Shown.{shown}
use Rattle.sight_workers.proofs.laws.words_show_views.Goals as goal

pub returns : goal.returns
returns c = shown
