use Rattle.run_laws.proofs.Drawing.{draw_leaves_picture}
use Rattle.run_laws.proofs.laws.draw_leaves_picture.Goals as goal

pub returns : goal.returns
returns c = draw_leaves_picture
