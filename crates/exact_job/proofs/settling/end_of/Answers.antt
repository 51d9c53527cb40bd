use Rattle.std.proofs.Common.{refl}
use Rattle.exact_job.proofs.Rounds.{is_settled}
use Rattle.exact_job.proofs.settling.end_of.Goals as goal

pub returns : goal.returns
returns c = λ p ts xs plan sectors lines is. is_settled p ts xs c.args.round is c.requires.nothing c.args.sizes (record { rays = c.args.round.rays; joined = c.args.round.joined; trees = c.in_ok-trees.trees }) plan sectors lines refl refl c.in_ok-trees.ensures
