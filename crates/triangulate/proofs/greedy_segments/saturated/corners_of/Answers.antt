use Rattle.triangulate.proofs.GreedySegments.Searches.{empty_turned, empty_back}
use Rattle.triangulate.proofs.greedy_segments.saturated.corners_of.Goals as goal

pub returns-then-b-c-clause-there : goal.returns-then-b-c-clause-there
returns-then-b-c-clause-there c = λ m e. empty_turned m c.args.a c.args.b c.args.c e

pub returns-then-b-c-clause-back : goal.returns-then-b-c-clause-back
returns-then-b-c-clause-back c = λ m e. empty_back m c.args.a c.args.b c.args.c e

pub returns-else-b-c-clause-there : goal.returns-else-b-c-clause-there
returns-else-b-c-clause-there c = λ m e. empty_back m c.args.c c.args.a c.args.b e

pub returns-else-b-c-clause-back : goal.returns-else-b-c-clause-back
returns-else-b-c-clause-back c = λ m e. empty_turned m c.args.c c.args.a c.args.b e
