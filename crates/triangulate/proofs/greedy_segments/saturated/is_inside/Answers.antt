use Rattle.std.proofs.Common.{sym, ◌∙◌}
use Rattle.std.proofs.lemmas.Bool.{false≢true}
use Rattle.triangulate.proofs.GreedySegments.Filling.{inside_within}
use Rattle.triangulate.proofs.greedy_segments.saturated.is_inside.Goals as goal

pub returns-else-is_between : goal.returns-else-is_between
returns-else-is_between c = (
  λ h. absurd (false≢true (sym c.if-is_between.false ∙ h)),
  λ h. absurd (false≢true (sym c.if-is_between.false ∙ c.is_between.ensures.1 (inside_within c.args.a c.args.b c.args.c c.args.p c.args.heights c.requires.first c.requires.second c.requires.third h))),
)
