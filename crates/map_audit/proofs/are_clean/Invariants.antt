use Rattle.std.proofs.Common.{ℕ, ◌+◌, ◌<◌, get_or}
use Rattle.sight_names.specs.Map.{map_of}
use Rattle.geom_exact.specs.declared.line_spans.Span.{Span}
use Rattle.map_audit.specs.Audit.{FineFrom}
use Rattle.map_audit.proofs.are_clean.Given as goal

abbrev pub invariant-loop-k : goal.invariant-loop-k
invariant-loop-k l = (j : ℕ) → j < l.k → (d : Span) → FineFrom (map_of l.plan) (get_or l.spans j d).line l.spans (j + 1)
