use Rattle.std.proofs.Common.{ℕ, ◌<◌, ◌≤◌, get_or}
use Rattle.sight_names.specs.Map.{map_of}
use Rattle.geom_exact.specs.declared.line_spans.Span.{Span}
use Rattle.map_audit.specs.Audit.{FineAt}
use Rattle.map_audit.proofs.is_clean_from.Given as goal

abbrev pub invariant-loop-k : goal.invariant-loop-k
invariant-loop-k l = (j : ℕ) → j < l.k → l.from ≤ j → (d : Span) → FineAt (map_of l.plan) l.one.line (get_or l.spans j d).line
