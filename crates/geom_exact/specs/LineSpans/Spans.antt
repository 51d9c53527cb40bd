-- The lines of a plan by the numbers of their ends, in the order of the lesser ones.
use Rattle.std.specs.Prelude.{◌≡◌, ℕ, ◌<◌, ◌≤◌, pos, List, Option, Some, None, length, slice_get, slice_index, slice_index_or, min, max, All, option_and_then}
use Rattle.std.specs.Int.{int_min, int_max}
use Rattle.std.specs.List.{Contains}
use Rattle.std.specs.List.Sorted.{IsNonDecreasingBy}
use Rattle.sight_names.specs.declared.names.Pt.{Pt}
use Rattle.sight_names.specs.declared.plan.Line.{Line}
use Rattle.sight_names.specs.Plan.{PlanParts}
use Rattle.sight_names.specs.Map.{looked_up}
use Rattle.geom_exact.specs.declared.line_spans.Span.{Span}

-- from the lesser end to the greater one, and from the lower y to the higher one
abbrev pub span_of : List Pt → Line → ℕ → Span
span_of points l i = let m = looked_up points l in record { least = min l.a l.b; greatest = max l.a l.b; low = int_min m.first.y m.second.y; high = int_max m.first.y m.second.y; line = i }

-- the span of a record's line; a record without a line comes behind all lines
abbrev pub span_of_entry : List Pt → Option Line → ℕ → Span
span_of_entry points None i = record { least = 65535; greatest = 0; low = pos 0; high = pos 0; line = i }
span_of_entry points (Some l) i = span_of points l i

abbrev pub span_at : PlanParts → ℕ → Span
span_at p i = span_of_entry p.points (option_and_then (λ l. l) (slice_get p.lines i)) i

-- the span of the record that it names
abbrev pub IsSpanIn : PlanParts → Span → Type 0
IsSpanIn p s = (s.line < length p.lines) × (s ≡ span_at p s.line)

-- the spans of all records, ascending by lesser ends
pub record AreSpans (p : PlanParts) (ss : List Span) : Type 0 where
  pub each : All (IsSpanIn p) ss
  pub covered : (i : ℕ) → i < length p.lines → Contains ss (span_at p i)
  pub ascend : IsNonDecreasingBy (λ (s : Span). s.least) ss

-- the spans from place j to just before place k end no later than the one at k
pub record IsSkip (ss : List Span) (k j : ℕ) : Type 0 where
  pub back : j ≤ k
  pub none : (i : ℕ) (d : Span) → j ≤ i → i < k → (slice_index_or ss i d).greatest ≤ (slice_index_or ss k d).greatest

-- so for each of the first n places
abbrev pub AreSkipsBelow : List Span → List ℕ → ℕ → Type 0
AreSkipsBelow ss skips n = (k : ℕ) → k < n → IsSkip ss k (slice_index skips k)

-- and for each place
abbrev pub AreSkips : List Span → List ℕ → Type 0
AreSkips ss skips = AreSkipsBelow ss skips (length ss)
