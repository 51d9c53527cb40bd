-- The spans by record number, and the same in another order that ascends.
use Rattle.std.proofs.Common.{◌≡◌, ℕ, ◌<◌, List, length, get_or, slice_get, option_and_then, Option, Some, None, refl, sym, ◌∙◌, ap, subst}
use Rattle.std.specs.List.Sorted.{IsNonDecreasingBy, IsPermutation}
use Rattle.std.proofs.lemmas.List.Elements.{All-from_get_or}
use Rattle.std.proofs.lemmas.List.Sorted.{All-permutation, Contains-permutation}
use Rattle.sight_names.specs.declared.names.Pt.{Pt}
use Rattle.sight_names.specs.declared.plan.Line.{Line}
use Rattle.sight_names.specs.Plan.{PlanParts}
use Rattle.geom_exact.specs.declared.line_spans.Span.{Span}
use Rattle.geom_exact.specs.LineSpans.Spans.{span_of_entry, span_at, IsSpanIn, AreSpans}

-- a span tells its record
pub line_is : (points : List Pt) (o : Option Line) (i : ℕ) → (span_of_entry points o i).line ≡ i
line_is points None i = refl
line_is points (Some l) i = refl

-- each record's span stands at its number
abbrev pub AreByRecord : PlanParts → List Span → Type 0
AreByRecord p ss = (i : ℕ) (d : Span) → i < length p.lines → get_or ss i d ≡ span_at p i

pub sorted_spans : (p : PlanParts) (ss ts : List Span) → length ss ≡ length p.lines → AreByRecord p ss → IsPermutation ss ts → IsNonDecreasingBy (λ (s : Span). s.least) ts → AreSpans p ts
sorted_spans p ss ts e by moved up = record {
  each = All-permutation (IsSpanIn p) ss ts moved (All-from_get_or (IsSpanIn p) ss (span_at p 0) each);
  covered = λ i hi. Contains-permutation ss ts (span_at p i) moved (i, subst (λ (n : ℕ). i < n) (sym e) hi, by i (span_at p i) hi);
  ascend = up;
}
  where
    its_own : (i : ℕ) (s : Span) → i < length p.lines → s ≡ span_at p i → IsSpanIn p s
    its_own i s hi f =
        let k : s.line ≡ i = ap (λ (t : Span). t.line) f ∙ line_is p.points (option_and_then (λ l. l) (slice_get p.lines i)) i in
        (subst (λ (n : ℕ). n < length p.lines) (sym k) hi, f ∙ ap (span_at p) (sym k))

    each : (i : ℕ) → i < length ss → IsSpanIn p (get_or ss i (span_at p 0))
    each i hi = let h = subst (λ (n : ℕ). i < n) e hi in its_own i (get_or ss i (span_at p 0)) h (by i (span_at p 0) h)
