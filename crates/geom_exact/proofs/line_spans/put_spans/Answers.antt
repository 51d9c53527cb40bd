use Rattle.std.proofs.Common.{arith, rules}
use Rattle.std.proofs.lemmas.List.Sorted.{IsNonDecreasingBy-from_sort_by_key}
use Rattle.geom_exact.specs.declared.line_spans.Span.{Span}
use Rattle.geom_exact.proofs.LineSpans.Filling.{sorted_spans}
use Rattle.geom_exact.proofs.line_spans.put_spans.Goals as goal

pub returns-clause-spans : goal.returns-clause-spans
returns-clause-spans c = sorted_spans c.args.plan.now _ _ (let h = c.requires in omega arith) c.put_by_record.ensures c.sort_unstable_by_key.ensures.permutation (IsNonDecreasingBy-from_sort_by_key (λ (s : Span). s.least) _ c.sort_unstable_by_key.ensures.sorted (λ a r q k. search rules))
