use Rattle.std.proofs.Common.{◌≡◌, ◌+◌, ◌≤◌, drop, filter_map, length}
use Rattle.map_answers.proofs.audit.count_labels.Given as goal

abbrev pub invariant-loop-label : goal.invariant-loop-label
invariant-loop-label l = (l.count + length (filter_map (λ label. label) (drop l.label-index l.labels)) ≡ length (filter_map (λ label. label) l.labels)) × (l.count ≤ l.label-index)
