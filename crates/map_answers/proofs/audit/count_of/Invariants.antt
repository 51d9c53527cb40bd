use Rattle.std.proofs.Common.{◌≡◌, ◌+◌, ◌≤◌, drop, filter_map, length}
use Rattle.map_answers.proofs.audit.count_of.Given as goal

abbrev pub invariant-loop-line : goal.invariant-loop-line
invariant-loop-line l = (l.count + length (filter_map (λ line. line) (drop l.line-index l.lines)) ≡ length (filter_map (λ line. line) l.lines)) × (l.count ≤ l.line-index)
