use Rattle.std.proofs.Common.{◌≡◌, ◌++◌, None, drop, string_bytes}
use Rattle.std.specs.List.{flat_map}
use Rattle.map_answers.specs.Trace.{changes, group_word_at}
use Rattle.map_answers.proofs.trace.push_changes.Given as goal

abbrev pub invariant-loop-place : goal.invariant-loop-place
invariant-loop-place l = string_bytes l.line ++ flat_map (group_word_at l.groups) (changes l.last (drop l.place-index l.places)) ≡ string_bytes l.fn.line ++ flat_map (group_word_at l.groups) (changes None l.places)
