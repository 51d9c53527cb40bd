use Rattle.std.proofs.Common.{◌≡◌, ◌++◌}
use Rattle.exact_checker.specs.Masking.{words_of}
use Rattle.exact_checker.proofs.masking.put_words.Given as goal

abbrev pub invariant-loop-place : goal.invariant-loop-place
invariant-loop-place l = l.words.items ≡ l.initial.words.items ++ words_of l.row 0 l.place
