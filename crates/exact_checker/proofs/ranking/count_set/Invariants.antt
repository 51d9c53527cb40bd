use Rattle.std.proofs.Common.{◌≡◌, ◌*◌, min}
use Rattle.gate_floods.specs.Bits.{bits_from, count_bits}
use Rattle.gate_floods.specs.RowJudge.Words.{is_in}
use Rattle.exact_checker.proofs.ranking.count_set.Given as goal

abbrev pub invariant-loop-word : goal.invariant-loop-word
invariant-loop-word l = l.found ≡ min (count_bits (bits_from (is_in l.words) 0 (64 * l.word-index))) 4294967295
