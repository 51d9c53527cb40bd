use Rattle.std.proofs.Common.{◌≡◌, ◌<◌, ◌≤◌, ◌-◌, ◌^◌, length}
use Rattle.udmf_text.specs.TextNumbers.Whole.{value_in, are_digits}
use Rattle.udmf_text.proofs.text_numbers.digits.digits_in.Given as goal

abbrev pub invariant-loop-rest : goal.invariant-loop-rest
invariant-loop-rest l = record {
  value : value_in l.base l.value l.rest ≡ value_in l.base 0 l.word;
  digits : are_digits l.base l.rest ≡ are_digits l.base l.word;
  short : length l.rest ≤ 30;
  within : l.value < 16 ^ (30 - length l.rest);
}

abbrev pub decreases-loop-rest : goal.decreases-loop-rest
decreases-loop-rest l = length l.rest
