use Rattle.std.proofs.Common.{◌≡◌, ◌<◌, ◌≤◌, ◌-◌, ◌^◌, length}
use Rattle.udmf_text.specs.TextNumbers.Decimal.{run_value, run_rest}
use Rattle.udmf_text.proofs.text_numbers.decimal.read_run.Given as goal

abbrev pub invariant-loop-rest : goal.invariant-loop-rest
invariant-loop-rest l = record {
  value : run_value l.value l.rest ≡ run_value l.first l.text;
  left : run_rest l.rest ≡ run_rest l.text;
  shorter : length l.rest ≤ length l.text;
  short : length l.rest ≤ 30;
  within : l.value < 16 ^ (30 - length l.rest);
}

abbrev pub decreases-loop-rest : goal.decreases-loop-rest
decreases-loop-rest l = length l.rest
