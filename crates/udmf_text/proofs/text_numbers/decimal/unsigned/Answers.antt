use Rattle.udmf_text.proofs.TextNumbers.Bounds.{some_power}
use Rattle.udmf_text.proofs.text_numbers.decimal.unsigned.Goals as goal

pub read_run-run-requires-clause-small : goal.read_run-run-requires-clause-small
read_run-run-requires-clause-small c = some_power _
