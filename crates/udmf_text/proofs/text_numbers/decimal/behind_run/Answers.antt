use Rattle.std.proofs.Common.{length, arith}
use Rattle.std.proofs.lemmas.Grind.{common_steps}
use Rattle.udmf_text.proofs.TextNumbers.Bounds.{more_room}
use Rattle.udmf_text.proofs.text_numbers.decimal.behind_run.Goals as goal

pub behind_point-requires-clause-small : goal.behind_point-requires-clause-small
behind_point-requires-clause-small c = more_room c.args.mantissa (length c.args.rest.now) _ (grind (arith, common_steps)) c.requires.small
