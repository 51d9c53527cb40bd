use Rattle.std.proofs.Common.{◌∙◌}
use Rattle.std.proofs.lemmas.Grind.{get_or_default_zero}
use Rattle.cert_checker.proofs.EightColumns.{rejects_told}
use Rattle.cert_checker.proofs.columns.Columns.rejects.Goals as goal

pub returns : goal.returns
returns c = λ t are le. rejects_told t c.args.self.now c.args.row c.args.column c.index.result.now are c.requires.row c.requires.column le (c.index.ensures ∙ get_or_default_zero c.args.self.now.bytes.items c.args.row c.index.result.now c.requires.row)
