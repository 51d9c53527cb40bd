use Rattle.cert_checker.proofs.EightColumns.{ArePut}
use Rattle.cert_checker.proofs.columns.put_columns.Given as goal

abbrev pub invariant-loop-row : goal.invariant-loop-row
invariant-loop-row l = ArePut l.table l.first l.row l.bytes
