use Rattle.sight_names.specs.Sequence.{end_points}
use Rattle.block_evidence.proofs.Answering.{blocked_no_line}
use Rattle.block_evidence.proofs.laws.stuck_ends_show_no_line.Goals as goal

pub returns-clause-portals : goal.returns-clause-portals
returns-clause-portals c es e b = blocked_no_line es e b

pub returns-clause-sequence : goal.returns-clause-sequence
returns-clause-sequence c m ps e b = blocked_no_line (end_points m ps) e b
