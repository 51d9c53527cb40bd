use Rattle.block_evidence.proofs.Answering.{stuck_answer}
use Rattle.block_evidence.proofs.stuck.Goals as goal

pub returns : goal.returns
returns c = stuck_answer c.args.ends.now c.parting.result c.is_none.result c.is_none.ensures c.parting.ensures
