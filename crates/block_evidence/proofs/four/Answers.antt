use Rattle.block_evidence.proofs.Picking.{picks_evidence, picks_block}
use Rattle.block_evidence.proofs.four.Goals as goal

pub returns-in-Some-clause-evidence : goal.returns-in-Some-clause-evidence
returns-in-Some-clause-evidence c = picks_evidence c.args.pairs.now c.in-Some.evidence c.in-Some.ensures

pub returns-in-Some-clause-blocks : goal.returns-in-Some-clause-blocks
returns-in-Some-clause-blocks c = picks_block c.args.pairs.now c.in-Some.evidence c.in-Some.ensures
