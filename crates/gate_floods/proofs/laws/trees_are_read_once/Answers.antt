use Rattle.gate_floods.proofs.Once.{trees_are_read_once as lemma_trees_are_read_once}
use Rattle.gate_floods.proofs.laws.trees_are_read_once.Goals as goal

pub returns : goal.returns
returns c = lemma_trees_are_read_once
