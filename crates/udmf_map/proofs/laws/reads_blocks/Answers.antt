use Rattle.udmf_map.proofs.Spelled.{reads_blocks as lemma_reads_blocks}
use Rattle.udmf_map.proofs.laws.reads_blocks.Goals as goal

pub returns : goal.returns
returns c = lemma_reads_blocks
