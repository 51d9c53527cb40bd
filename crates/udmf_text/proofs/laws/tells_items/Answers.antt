use Rattle.udmf_text.proofs.Grammar.Reads.{tells_items as lemma_tells_items}
use Rattle.udmf_text.proofs.laws.tells_items.Goals as goal

pub returns : goal.returns
returns c = lemma_tells_items
