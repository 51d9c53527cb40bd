use Rattle.udmf_text.proofs.TextTokens.Gaps.{gaps_end as lemma_gaps_end}
use Rattle.udmf_text.proofs.text_tokens.laws.gaps_end.Goals as goal

pub returns : goal.returns
returns c = lemma_gaps_end
