use Rattle.udmf_text.proofs.TextTokens.TokenForms.{strings_end as lemma_strings_end}
use Rattle.udmf_text.proofs.text_tokens.laws.strings_end.Goals as goal

pub returns : goal.returns
returns c = lemma_strings_end
