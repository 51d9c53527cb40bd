use Rattle.udmf_text.proofs.TextTokens.TokenForms.{words_are_longest as lemma_words_are_longest}
use Rattle.udmf_text.proofs.text_tokens.laws.words_are_longest.Goals as goal

pub returns : goal.returns
returns c = lemma_words_are_longest
