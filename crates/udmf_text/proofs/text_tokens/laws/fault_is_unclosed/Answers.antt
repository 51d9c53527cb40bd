use Rattle.udmf_text.proofs.TextTokens.Gaps.{fault_is_unclosed as lemma_fault_is_unclosed}
use Rattle.udmf_text.proofs.text_tokens.laws.fault_is_unclosed.Goals as goal

pub returns : goal.returns
returns c = lemma_fault_is_unclosed
