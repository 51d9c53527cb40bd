use Rattle.std.proofs.Common.{◌≡◌, ◌+◌, ◌-◌, ◌≤◌, length, drop}
use Rattle.udmf_text.specs.TextTokens.Tokens.{word_len}
use Rattle.udmf_text.proofs.text_tokens.token.word_len.Given as goal

abbrev pub invariant-loop-len : goal.invariant-loop-len
invariant-loop-len l = record { same : l.len + word_len (drop l.len l.text) ≡ word_len l.text; within : l.len ≤ length l.text }

abbrev pub decreases-loop-len : goal.decreases-loop-len
decreases-loop-len l = length l.text - l.len
