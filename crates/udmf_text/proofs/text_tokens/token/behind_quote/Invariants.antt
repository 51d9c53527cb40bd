use Rattle.std.proofs.Common.{◌≡◌, ◌≤◌, length, false}
use Rattle.udmf_text.specs.TextTokens.Tokens.{behind_quote}
use Rattle.udmf_text.proofs.text_tokens.token.behind_quote.Given as goal

abbrev pub invariant-loop-rest : goal.invariant-loop-rest
invariant-loop-rest l = record { same : behind_quote l.escaped l.rest ≡ behind_quote false l.text; within : length l.rest ≤ length l.text }

abbrev pub decreases-loop-rest : goal.decreases-loop-rest
decreases-loop-rest l = length l.rest
