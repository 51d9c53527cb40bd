use Rattle.std.proofs.Common.{◌≡◌, ◌≤◌, length}
use Rattle.udmf_text.specs.declared.text_tokens.between.Gap.TheVariants.{Between}
use Rattle.udmf_text.specs.TextTokens.Between.{left_behind_gap}
use Rattle.udmf_text.proofs.text_tokens.between.behind_gap.Given as goal

abbrev pub invariant-loop-rest : goal.invariant-loop-rest
invariant-loop-rest l = record {
  same : left_behind_gap l.gap l.opened l.rest ≡ left_behind_gap Between l.text l.text;
  within : length l.rest ≤ length l.text;
  opened_within : length l.opened ≤ length l.text;
}

abbrev pub decreases-loop-rest : goal.decreases-loop-rest
decreases-loop-rest l = length l.rest
