use Rattle.std.proofs.Common.{ℕ, List, Contains, subst}
use Rattle.gate_floods.proofs.GateMasks.Masking.{mask_made}
use Rattle.gate_floods.proofs.gate_masks.masks.mask_of.Goals as goal

pub kept-requires : goal.kept-requires
kept-requires c = λ k there. c.in_ok-numbers.ensures.within k (subst (λ (xs : List ℕ). Contains xs k) c.as_slice.ensures.value there)

pub returns : goal.returns
returns c = mask_made c.args.gates.now.gates.items c.args.joined.now c.args.gate c.words_of-seen.result.now c.words_of-other.result.now c.in_ok-numbers.numbers.items c.as_slice.result.now c.in_ok-row.row.words.items c.as_slice.ensures.value c.words_of-seen.ensures c.words_of-other.ensures c.in_ok-numbers.ensures.beyond c.in_ok-row.ensures
