use Rattle.std.proofs.Common.{◌≡◌, ◌++◌, ℕ, List, length, take, drop, sym, ◌∙◌, subst}
use Rattle.std.proofs.lemmas.List.{take_at}
use Rattle.gate_floods.specs.GateMasks.Words.{AreBitsOf}
use Rattle.exact_checker.specs.Owning.{IsOwnedBit}
use Rattle.exact_checker.proofs.owning.owned_row.Goals as goal

pub returns-clause-bits : goal.returns-clause-bits
returns-clause-bits c = λ rays are.
    let back : take c.in_ok-words.words.len (c.put_owned.new.words ++ drop (length c.put_owned.new.words) c.in_ok-words.words.items) ≡ c.put_owned.new.words = take_at c.put_owned.new.words _ c.in_ok-words.words.len (c.put_owned.auto.words ∙ c.as_mut_slice.ensures.len) in
    subst (λ (ws : List ℕ). AreBitsOf ws (IsOwnedBit rays c.args.known.components.now c.args.known.count c.args.source)) (sym back) (c.put_owned.ensures rays are)
