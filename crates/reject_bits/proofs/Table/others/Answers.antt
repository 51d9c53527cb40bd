use Rattle.std.proofs.Common.{◌≡◌, ℕ, ◌-◌, ◌*◌, ◌<◌, List, length, sym, ap, subst, arith}
use Rattle.std.proofs.lemmas.List.{with_items_is}
use Rattle.sight_names.specs.Table.{table_bit}
use Rattle.reject_bits.specs.Parts.{TableParts, HasOtherBits}
use Rattle.reject_bits.proofs.Bits.{others_of}
use Rattle.reject_bits.proofs.Table.others.Goals as goal

pub returns-clause-bits : goal.returns-clause-bits
returns-clause-bits c =
    let v = c.as_mut_slice-slice.ensures.value in
    let turns = subst (λ (old : List ℕ). (k : ℕ) → k < 8 * length old → table_bit c.turn_bits.new.bytes k ≡ 1 - table_bit old k) v c.turn_bits.ensures.bits in
    let n = c.self.inside.n in
    let same : length c.clear_spare.new.bytes ≡ c.self.inside.bytes.len = omega (arith, ap (λ (l : List ℕ). length l) v, c.self.inside.bytes.ok.0, c.clear_spare.auto.bytes, c.turn_bits.ensures.len) in
    subst (λ (bs : List ℕ). HasOtherBits c.args.self (record { n = n; bytes = bs })) (sym (with_items_is c.self.inside.bytes c.clear_spare.new.bytes same))
    (subst (λ (t : TableParts). HasOtherBits t (record { n = n; bytes = c.clear_spare.new.bytes })) c.self.view_is
    (others_of n c.self.inside.bytes.items c.turn_bits.new.bytes c.clear_spare.new.bytes c.self.invariant.len turns c.clear_spare.ensures.kept))
