-- An entry lies outside exactly where its slot in the file does.
use Rattle.std.proofs.Common.{◌≡◌, ℕ, zero, suc, ◌+◌, List, [], ◌∷◌, not, map, refl, arith}
use Rattle.std.proofs.lemmas.Bool.Decides.{nat_tests}
use Rattle.std.specs.List.{position_from}
use Rattle.wad_dir.specs.Wad.{Slot, entry_of, is_outside, lies_within}
use Rattle.wad_dir.specs.declared.parts.Entry.{Entry}

pub entry_outside : (len : ℕ) (s : Slot) → not (lies_within len (entry_of s)) ≡ is_outside len s
entry_outside len s = by_size s.size s.offset
  where
    by_size : (size at : ℕ) → not (lies_within len (entry_of (record { offset = at; size = size; name = s.name }))) ≡ is_outside len (record { offset = at; size = size; name = s.name })
    by_size zero at = grind (arith, nat_tests)
    by_size (suc size) at = grind (arith, nat_tests)

pub position_outside : (len k : ℕ) (slots : List Slot) → position_from (λ (e : Entry). not (lies_within len e)) k (map entry_of slots) ≡ position_from (is_outside len) k slots
position_outside len k [] = refl
position_outside len k (s ∷ slots) = rw (entry_outside len s, position_outside len (k + 1) slots) refl
