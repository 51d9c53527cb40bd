-- The names of a WAD that was read have eight bytes, and so have those of the WAD with another REJECT.
use Rattle.std.proofs.Common.{◌≡◌, ℕ, zero, suc, ◌+◌, ◌*◌, ◌^◌, ◌≤◌, List, [], ◌∷◌, ◌++◌, length, drop, take, map, Bool, true, false, if◌then◌else◌, nat_lt, nat_le, Option, Some, None, Ok, Result, refl, subst, arith}
use Rattle.std.specs.Prelude.{is_none}
use Rattle.std.specs.List.{AllByRecursion, insert}
use Rattle.std.proofs.Math.ListN.{get_or, set}
use Rattle.std.proofs.lemmas.Bool.Decides.{not_from_Decides}
use Rattle.std.proofs.lemmas.List.{length-drop, length-take}
use Rattle.sight_names.specs.declared.limits.TheConstants.{MOST_LUMPS}
use Rattle.sight_names.specs.declared.faults.WadFault.{WadFault}
use Rattle.wad_dir.specs.declared.parts.MapSpot.{MapSpot}
use Rattle.wad_dir.specs.Print.{with_bytes, with_reject}
use Rattle.wad_dir.specs.Wad.{Slot, WadFile, WadLump, lump_count_of, is_directory_outside, wad_kind_of, kind_said, lump_of, slot_at, slots_at, slots_of, unless, wad_fault, wad_of}

-- each name has eight bytes
abbrev pub HasNames : List WadLump → Type 0
HasNames lumps = AllByRecursion (λ (l : WadLump). length l.name ≡ 8) lumps

abbrev HasSlots : List Slot → Type 0
HasSlots slots = AllByRecursion (λ (s : Slot). length s.name ≡ 8) slots

pushed : (slots : List Slot) (s : Slot) → HasSlots slots → length s.name ≡ 8 → HasSlots (slots ++ s ∷ [])
pushed [] s h e = (e, tt)
pushed (x ∷ slots) s h e = (h.0, pushed slots s h.1 e)

slots_named : (bytes : List ℕ) (at n : ℕ) → at + 16 * n ≤ length bytes → HasSlots (slots_at bytes at n)
slots_named bytes at zero le = tt
slots_named bytes at (suc n) le = pushed (slots_at bytes at n) (slot_at bytes (at + 16 * n)) (slots_named bytes at n (omega (arith, le))) name
  where
    name : length (take 8 (drop (at + 16 * n + 8) bytes)) ≡ 8
    name = let a = length-take 8 (drop (at + 16 * n + 8) bytes) in let b = length-drop (at + 16 * n + 8) bytes in omega (arith, a, b, le)

lumps_named : (bytes : List ℕ) (slots : List Slot) → HasSlots slots → HasNames (map (lump_of bytes) slots)
lumps_named bytes [] h = tt
lumps_named bytes (s ∷ slots) h = (h.0, lumps_named bytes slots h.1)

-- where the first check that fails is none, the fifth doesn't fail
fifth : (a b c d e : Bool) (f g h i j : WadFault) (o : Option WadFault) → (if a then Some f else (if b then Some g else (if c then Some h else (if d then Some i else (if e then Some j else o))))) ≡ None → e ≡ false
fifth true b c d e f g h i j o q = absurd cc
fifth false true c d e f g h i j o q = absurd cc
fifth false false true d e f g h i j o q = absurd cc
fifth false false false true e f g h i j o q = absurd cc
fifth false false false false true f g h i j o q = absurd cc
fifth false false false false false f g h i j o q = refl

inside : (bytes : List ℕ) → wad_fault bytes ≡ None → is_directory_outside bytes ≡ false
unfolding wad_fault
inside bytes h = fifth (nat_lt (length bytes) 12) (is_none (wad_kind_of bytes)) (nat_le (2 ^ 31) (lump_count_of bytes)) (nat_lt MOST_LUMPS (lump_count_of bytes)) (is_directory_outside bytes) _ _ _ _ _ _ h

within : (bytes : List ℕ) → is_directory_outside bytes ≡ false → HasSlots (slots_of bytes)
within bytes h = grind (arith, not_from_Decides, slots_named)

-- of a WAD that was read
pub names_read : (bytes : List ℕ) (w : WadFile) → wad_of bytes ≡ Ok w → HasNames w.lumps
unfolding wad_of
names_read bytes w h = by (wad_fault bytes) refl h
  where
    same : (x y : WadFile) → ◌≡◌ {A = Result WadFile WadFault} (Ok x) (Ok y) → x ≡ y
    same x y e = cc

    by : (o : Option WadFault) → wad_fault bytes ≡ o → unless o (record { kind = kind_said bytes; lumps = map (lump_of bytes) (slots_of bytes) }) ≡ Ok w → HasNames w.lumps
    by (Some f) e q = absurd cc
    by None e q = subst (λ (x : WadFile). HasNames x.lumps) (same _ w q) (lumps_named bytes (slots_of bytes) (within bytes (inside bytes e)))

-- ---- with another REJECT

insert_named : (lumps : List WadLump) (i : ℕ) (l : WadLump) → HasNames lumps → length l.name ≡ 8 → HasNames (insert lumps i l)
insert_named lumps zero l h e = (e, h)
insert_named [] (suc i) l h e = (e, tt)
insert_named (x ∷ lumps) (suc i) l h e = (h.0, insert_named lumps i l h.1 e)

set_named : (lumps : List WadLump) (i : ℕ) (d : WadLump) (bytes : List ℕ) → HasNames lumps → HasNames (set lumps i (with_bytes (get_or lumps i d) bytes))
set_named [] i d bytes h = tt
set_named (x ∷ lumps) zero d bytes h = h
set_named (x ∷ lumps) (suc i) d bytes h = (h.0, set_named lumps i d bytes h.1)

pub names_rewritten : (w : WadFile) (spot : MapSpot) (table : List ℕ) → HasNames w.lumps → HasNames (with_reject w spot table).lumps
names_rewritten w spot table h = grind (arith, get_or, insert_named, set_named)
