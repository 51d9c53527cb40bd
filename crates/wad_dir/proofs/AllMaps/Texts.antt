-- The name of a map is text, up to its first NUL.
use Rattle.std.proofs.Common.{◌≡◌, ℕ, zero, suc, ◌<◌, List, [], ◌∷◌, Bool, true, false, ◌==◌, if◌then◌else◌, slice_index, arith}
use Rattle.std.specs.Char.{to_ascii_uppercase}
use Rattle.std.specs.List.{list_all}
use Rattle.std.specs.Str.{IsAscii, IsUtf8}
use Rattle.std.proofs.lemmas.Bool.Decides.{nat_tests}
use Rattle.std.proofs.lemmas.Str.{IsUtf8-from_ascii}
use Rattle.wad_dir.specs.Map.{key_of}
use Rattle.wad_dir.specs.AllMaps.Maps.{is_map_name, is_visible}
use Rattle.wad_dir.specs.AllMaps.Names.{name_before_nul}
use Rattle.math_base.proofs.Bools.{first_true as first_of_both, second_true as second_of_both}

-- ---- the bytes up to the first NUL

-- ---- they are text

below : (c : ℕ) → is_visible (to_ascii_uppercase c) ≡ true → c < 128
below c e = grind (arith, nat_tests)

word_ascii : (name : List ℕ) → list_all is_visible (key_of name) ≡ true → IsAscii (name_before_nul name)
word_ascii [] e i = omega arith
word_ascii (c ∷ cs) e i = by (c == 0) (word_ascii cs) e i
  where
    nil : (j : ℕ) → slice_index [] j < 128
    nil j = omega arith

    front : list_all is_visible (to_ascii_uppercase c ∷ key_of cs) ≡ true → c < 128
    front h = below c (first_of_both (is_visible (to_ascii_uppercase c)) (list_all is_visible (key_of cs)) h)

    by : (t : Bool) → (list_all is_visible (key_of cs) ≡ true → IsAscii (name_before_nul cs)) → list_all is_visible (if t then [] else to_ascii_uppercase c ∷ key_of cs) ≡ true → (j : ℕ) → slice_index (if t then [] else c ∷ name_before_nul cs) j < 128
    by true later h j = nil j
    by false later h zero = front h
    by false later h (suc j) = later (second_of_both (is_visible (to_ascii_uppercase c)) (list_all is_visible (key_of cs)) h) j

visible_name : (name : List ℕ) → is_map_name name ≡ true → list_all is_visible (key_of name) ≡ true
unfolding is_map_name
visible_name name e = grind arith

pub word_is_text : (name : List ℕ) → is_map_name name ≡ true → IsUtf8 (name_before_nul name)
word_is_text name e = IsUtf8-from_ascii (name_before_nul name) (word_ascii name (visible_name name e))
