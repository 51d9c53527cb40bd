-- The values that keys take, and what each spells.
use Rattle.std.specs.Prelude.{ℕ, zero, suc, ◌-◌, ◌*◌, ◌/◌, ◌%◌, ◌^◌, ◌==◌, nat_le, Bool, true, false, ◌&&◌, List, Option, Some, None, option_map, codes, if◌then◌else◌, ℤ, pos, negsuc, neg_ℤ, nat_abs, int_lt}
use Rattle.std.specs.Str.{str_eq_ignore_ascii_case}
use Rattle.udmf_text.specs.declared.text_numbers.decimal.Decimal.{Decimal}
use Rattle.udmf_map.specs.declared.values.Coordinate.{Coordinate}
use Rattle.udmf_map.specs.declared.values.Coordinate.TheVariants.{OffGrid, At}
use Rattle.sight_names.specs.declared.limits.TheConstants.{FARTHEST}
use Rattle.udmf_text.specs.TextNumbers.Whole.{whole_of}
use Rattle.udmf_text.specs.TextNumbers.Decimal.{decimal_of}
use Rattle.udmf_text.specs.Parts.{GivenBytes}

-- the word is this one, in upper or in lower case
abbrev pub is_word : List ℕ → List ℕ → Bool
is_word word letters = str_eq_ignore_ascii_case word letters

-- the word that is given, which no string is
abbrev pub word_given : GivenBytes → Option (List ℕ)
word_given g = if g.quoted then None else Some g.value

-- the next step works on what the step before it gave
abbrev pub option_then : {A B : Type 0} → Option A → (A → Option B) → Option B
option_then (Some x) f = f x
option_then None f = None

-- ---- whole numbers, of 32 bits: a number beyond them is the nearest one that they hold

abbrev pub saturated : ℤ → ℤ
saturated z = if int_lt z (neg_ℤ (pos (2 ^ 31))) then neg_ℤ (pos (2 ^ 31)) else (if int_lt (pos (2 ^ 31 - 1)) z then pos (2 ^ 31 - 1) else z)

abbrev pub whole_given : GivenBytes → Option ℤ
whole_given g = option_then (word_given g) (λ word. option_map saturated (whole_of word))

-- ---- true and false

abbrev pub truth_of : List ℕ → Option Bool
truth_of word = if is_word word (codes "true") then Some true else (if is_word word (codes "false") then Some false else None)

abbrev pub truth_given : GivenBytes → Option Bool
truth_given g = option_then (word_given g) truth_of

-- ---- coordinates

-- a whole number, as one with a power of ten
abbrev pub of_whole : ℤ → Decimal
of_whole z = record { negative = int_lt z (pos 0); mantissa = nat_abs z; scale = pos 0 }

-- the number that a word spells: a whole one, or one with a point or an exponent
abbrev pub decimal_in_word : List ℕ → Option Decimal
decimal_in_word word = elim (whole_of word) [
  | Some z ↦ Some (of_whole z)
  | None ↦ decimal_of word
]

-- the coordinate with this absolute value in the unit of so many decimal places, on one side of 0. It has seven places at most:
-- by the unit of an eighth one a point's coordinates would end before 1
abbrev pub signed : Bool → ℕ → ℕ → Coordinate
signed negative n places = if nat_le n FARTHEST && nat_le places 7 then At (if negative then neg_ℤ (pos n) else pos n) places else OffGrid

-- a number divided by a power of ten. Zeros at the end of its decimal places go, so that it has as few as it can
abbrev pub lowered : Bool → ℕ → ℕ → Coordinate
lowered negative m zero = signed negative m 0
lowered negative m (suc k) = if m % 10 == 0 then lowered negative (m / 10) k else signed negative m (suc k)

-- a number times a power of ten
abbrev pub scaled_coordinate : Bool → ℕ → ℤ → Coordinate
scaled_coordinate negative m (pos k) = signed negative (m * 10 ^ k) 0
scaled_coordinate negative m (negsuc k) = lowered negative m (suc k)

abbrev pub coordinate_of : Decimal → Coordinate
coordinate_of d = scaled_coordinate d.negative d.mantissa d.scale

abbrev pub coordinate_given : GivenBytes → Option Coordinate
coordinate_given g = option_then (word_given g) (λ word. option_map coordinate_of (decimal_in_word word))
