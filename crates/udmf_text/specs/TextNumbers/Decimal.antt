-- Numbers with a point or an exponent, as words spell them. They are exact: a whole number times a power of ten.
use Rattle.std.specs.Prelude.{ℕ, ◌+◌, ◌-◌, ◌*◌, ◌==◌, nat_lt, nat_le, Bool, true, false, ◌||◌, List, [], ◌∷◌, length, Option, Some, None, option_map, if◌then◌else◌, ℤ, pos, neg_ℤ, ◌-ℤ◌}
use Rattle.udmf_text.specs.TextNumbers.Whole.{digit_of, digits_of}
use Rattle.udmf_text.specs.declared.text_numbers.decimal.Decimal.{Decimal}

-- the number of the decimal digits at the front, behind a number, and what is left behind them
abbrev pub run_value : ℕ → List ℕ → ℕ
run_value n [] = n
run_value n (c ∷ cs) = if nat_lt (digit_of c) 10 then run_value (10 * n + digit_of c) cs else n

abbrev pub run_rest : List ℕ → List ℕ
run_rest [] = []
run_rest (c ∷ cs) = if nat_lt (digit_of c) 10 then run_rest cs else c ∷ cs

-- decimal digits behind a sign or none
abbrev pub exponent_of : List ℕ → Option ℤ
exponent_of [] = None
exponent_of (c ∷ cs) =
    if c == 45 then option_map (λ n. neg_ℤ (pos n)) (digits_of 10 cs)
    else (if c == 43 then option_map (λ n. pos n) (digits_of 10 cs)
    else option_map (λ n. pos n) (digits_of 10 (c ∷ cs)))

abbrev pub decimal : ℕ → ℤ → Decimal
decimal m scale = record { negative = false; mantissa = m; scale = scale }

-- a whole number m of which so many digits stand behind a point, and an exponent; without a point there has to be one
abbrev pub scaled_by_exponent : Bool → ℕ → ℕ → List ℕ → Option Decimal
scaled_by_exponent pointed m behind [] = if pointed then Some (decimal m (neg_ℤ (pos behind))) else None
scaled_by_exponent pointed m behind (c ∷ cs) = if c == 101 || c == 69 then option_map (λ e. decimal m (e -ℤ pos behind)) (exponent_of cs) else None

-- behind a point, before which so many digits spell a number: one digit at least stands on one side of it
abbrev pub pointed_of : ℕ → ℕ → List ℕ → Option Decimal
pointed_of before m behind = if nat_lt 0 (before + (length behind - length (run_rest behind))) then scaled_by_exponent true (run_value m behind) (length behind - length (run_rest behind)) (run_rest behind) else None

-- behind digits, so many, that spell a number
abbrev pub behind_digits : ℕ → ℕ → List ℕ → Option Decimal
behind_digits before m [] = None
behind_digits before m (c ∷ cs) = if c == 46 then pointed_of before m cs else (if nat_lt 0 before then scaled_by_exponent false m 0 (c ∷ cs) else None)

abbrev pub unsigned_decimal : List ℕ → Option Decimal
unsigned_decimal word = behind_digits (length word - length (run_rest word)) (run_value 0 word) (run_rest word)

abbrev pub negated_decimal : Decimal → Decimal
negated_decimal d = record d { negative = true }

abbrev pub signed_decimal : List ℕ → Option Decimal
signed_decimal [] = None
signed_decimal (c ∷ cs) = if c == 45 then option_map negated_decimal (unsigned_decimal cs) else (if c == 43 then unsigned_decimal cs else unsigned_decimal (c ∷ cs))

-- of at most 30 bytes
abbrev pub decimal_of : List ℕ → Option Decimal
decimal_of word = if nat_le (length word) 30 then signed_decimal word else None
