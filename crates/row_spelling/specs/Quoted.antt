-- A text as a string of JSON (RFC 8259, section 7).
use Rattle.std.specs.Prelude.{ℕ, ◌+◌, ◌/◌, ◌%◌, ◌==◌, ◌&&◌, nat_lt, nat_le, List, [], ◌∷◌, ◌++◌, codes, if◌then◌else◌}
use Rattle.std.specs.List.{flat_map}

-- a digit of base sixteen
abbrev pub hex_digit : ℕ → ℕ
hex_digit n = if nat_lt n 10 then 48 + n else 87 + n

-- the code of a byte
abbrev pub code_of : ℕ → List ℕ
code_of c = codes "\\u00" ++ hex_digit (c / 16) ∷ hex_digit (c % 16) ∷ []

-- a quotation mark and a backslash stand behind a backslash, other printing bytes of ASCII as they are, and each other one as its code
abbrev pub escaped_code : ℕ → List ℕ
escaped_code c = if c == 34 then codes "\\\"" else (if c == 92 then codes "\\\\" else (if nat_le 32 c && nat_le c 126 then c ∷ [] else code_of c))

-- .. between quotation marks
unfoldable pub quoted : List ℕ → List ℕ
quoted text = codes "\"" ++ flat_map escaped_code text ++ codes "\""
