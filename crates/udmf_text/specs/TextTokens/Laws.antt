-- What stands between tokens, as a grammar: without states, and without an order in which the bytes are read.
use Rattle.std.specs.Prelude.{◌≡◌, ◌≤◌, ◌↔◌, ℕ, ◌==◌, nat_le, Bool, false, ◌&&◌, ◌||◌, List, [], ◌∷◌, ◌++◌, Ok, Err}
use Rattle.udmf_text.specs.TextTokens.Between.{begins_with_byte, left_behind}

-- some byte is a line feed
abbrev pub has_line_feed : List ℕ → Bool
has_line_feed [] = false
has_line_feed (c ∷ cs) = c == 10 || has_line_feed cs

-- a star and a slash stand there, one behind the other
abbrev pub has_close : List ℕ → Bool
has_close [] = false
has_close (c ∷ cs) = (c == 42 && begins_with_byte 47 cs) || has_close cs

-- a text that is `rest` behind blanks and comments
pub data IsBehindGap (rest : List ℕ) : List ℕ → Type 0 where
  none : {text : List ℕ} → text ≡ rest → IsBehindGap rest text
  blank : {text : List ℕ} (c : ℕ) (more : List ℕ) → text ≡ c ∷ more → c ≤ 32 → IsBehindGap rest more → IsBehindGap rest text
  line : {text : List ℕ} (words more : List ℕ) → text ≡ 47 ∷ 47 ∷ (words ++ 10 ∷ more) → has_line_feed words ≡ false → IsBehindGap rest more → IsBehindGap rest text
  last_line : {text : List ℕ} (words : List ℕ) → text ≡ 47 ∷ 47 ∷ words → has_line_feed words ≡ false → rest ≡ [] → IsBehindGap rest text
  block : {text : List ℕ} (words more : List ℕ) → text ≡ 47 ∷ 42 ∷ (words ++ 42 ∷ 47 ∷ more) → has_close words ≡ false → IsBehindGap rest more → IsBehindGap rest text

-- a blank or a comment begins there
abbrev pub begins_gap : List ℕ → Bool
begins_gap [] = false
begins_gap (c ∷ cs) = nat_le c 32 || (c == 47 && (begins_with_byte 47 cs || begins_with_byte 42 cs))

-- a comment begins there that isn't closed
abbrev pub IsUnclosed : List ℕ → Type 0
IsUnclosed text = (words : List ℕ) × (text ≡ 47 ∷ 42 ∷ words) × (has_close words ≡ false)

-- what is left behind blanks and comments is what stands behind some, and begins with none
abbrev pub GapsEnd : Type 0
GapsEnd = (text rest : List ℕ) → (left_behind text ≡ Ok rest) ↔ (IsBehindGap rest text × (begins_gap rest ≡ false))

-- the fault is at a comment that isn't closed and stands behind blanks and comments
abbrev pub FaultIsUnclosed : Type 0
FaultIsUnclosed = (text opened : List ℕ) → (left_behind text ≡ Err opened) ↔ (IsBehindGap opened text × IsUnclosed opened)
