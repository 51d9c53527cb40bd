-- The token at the front of a text.
use Rattle.std.specs.Prelude.{ℕ, ◌+◌, ◌-◌, ◌==◌, nat_le, Bool, false, not, ◌&&◌, ◌||◌, List, [], ◌∷◌, length, take, drop, Option, Some, None, option_map, if◌then◌else◌}
use Rattle.udmf_text.specs.declared.text_tokens.token.Kind.{Kind}
use Rattle.udmf_text.specs.declared.text_tokens.token.Kind.TheVariants as kind
use Rattle.udmf_text.specs.declared.text_tokens.token.Taken.{Taken}
use Rattle.udmf_text.specs.TextTokens.Between.{begins_with_byte}

-- a token, its bytes, and what is left behind it
pub record TokenParts : Type 0 where
  pub kind : Kind
  pub bytes : List ℕ
  pub rest : List ℕ

abbrev pub token_parts : Taken → TokenParts
token_parts t = record { kind = t.kind; bytes = t.bytes.now; rest = t.rest.now }

-- the bytes { } = ; " ( ) '
abbrev pub is_apart : ℕ → Bool
is_apart c = c == 123 || c == 125 || c == 61 || c == 59 || c == 34 || c == 40 || c == 41 || c == 39

-- a word ends before a byte, behind which these stand: a blank, one of those, or the slash that opens a comment
abbrev pub ends_word : ℕ → List ℕ → Bool
ends_word c cs = nat_le c 32 || is_apart c || (c == 47 && (begins_with_byte 47 cs || begins_with_byte 42 cs))

abbrev pub word_len : List ℕ → ℕ
word_len [] = 0
word_len (c ∷ cs) = if ends_word c cs then 0 else word_len cs + 1

-- what is left behind the quote that ends a string; a byte behind a backslash ends none
abbrev pub behind_quote : Bool → List ℕ → Option (List ℕ)
behind_quote escaped [] = None
behind_quote escaped (c ∷ cs) = if not escaped && c == 34 then Some cs else behind_quote (not escaped && c == 92) cs

abbrev pub mark_of : Kind → List ℕ → TokenParts
mark_of k rest = record { kind = k; bytes = []; rest = rest }

abbrev pub string_of : List ℕ → List ℕ → TokenParts
string_of more rest = record { kind = kind.Quoted; bytes = take (length more - length rest - 1) more; rest = rest }

abbrev pub quoted_of : List ℕ → Option TokenParts
quoted_of more = option_map (string_of more) (behind_quote false more)

abbrev pub word_token_of : List ℕ → Option TokenParts
word_token_of text = if word_len text == 0 then None else Some (record { kind = kind.Word; bytes = take (word_len text) text; rest = drop (word_len text) text })

-- the token that begins with the first byte of a text; None where none does
abbrev pub token_of : List ℕ → Option TokenParts
token_of [] = None
token_of (c ∷ cs) =
    if c == 123 then Some (mark_of kind.Open cs)
    else (if c == 125 then Some (mark_of kind.Close cs)
    else (if c == 61 then Some (mark_of kind.Is cs)
    else (if c == 59 then Some (mark_of kind.End cs)
    else (if c == 34 then quoted_of cs
    else word_token_of (c ∷ cs)))))
