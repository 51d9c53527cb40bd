-- The first token of a text, or its first fault.
use Rattle.std.specs.Prelude.{ℕ, List, [], ◌∷◌, length, Option, Some, None, Result, Ok, Err}
use Rattle.udmf_text.specs.declared.text_tokens.next.Placed.{Placed}
use Rattle.udmf_text.specs.TextTokens.Between.{left_behind}
use Rattle.udmf_text.specs.TextTokens.Tokens.{TokenParts, token_parts, token_of}

-- a token, and how many bytes of the text there are from its first one on
pub record PlacedParts : Type 0 where
  pub left : ℕ
  pub token : TokenParts

abbrev pub placed_of : Placed → PlacedParts
placed_of p = record { left = p.left; token = token_parts p.token }

-- what stands at the front of this text: a token, its end, or a fault
abbrev pub at_front : List ℕ → Result (Option PlacedParts) ℕ
at_front [] = Ok None
at_front (c ∷ cs) = elim (token_of (c ∷ cs)) [
  | Some t ↦ Ok (Some (record { left = length (c ∷ cs); token = t }))
  | None ↦ Err (length (c ∷ cs))
]

-- The first token of a text, None where there is none; or how many bytes there are from the first fault on: a comment
-- that isn't closed, a byte at which no token begins, or a string that has no end. Bytes are counted to the end of the
-- text, so that a count means the same byte whatever stands in front.
abbrev pub first_token_of : List ℕ → Result (Option PlacedParts) ℕ
first_token_of text = elim (left_behind text) [
  | Ok here ↦ at_front here
  | Err opened ↦ Err (length opened)
]
