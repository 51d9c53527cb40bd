-- What stands between the tokens of a text: blanks and comments. A text is its bytes.
use Rattle.std.specs.Prelude.{◌≡◌, ℕ, ◌==◌, nat_le, Bool, true, false, ◌&&◌, List, [], ◌∷◌, Option, Some, None, Result, Ok, Err, if◌then◌else◌}
use Rattle.udmf_text.specs.declared.text_tokens.between.Gap.{Gap}
use Rattle.udmf_text.specs.declared.text_tokens.between.Gap.TheVariants.{Between, InLine, Opening, InBlock, Closing}

abbrev pub begins_with_byte : ℕ → List ℕ → Bool
begins_with_byte byte [] = false
begins_with_byte byte (c ∷ cs) = c == byte

-- where one stands behind a byte, behind which these bytes stand; None where a token begins at it
abbrev pub step_of : Gap → ℕ → List ℕ → Option Gap
step_of Between c cs = if nat_le c 32 then Some Between else (if c == 47 then (if begins_with_byte 47 cs then Some InLine else (if begins_with_byte 42 cs then Some Opening else None)) else None)
step_of InLine c cs = Some (if c == 10 then Between else InLine)
step_of Opening c cs = Some InBlock
step_of InBlock c cs = Some (if c == 42 && begins_with_byte 47 cs then Closing else InBlock)
step_of Closing c cs = Some Between

-- a text may end there
abbrev pub is_gap_closed : Gap → Bool
is_gap_closed Between = true
is_gap_closed InLine = true
is_gap_closed Opening = false
is_gap_closed InBlock = false
is_gap_closed Closing = false

-- the text from the comment on that opens here, or else from the one before
abbrev pub opened_at : Gap → List ℕ → List ℕ → List ℕ
opened_at Opening here before = here
opened_at Between here before = before
opened_at InLine here before = before
opened_at InBlock here before = before
opened_at Closing here before = before

-- what is left behind blanks and comments, for one who stands there in a comment that was opened at some text; or, where
-- it isn't closed, that text
abbrev pub left_behind_gap : Gap → List ℕ → List ℕ → Result (List ℕ) (List ℕ)
left_behind_gap gap opened [] = if is_gap_closed gap then Ok [] else Err opened
left_behind_gap gap opened (c ∷ cs) = elim (step_of gap c cs) [
  | Some next ↦ left_behind_gap next (opened_at next (c ∷ cs) opened) cs
  | None ↦ Ok (c ∷ cs)
]

abbrev pub left_behind : List ℕ → Result (List ℕ) (List ℕ)
left_behind text = left_behind_gap Between text text

-- an answer with these parts
abbrev pub GivesTokensExactly : {X Y E F : Type 0} → (X → Y) → (E → F) → Result X E → Result Y F → Type 0
GivesTokensExactly view fault (Ok x) told = told ≡ Ok (view x)
GivesTokensExactly view fault (Err e) told = told ≡ Err (fault e)
