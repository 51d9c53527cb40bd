-- The grammar of a text, over its tokens, and what it means that the parts of a text are told by it.
--
--     text  = { item }
--     item  = name "=" value ";" | name "{" { name "=" value ";" } "}"
--     value = word | string
--     name  = a word of letters, digits and "_"
use Rattle.std.specs.Prelude.{◌≡◌, ℕ, ◌-◌, ◌||◌, ◌&&◌, true, List, [], ◌∷◌, ◌++◌, map, flat_map, length, Option, Some, None, Result, Ok, Err}
use Rattle.std.specs.List.{list_all, AllByRecursion}
use Rattle.udmf_text.specs.declared.text_tokens.token.Kind.{Kind}
use Rattle.udmf_text.specs.declared.text_tokens.token.Kind.TheVariants.{Open, Close, Is, End, Word, Quoted}
use Rattle.udmf_text.specs.TextTokens.Text.{PlacedParts, first_token_of}
use Rattle.udmf_text.specs.Parts.{is_kind, is_of_name, PartBytes, Item, Opens, Gives, Closes}
use Rattle.udmf_text.specs.Told.{PlacedPart, told_of_text}

-- ---- tokens

abbrev pub IsMark : Kind → PlacedParts → Type 0
IsMark kind t = is_kind t.token.kind kind ≡ true

abbrev pub IsName : PlacedParts → Type 0
IsName t = (is_kind t.token.kind Word && list_all is_of_name t.token.bytes) ≡ true

abbrev pub IsValue : PlacedParts → Type 0
IsValue t = (is_kind t.token.kind Word || is_kind t.token.kind Quoted) ≡ true

-- ---- the grammar

-- name "=" value ";"
pub record Assignment : Type 0 where
  pub name : PlacedParts
  pub equals : PlacedParts
  pub value : PlacedParts
  pub end : PlacedParts

pub record IsAssignment (a : Assignment) : Type 0 where
  pub name : IsName a.name
  pub equals : IsMark Is a.equals
  pub value : IsValue a.value
  pub end : IsMark End a.end

-- name "{" assignments "}"
pub record Block : Type 0 where
  pub name : PlacedParts
  pub open_brace : PlacedParts
  pub pairs : List Assignment
  pub close_brace : PlacedParts

pub record IsBlock (b : Block) : Type 0 where
  pub name : IsName b.name
  pub open_brace : IsMark Open b.open_brace
  pub pairs : AllByRecursion IsAssignment b.pairs
  pub close_brace : IsMark Close b.close_brace

pub data TextItem : Type 0 where
  Assigned : Assignment → TextItem
  Blocked : Block → TextItem

abbrev pub IsItem : TextItem → Type 0
IsItem (Assigned a) = IsAssignment a
IsItem (Blocked b) = IsBlock b

abbrev pub assignment_tokens : Assignment → List PlacedParts
assignment_tokens a = a.name ∷ a.equals ∷ a.value ∷ a.end ∷ []

abbrev pub item_tokens : TextItem → List PlacedParts
item_tokens (Assigned a) = assignment_tokens a
item_tokens (Blocked b) = b.name ∷ b.open_brace ∷ (flat_map assignment_tokens b.pairs ++ b.close_brace ∷ [])

-- these tokens are those of items one behind the other
pub record AreItems (ts : List PlacedParts) (items : List TextItem) : Type 0 where
  pub each : AllByRecursion IsItem items
  pub spelled : ts ≡ flat_map item_tokens items

-- ---- the parts of items, in a text of so many bytes

abbrev pub at_token : ℕ → PlacedParts → PartBytes → PlacedPart
at_token total t part = record { at = total - t.left; part = part }

-- the value's part stands at the value
abbrev pub gives : ℕ → Assignment → PlacedPart
gives total a = at_token total a.value (Gives (record { key = a.name.token.bytes; quoted = is_kind a.value.token.kind Quoted; value = a.value.token.bytes }))

abbrev pub item_named : ℕ → PlacedParts → PlacedPart
item_named total name = at_token total name (Item name.token.bytes)

abbrev pub item_parts : ℕ → TextItem → List PlacedPart
item_parts total (Assigned a) = item_named total a.name ∷ gives total a ∷ []
item_parts total (Blocked b) = item_named total b.name ∷ at_token total b.open_brace (Opens b.name.token.bytes) ∷ (map (gives total) b.pairs ++ at_token total b.close_brace Closes ∷ [])

-- ---- a text and its tokens

-- these are the first tokens of a text, and `rest` is left behind them
pub data Begins (rest : List ℕ) : List ℕ → List PlacedParts → Type 0 where
  no_token : {text : List ℕ} {ts : List PlacedParts} → text ≡ rest → ts ≡ [] → Begins rest text ts
  one_token : {text : List ℕ} {ts : List PlacedParts} (t : PlacedParts) (more : List PlacedParts) → first_token_of text ≡ Ok (Some t) → ts ≡ t ∷ more → Begins rest t.token.rest more → Begins rest text ts

-- the text is items, and these are their parts
pub record IsText (text : List ℕ) (parts : List PlacedPart) : Type 0 where
  pub items : List TextItem
  pub tokens : List PlacedParts
  pub are : AreItems tokens items
  pub rest : List ℕ
  pub begins : Begins rest text tokens
  pub ends : first_token_of rest ≡ Ok None
  pub made : parts ≡ flat_map (item_parts (length text)) items

-- behind these tokens the text can't go on as it does: no token begins there, or the text ends and isn't whole, or the
-- token that comes stands there in no text
abbrev pub BreaksOff : ℕ → List PlacedParts → Result (Option PlacedParts) ℕ → ℕ → Type 0
BreaksOff total before (Err left) at = at ≡ total - left
BreaksOff total before (Ok None) at = (at ≡ total) × ((items : List TextItem) → AreItems before items → ⊥)
BreaksOff total before (Ok (Some t)) at = (at ≡ total - t.left) × ((more : List PlacedParts) (items : List TextItem) → AreItems (before ++ t ∷ more) items → ⊥)

-- the first fault of a text is at this byte: the tokens before can go on to a text whose parts begin with these, but not as
-- they do
pub record IsFault (text : List ℕ) (parts : List PlacedPart) (at : ℕ) : Type 0 where
  pub before : List PlacedParts
  pub rest : List ℕ
  pub begins : Begins rest text before
  pub more : List PlacedParts
  pub items : List TextItem
  pub fits : AreItems (before ++ more) items
  pub others : List PlacedPart
  pub made : flat_map (item_parts (length text)) items ≡ parts ++ others
  pub breaks : BreaksOff (length text) before (first_token_of rest) at

abbrev pub IsTextTold : List ℕ → List PlacedPart → Option ℕ → Type 0
IsTextTold text parts None = IsText text parts
IsTextTold text parts (Some at) = IsFault text parts at

-- a text without a fault is items, whose parts are told; and a fault is where no item goes on so
abbrev pub TellsItems : Type 0
TellsItems = (text : List ℕ) → IsTextTold text (told_of_text text).parts (told_of_text text).fault
