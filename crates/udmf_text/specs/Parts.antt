-- The parts of a text, one after the other: the name of an item, a value that a name is given, the braces of a block. This
-- is the grammar, token by token, with the first token that can't stand where it does.
--
--     text = { item }
--     item = name "=" value ";" | name "{" { name "=" value ";" } "}"
use Rattle.std.specs.Prelude.{ℕ, ◌==◌, Bool, ◌&&◌, ◌||◌, List, Option, Some, None, Result, Ok, Err, if◌then◌else◌}
use Rattle.std.specs.Char.{is_ascii_alphanumeric}
use Rattle.std.specs.List.{list_all}
use Rattle.udmf_text.specs.declared.text_tokens.token.Kind.{Kind}
use Rattle.udmf_text.specs.declared.text_tokens.token.Kind.TheVariants.{Open, Close, Is, End, Word, Quoted}
use Rattle.udmf_text.specs.declared.parts.Given.{Given}
use Rattle.udmf_text.specs.declared.parts.Part.{Part}
use Rattle.udmf_text.specs.declared.parts.Part.TheVariants as parts
use Rattle.udmf_text.specs.declared.parts.Stage.{Stage}
use Rattle.udmf_text.specs.declared.parts.Stage.TheVariants as stages
use Rattle.udmf_text.specs.declared.parts.Found.{Found}
use Rattle.udmf_text.specs.TextTokens.Text.{PlacedParts, first_token_of}

-- ---- what is read, its bytes in place of what refers to them

-- a name or a key, and the value that it is given: the bytes of a word, or those between the quotes of a string
pub record GivenBytes : Type 0 where
  pub key : List ℕ
  pub quoted : Bool
  pub value : List ℕ

pub data PartBytes : Type 0 where
  -- the name of an item
  Item : List ℕ → PartBytes
  -- the brace that opens the block of the item of this name
  Opens : List ℕ → PartBytes
  -- a value
  Gives : GivenBytes → PartBytes
  -- the brace that closes the block
  Closes : PartBytes

-- where one stands behind a part
pub data StageBytes : Type 0 where
  -- before an item, or at the end
  Outside : StageBytes
  -- behind the name of an item
  Behind : List ℕ → StageBytes
  -- behind a value, before an item or the end
  Valued : StageBytes
  -- in a block, before a key or the end of the block
  Inside : StageBytes
  -- behind a value in a block
  ValuedInside : StageBytes

-- a part, how many bytes of the text there are from its token on, and what is left behind this, with where one stands there
pub record FoundBytes : Type 0 where
  pub left : ℕ
  pub part : PartBytes
  pub stage : StageBytes
  pub rest : List ℕ

abbrev pub given_bytes : Given → GivenBytes
given_bytes g = record { key = g.key.now; quoted = g.quoted; value = g.value.now }

abbrev pub part_bytes : Part → PartBytes
part_bytes (parts.Item name) = Item name.now
part_bytes (parts.Opens name) = Opens name.now
part_bytes (parts.Gives g) = Gives (given_bytes g)
part_bytes parts.Closes = Closes

abbrev pub stage_bytes : Stage → StageBytes
stage_bytes stages.Outside = Outside
stage_bytes (stages.Behind name) = Behind name.now
stage_bytes stages.Valued = Valued
stage_bytes stages.Inside = Inside
stage_bytes stages.ValuedInside = ValuedInside

abbrev pub found_bytes : Found → FoundBytes
found_bytes f = record { left = f.left; part = part_bytes f.part; stage = stage_bytes f.stage; rest = f.rest.now }

-- ---- tokens

-- the next step works on what the step before it gave; the first fault ends it all
infixl 10 ◌>>=◌
abbrev pub ◌>>=◌ : {A B : Type 0} → Result A ℕ → (A → Result B ℕ) → Result B ℕ
(Ok x) >>= f = f x
(Err left) >>= f = Err left

-- the value, where the test holds, or else the fault
abbrev pub passed : {X : Type 0} → Bool → ℕ → X → Result X ℕ
passed b left x = if b then Ok x else Err left

abbrev pub is_there : {X : Type 0} → Option X → Result X ℕ
is_there None = Err 0
is_there (Some x) = Ok x

-- the first token of a text, which mustn't end before it
unfoldable pub token_at : List ℕ → Result PlacedParts ℕ
token_at text = do
  found_part ← first_token_of text
  is_there found_part

abbrev pub rank : Kind → ℕ
rank Open = 0
rank Close = 1
rank Is = 2
rank End = 3
rank Word = 4
rank Quoted = 5

abbrev pub is_kind : Kind → Kind → Bool
is_kind a b = rank a == rank b

-- a letter, a digit or an underscore
abbrev pub is_of_name : ℕ → Bool
is_of_name c = is_ascii_alphanumeric c || c == 95

-- the name that a token is: a word of such bytes
abbrev pub name_in_token : PlacedParts → Result (List ℕ) ℕ
name_in_token t = passed (is_kind t.token.kind Word && list_all is_of_name t.token.bytes) t.left t.token.bytes

-- what is left behind a token of one kind
unfoldable pub behind_mark : Kind → List ℕ → Result (List ℕ) ℕ
behind_mark kind text = do
  t ← token_at text
  passed (is_kind t.token.kind kind) t.left t.token.rest

-- ---- parts

abbrev pub found_part : ℕ → PartBytes → StageBytes → List ℕ → FoundBytes
found_part left part stage rest = record { left = left; part = part; stage = stage; rest = rest }

-- behind the equals sign a value, a word or a string
unfoldable pub value_at : List ℕ → StageBytes → List ℕ → Result FoundBytes ℕ
value_at key stage text = do
  t ← token_at text
  passed (is_kind t.token.kind Word || is_kind t.token.kind Quoted) t.left (found_part t.left (Gives (record { key = key; quoted = is_kind t.token.kind Quoted; value = t.token.bytes })) stage t.token.rest)

-- outside of blocks the name of an item, or the end
unfoldable pub item_at : List ℕ → Result (Option FoundBytes) ℕ
item_at text = do
  t ← first_token_of text
  elim t [
    | None ↦ Ok None
    | Some t ↦ do
      name ← name_in_token t
      Ok (Some (found_part t.left (Item name) (Behind name) t.token.rest))
  ]

-- behind the name of an item a brace, or an equals sign and a value
unfoldable pub behind_name : List ℕ → List ℕ → Result FoundBytes ℕ
behind_name name text = do
  t ← token_at text
  if is_kind t.token.kind Open then Ok (found_part t.left (Opens name) Inside t.token.rest)
      else (if is_kind t.token.kind Is then value_at name Valued t.token.rest else Err t.left)

-- in a block its end, or a key, an equals sign and a value
unfoldable pub inside_at : List ℕ → Result FoundBytes ℕ
inside_at text = do
  t ← token_at text
  if is_kind t.token.kind Close then Ok (found_part t.left Closes Outside t.token.rest)
      else (do
        key ← name_in_token t
        more ← behind_mark Is t.token.rest
        value_at key ValuedInside more)

-- a part where there has to be one
abbrev pub surely : Result FoundBytes ℕ → Result (Option FoundBytes) ℕ
surely (Ok f) = Ok (Some f)
surely (Err left) = Err left

-- the next part of a text for one who stands there, None where the text ends; or how many bytes there are from the first
-- fault on, 0 where an item isn't whole
abbrev pub part_at : StageBytes → List ℕ → Result (Option FoundBytes) ℕ
part_at Outside text = item_at text
part_at (Behind name) text = surely (behind_name name text)
part_at Valued text = do
  more ← behind_mark End text
  item_at more
part_at Inside text = surely (inside_at text)
part_at ValuedInside text = do
  more ← behind_mark End text
  surely (inside_at more)
