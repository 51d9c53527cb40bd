-- Strings and words, as a grammar.
use Rattle.std.specs.Prelude.{◌≡◌, ◌≢◌, ◌↔◌, ℕ, Bool, true, false, List, [], ◌∷◌, ◌++◌, Some, ⊤}
use Rattle.udmf_text.specs.declared.text_tokens.token.Kind.TheVariants as kind
use Rattle.udmf_text.specs.TextTokens.Tokens.{TokenParts, ends_word, quoted_of, word_token_of}

-- bytes as they may stand between quotes: none is a quote or a backslash, but one behind a backslash, which goes with it
pub data IsQuoted : List ℕ → Type 0 where
  nothing : {text : List ℕ} → text ≡ [] → IsQuoted text
  plain : {text : List ℕ} (c : ℕ) (more : List ℕ) → text ≡ c ∷ more → c ≢ 34 → c ≢ 92 → IsQuoted more → IsQuoted text
  escaped : {text : List ℕ} (c : ℕ) (more : List ℕ) → text ≡ 92 ∷ c ∷ more → IsQuoted more → IsQuoted text

-- a string, behind its first quote: such bytes up to a quote
pub record IsString (more : List ℕ) (t : TokenParts) : Type 0 where
  pub kind : t.kind ≡ kind.Quoted
  pub is : more ≡ t.bytes ++ 34 ∷ t.rest
  pub bytes : IsQuoted t.bytes

abbrev pub StringsEnd : Type 0
StringsEnd = (more : List ℕ) (t : TokenParts) → (quoted_of more ≡ Some t) ↔ IsString more t

-- no word ends before any of these bytes, behind which `rest` stands
abbrev pub AreInWord : List ℕ → List ℕ → Type 0
AreInWord [] rest = ⊤
AreInWord (c ∷ cs) rest = (ends_word c (cs ++ rest) ≡ false) × AreInWord cs rest

-- a word can't go on there
abbrev pub stops_word : List ℕ → Bool
stops_word [] = true
stops_word (c ∷ cs) = ends_word c cs

-- a word: a run of such bytes, one at least, that can't go on
pub record IsWord (text : List ℕ) (t : TokenParts) : Type 0 where
  pub kind : t.kind ≡ kind.Word
  pub is : text ≡ t.bytes ++ t.rest
  pub some : t.bytes ≢ []
  pub bytes : AreInWord t.bytes t.rest
  pub longest : stops_word t.rest ≡ true

abbrev pub WordsAreLongest : Type 0
WordsAreLongest = (text : List ℕ) (t : TokenParts) → (word_token_of text ≡ Some t) ↔ IsWord text t
