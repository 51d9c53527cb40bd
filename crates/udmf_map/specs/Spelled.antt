-- The records of a text by its grammar: each block that is of a kind is the next record of that kind.
use Rattle.std.specs.Prelude.{◌≡◌, ℕ, List, [], ◌∷◌, flat_map, Option, Some, None, Ok, ℤ}
use Rattle.udmf_text.specs.declared.text_tokens.token.Kind.TheVariants.{Quoted}
use Rattle.udmf_text.specs.Parts.{is_kind, GivenBytes}
use Rattle.udmf_text.specs.Told.{told_of_text}
use Rattle.udmf_text.specs.Grammar.{Assignment, TextItem, Assigned, Blocked, IsText}
use Rattle.udmf_map.specs.declared.blocks.Vertex.{Vertex}
use Rattle.udmf_map.specs.declared.blocks.Linedef.{Linedef}
use Rattle.udmf_map.specs.declared.blocks.Block.{Block}
use Rattle.udmf_map.specs.declared.blocks.Block.TheVariants as blocks
use Rattle.udmf_map.specs.Values.{option_then}
use Rattle.udmf_map.specs.Blocks.{block_named, block_with}
use Rattle.udmf_map.specs.Reading.{Read, counted, text_read}

abbrev pub given_of : Assignment → GivenBytes
given_of a = record { key = a.name.token.bytes; quoted = is_kind a.value.token.kind Quoted; value = a.value.token.bytes }

-- what a block tells with these assignments, in their order
abbrev pub block_after : Block → List Assignment → Option Block
block_after b [] = Some b
block_after b (a ∷ pairs) = option_then (block_with b (given_of a)) (λ more. block_after more pairs)

-- what an item tells, if it is a block
abbrev pub block_of : TextItem → Option Block
block_of (Assigned a) = None
block_of (Blocked b) = block_after (block_named b.name.token.bytes) b.pairs

-- the records of an item, of each kind

abbrev pub vertices_in : Option Block → List Vertex
vertices_in None = []
vertices_in (Some (blocks.Vertex v)) = v ∷ []
vertices_in (Some (blocks.Linedef l)) = []
vertices_in (Some (blocks.Sidedef s)) = []
vertices_in (Some blocks.Sector) = []
vertices_in (Some blocks.Other) = []

abbrev pub lines_in : Option Block → List Linedef
lines_in None = []
lines_in (Some (blocks.Vertex v)) = []
lines_in (Some (blocks.Linedef l)) = l ∷ []
lines_in (Some (blocks.Sidedef s)) = []
lines_in (Some blocks.Sector) = []
lines_in (Some blocks.Other) = []

abbrev pub sides_in : Option Block → List ℤ
sides_in None = []
sides_in (Some (blocks.Vertex v)) = []
sides_in (Some (blocks.Linedef l)) = []
sides_in (Some (blocks.Sidedef s)) = s ∷ []
sides_in (Some blocks.Sector) = []
sides_in (Some blocks.Other) = []

-- how many sectors an item is, behind so many
abbrev pub sectors_behind : ℕ → Option Block → ℕ
sectors_behind n None = n
sectors_behind n (Some (blocks.Vertex v)) = n
sectors_behind n (Some (blocks.Linedef l)) = n
sectors_behind n (Some (blocks.Sidedef s)) = n
sectors_behind n (Some blocks.Sector) = counted n
sectors_behind n (Some blocks.Other) = n

abbrev pub sectors_of : ℕ → List TextItem → ℕ
sectors_of n [] = n
sectors_of n (i ∷ items) = sectors_of (sectors_behind n (block_of i)) items

pub record AreRecords (items : List TextItem) (r : Read) : Type 0 where
  pub vertices : r.vertices ≡ flat_map (λ i. vertices_in (block_of i)) items
  pub lines : r.lines ≡ flat_map (λ i. lines_in (block_of i)) items
  pub sides : r.sides ≡ flat_map (λ i. sides_in (block_of i)) items
  pub sectors : r.sectors ≡ sectors_of 0 items

-- a text that is read has the records of its blocks
abbrev pub ReadsBlocks : Type 0
ReadsBlocks = (text : List ℕ) (r : Read) → text_read text ≡ Ok r → (t : IsText text (told_of_text text).parts) × AreRecords t.items r
