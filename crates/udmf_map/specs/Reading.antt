-- What a text tells: the records of its blocks in order, or the first fault by its byte.
use Rattle.std.specs.Prelude.{◌≡◌, ℕ, ◌+◌, min, Bool, true, false, List, [], ◌∷◌, ◌++◌, length, Option, Some, None, Result, Ok, Err, codes, if◌then◌else◌, ℤ, ⊤}
use Rattle.udmf_map.specs.declared.blocks.Vertex.{Vertex}
use Rattle.udmf_map.specs.declared.blocks.Linedef.{Linedef}
use Rattle.udmf_map.specs.declared.blocks.Block.{Block}
use Rattle.udmf_map.specs.declared.blocks.Block.TheVariants as blocks
use Rattle.udmf_map.specs.declared.reading.Records.{Records}
use Rattle.udmf_map.specs.declared.reading.Namespace.{Namespace}
use Rattle.udmf_map.specs.declared.reading.Namespace.TheVariants as names
use Rattle.udmf_map.specs.declared.faults.TextFault.{TextFault}
use Rattle.udmf_map.specs.declared.faults.TextFault.TheVariants as faults
use Rattle.udmf_text.specs.Parts.{GivenBytes, PartBytes, Item, Opens, Gives, Closes}
use Rattle.udmf_text.specs.Told.{PlacedPart, told_of_text}
use Rattle.udmf_map.specs.Values.{is_word}
use Rattle.udmf_map.specs.Blocks.{block_named, block_with}

-- what has been read: whether an item has begun, the namespace that is given, the block that is open, and the records of
-- the blocks that are closed
pub record Read : Type 0 where
  pub begun : Bool
  pub namespace : Option Namespace
  pub block : Option Block
  pub vertices : List Vertex
  pub lines : List Linedef
  pub sides : List ℤ
  pub sectors : ℕ

abbrev pub nothing_read : Read
nothing_read = record { begun = false; namespace = None; block = None; vertices = []; lines = []; sides = []; sectors = 0 }

abbrev pub namespace_of : List ℕ → Option Namespace
namespace_of word =
    if is_word word (codes "doom") then Some names.Doom
    else (if is_word word (codes "heretic") then Some names.Heretic
    else (if is_word word (codes "strife") then Some names.Strife
    else (if is_word word (codes "hexen") then Some names.Hexen
    else (if is_word word (codes "zdoom") then Some names.Zdoom
    else (if is_word word (codes "dsda") then Some names.Dsda
    else None)))))

-- the name of the first item is `namespace`, and no other one's
abbrev pub item_read : Read → ℕ → List ℕ → Result Read TextFault
item_read r at name =
    if is_word name (codes "namespace")
    then (if r.begun then Err (faults.Namespace at) else Ok (record r { begun = true }))
    else (if r.begun then Ok (record r { begun = true }) else Err (faults.Namespace at))

-- a block of that name has no place
abbrev pub opens_read : Read → ℕ → List ℕ → Result Read TextFault
opens_read r at name = if is_word name (codes "namespace") then Err (faults.Text at) else Ok (record r { block = Some (block_named name) })

-- outside of blocks only the namespace is read, a string that names one of these
abbrev pub outside_read : Read → ℕ → GivenBytes → Result Read TextFault
outside_read r at g =
    if is_word g.key (codes "namespace")
    then (if g.quoted then (elim (namespace_of g.value) [
      | Some n ↦ Ok (record r { namespace = Some n })
      | None ↦ Err (faults.Namespace at)
    ]) else Err (faults.Value at))
    else Ok r

abbrev pub inside_read : Read → Block → ℕ → GivenBytes → Result Read TextFault
inside_read r b at g = elim (block_with b g) [
  | Some more ↦ Ok (record r { block = Some more })
  | None ↦ Err (faults.Value at)
]

abbrev pub gives_read : Read → ℕ → GivenBytes → Result Read TextFault
gives_read r at g = elim r.block [
  | Some b ↦ inside_read r b at g
  | None ↦ outside_read r at g
]

-- one sector more; they are counted up to 65,536, more than a map may have
abbrev pub counted : ℕ → ℕ
counted n = min (n + 1) 65536

-- the block that is closed is the next record of its kind
abbrev pub kept : Read → Option Block → Read
kept r None = r
kept r (Some (blocks.Vertex v)) = record r { vertices = r.vertices ++ (v ∷ []) }
kept r (Some (blocks.Linedef l)) = record r { lines = r.lines ++ (l ∷ []) }
kept r (Some (blocks.Sidedef sector)) = record r { sides = r.sides ++ (sector ∷ []) }
kept r (Some blocks.Sector) = record r { sectors = counted r.sectors }
kept r (Some blocks.Other) = r

abbrev pub closes_read : Read → Read
closes_read r = record (kept r r.block) { block = None }

abbrev pub part_read : Read → ℕ → PartBytes → Result Read TextFault
part_read r at (Item name) = item_read r at name
part_read r at (Opens name) = opens_read r at name
part_read r at (Gives g) = gives_read r at g
part_read r at Closes = Ok (closes_read r)

-- a text, so long, has an item at least, and no fault
abbrev pub ended : ℕ → Read → Option ℕ → Result Read TextFault
ended total r (Some at) = Err (faults.Text at)
ended total r None = if r.begun then Ok r else Err (faults.Namespace total)

-- part by part, and the first fault that is met
abbrev pub parts_read : ℕ → Read → List PlacedPart → Option ℕ → Result Read TextFault
parts_read total r [] fault = ended total r fault
parts_read total r (p ∷ ps) fault = elim (part_read r p.at p.part) [
  | Ok more ↦ parts_read total more ps fault
  | Err e ↦ Err e
]

-- what a text tells
abbrev pub text_read : List ℕ → Result Read TextFault
text_read text = parts_read (length text) nothing_read (told_of_text text).parts (told_of_text text).fault

-- the answer of a call is this one, unless memory ran out
abbrev pub FailsText : {Y : Type 0} → TextFault → Result Y TextFault → Type 0
FailsText (faults.Memory _) told = ⊤
FailsText e told = told ≡ Err e

abbrev pub AnswersText : {X Y : Type 0} → (X → Y) → Result X TextFault → Result Y TextFault → Type 0
AnswersText view (Ok x) told = told ≡ Ok (view x)
AnswersText view (Err e) told = FailsText e told

abbrev pub read_of : Records → Read
read_of r = record { begun = r.begun; namespace = r.namespace; block = r.block; vertices = r.vertices.items; lines = r.lines.items; sides = r.sides.items; sectors = r.sectors }
