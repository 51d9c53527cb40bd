-- What is read of the blocks of a text.
use Rattle.std.specs.Prelude.{ℕ, false, List, Option, Some, option_map, codes, if◌then◌else◌, ℤ, pos, neg_ℤ}
use Rattle.udmf_map.specs.declared.values.Coordinate.TheVariants.{Missing}
use Rattle.udmf_map.specs.declared.blocks.Vertex.{Vertex}
use Rattle.udmf_map.specs.declared.blocks.Linedef.{Linedef}
use Rattle.udmf_map.specs.declared.blocks.Block.{Block}
use Rattle.udmf_map.specs.declared.blocks.Block.TheVariants as blocks
use Rattle.udmf_text.specs.Parts.{GivenBytes}
use Rattle.udmf_map.specs.Values.{is_word, whole_given, truth_given, coordinate_given}

-- what a block tells in which no key stands; -1 for a number that isn't there

abbrev pub empty_vertex : Vertex
empty_vertex = record { x = Missing; y = Missing }

abbrev pub empty_linedef : Linedef
empty_linedef = record { first = neg_ℤ (pos 1); second = neg_ℤ (pos 1); front = neg_ℤ (pos 1); back = neg_ℤ (pos 1); two_sided = false; blocks_sound = false; special = pos 0 }

-- an empty block of the kind that an item's name says
abbrev pub block_named : List ℕ → Block
block_named name =
    if is_word name (codes "vertex") then blocks.Vertex empty_vertex
    else (if is_word name (codes "linedef") then blocks.Linedef empty_linedef
    else (if is_word name (codes "sidedef") then blocks.Sidedef (neg_ℤ (pos 1))
    else (if is_word name (codes "sector") then blocks.Sector
    else blocks.Other)))

-- a key that is given a value, in a block of each kind: what the block tells then; None where the value isn't of the kind
-- that the key takes. So where a key stands twice the last one counts. Other keys take any value, and tell nothing.

abbrev pub vertex_with : Vertex → GivenBytes → Option Vertex
vertex_with v g =
    if is_word g.key (codes "x") then option_map (λ at. record v { x = at }) (coordinate_given g)
    else (if is_word g.key (codes "y") then option_map (λ at. record v { y = at }) (coordinate_given g)
    else Some v)

abbrev pub sides_with : Linedef → GivenBytes → Option Linedef
sides_with l g =
    if is_word g.key (codes "sidefront") then option_map (λ side. record l { front = side }) (whole_given g)
    else (if is_word g.key (codes "sideback") then option_map (λ side. record l { back = side }) (whole_given g)
    else (if is_word g.key (codes "twosided") then option_map (λ b. record l { two_sided = b }) (truth_given g)
    else (if is_word g.key (codes "blocksound") then option_map (λ b. record l { blocks_sound = b }) (truth_given g)
    else Some l)))

abbrev pub linedef_with : Linedef → GivenBytes → Option Linedef
linedef_with l g =
    if is_word g.key (codes "v1") then option_map (λ vertex. record l { first = vertex }) (whole_given g)
    else (if is_word g.key (codes "v2") then option_map (λ vertex. record l { second = vertex }) (whole_given g)
    else (if is_word g.key (codes "special") then option_map (λ number. record l { special = number }) (whole_given g)
    else sides_with l g))

abbrev pub sidedef_with : ℤ → GivenBytes → Option ℤ
sidedef_with sector g = if is_word g.key (codes "sector") then whole_given g else Some sector

abbrev pub block_with : Block → GivenBytes → Option Block
block_with (blocks.Vertex v) g = option_map (λ v. blocks.Vertex v) (vertex_with v g)
block_with (blocks.Linedef l) g = option_map (λ l. blocks.Linedef l) (linedef_with l g)
block_with (blocks.Sidedef sector) g = option_map (λ sector. blocks.Sidedef sector) (sidedef_with sector g)
block_with blocks.Sector g = Some blocks.Sector
block_with blocks.Other g = Some blocks.Other
