-- What the types that a refusal's line names are printed as.
use Rattle.std.specs.Prelude.{ℕ, List, ◌++◌, Bool, true, false, codes}
use Rattle.std.specs.Fmt.{decimal}
use Rattle.sight_names.specs.declared.names.Side.{Side}
use Rattle.sight_names.specs.declared.faults.Lump.{Lump}
use Rattle.sight_names.specs.declared.faults.Lump.TheVariants.{Linedefs, Sidedefs, Vertexes, Sectors}

-- a lump by its name in the directory
abbrev pub lump_text : Lump → List ℕ
lump_text Linedefs = codes "LINEDEFS"
lump_text Sidedefs = codes "SIDEDEFS"
lump_text Vertexes = codes "VERTEXES"
lump_text Sectors = codes "SECTORS"

-- a side by its line's number and R or L, as in `12R`
abbrev pub hand : Bool → List ℕ
hand true = codes "L"
hand false = codes "R"

abbrev pub side_text : Side → List ℕ
side_text side = decimal side.line ++ hand side.left
