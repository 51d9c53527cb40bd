-- Lumps without where they lie in memory.
use Rattle.std.specs.Prelude.{List, map}
use Rattle.wad_dir.specs.Wad.{WadLump}
use Rattle.wad_dir.specs.declared.wad_rewrite.lumps.OutputLump.{OutputLump}

abbrev pub view : OutputLump → WadLump
view lump = record { name = lump.name; bytes = lump.bytes.now }

abbrev pub views : List OutputLump → List WadLump
views lumps = map view lumps
