-- Values of the code as plain data.
use Rattle.std.specs.Prelude.{◌+◌, ◌≤◌, ◌<◌, All, length}
use Rattle.std.specs.Option.{ForSome}
use Rattle.sight_names.specs.Map.{map_of}
use Rattle.wad_dir.specs.Wad.{file_of}
use Rattle.map_answers.specs.declared.input.Input.{Input}
use Rattle.map_answers.specs.Input.{LocatedMap}

abbrev pub located_map : Input → LocatedMap
located_map input = record { wad = file_of input.bytes.items input.wad; spot = input.spot; map = map_of input.plan }

-- each entry lies within the bytes, and the places of the map's SECTORS and REJECT are places of the directory
pub record IsInputWhole (input : Input) : Type 0 where
  pub inside : All (λ entry. entry.at + entry.size ≤ length input.bytes.items) input.wad.entries
  pub sectors : input.spot.sectors < length input.wad.entries
  pub reject : ForSome input.spot.reject (λ k. k < length input.wad.entries)
