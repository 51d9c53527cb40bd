-- The map of a name in the file of a name, by the limits that are asked for.
use Rattle.std.specs.Prelude.{ℕ, List, Result, Ok, Err}
use Rattle.sight_names.specs.declared.limits.TheConstants.{MOST_BYTES}
use Rattle.sight_names.specs.declared.faults.FetchFault.{FetchFault}
use Rattle.sight_names.specs.declared.faults.FetchFault.TheVariants as fetch
use Rattle.shelf_io.specs.Shelf.{Files, content_of}
use Rattle.order_words.specs.declared.order.Source.{Source}
use Rattle.map_answers.specs.declared.sight_status.status.Bound.TheVariants as bound
use Rattle.map_answers.specs.declared.sight_status.status.Role.TheVariants as role
use Rattle.map_answers.specs.declared.sight_status.status.Status.{Status}
use Rattle.map_answers.specs.declared.sight_status.status.Status.TheVariants as status
use Rattle.map_answers.specs.SightStatus.Answer.{◌>>=◌}
use Rattle.map_answers.specs.Input.{LocatedMap, found_in}

-- the bytes of a WAD file, or the status of the fault of its fetch
abbrev pub of_fetch : Result (List ℕ) FetchFault → Result (List ℕ) Status
of_fetch (Ok bytes) = Ok bytes
of_fetch (Err fetch.Absent) = Err (status.NoFile role.Wad)
of_fetch (Err fetch.Failed) = Err (status.ReadFault role.Wad)
of_fetch (Err fetch.TooLong) = Err (status.Limit bound.WadBytes)
of_fetch (Err (fetch.Memory _)) = Err (status.Memory tt)

-- the map of this name in the file that an order reads
unfoldable pub found_of : Source → List ℕ → Files → Result LocatedMap Status
found_of wad name files = do
  bytes ← of_fetch (content_of (files wad.file) MOST_BYTES)
  found_in wad.large name bytes
