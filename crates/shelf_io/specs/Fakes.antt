-- What the shelf and the sink in memory show, which of their calls are to fail, and what each call does.
use Rattle.std.specs.Prelude.{◌≡◌, ℕ, suc, ◌+◌, ◌-◌, ◌^◌, ◌/◌, ◌==◌, min, Bool, true, false, List, [], ◌∷◌, ◌++◌, length, take, Option, Some, None, Result, Ok, Err, if◌then◌else◌, string_bytes, ◌⊎◌, IsErr}
use Rattle.std.specs.List.{list_any}
use Rattle.std.specs.Option.{option_map}
use Rattle.std.specs.Str.{bytes_eq}
use Rattle.sight_names.specs.declared.faults.ShelfFault.{ShelfFault}
use Rattle.sight_names.specs.declared.faults.ShelfFault.TheVariants as shelf
use Rattle.sight_names.specs.declared.names.Failed.{Failed}
use Rattle.shelf_io.specs.declared.memory.File.{File}
use Rattle.shelf_io.specs.declared.memory.Fails.{Fails}
use Rattle.shelf_io.specs.declared.memory.MemShelf.{MemShelf}
use Rattle.shelf_io.specs.declared.memory.MemSink.{MemSink}
use Rattle.shelf_io.specs.Shelf.{Files, ShelfState, Rose, append_to}
use Rattle.shelf_io.specs.Sink.{SinkState}

-- what stands under each name: the first file of that name
abbrev pub files_of : List File → Files
files_of [] name = None
files_of (file ∷ files) name = if bytes_eq (string_bytes file.name) name then Some file.bytes.items else files_of files name

-- the place of the first file of that name
abbrev pub place_in_files : List File → List ℕ → Option ℕ
place_in_files [] name = None
place_in_files (file ∷ files) name = if bytes_eq (string_bytes file.name) name then Some 0 else option_map suc (place_in_files files name)

-- the number of a call's successor, which stands still at the end of its type
abbrev pub next : ℕ → ℕ
next n = min (n + 1) (2 ^ 64 - 1)

-- the call of this number is to fail
abbrev pub is_call_listed : ℕ → List ℕ → Bool
is_call_listed call fails = list_any (λ k. k == call) fails

-- ---- the shelf

-- how many reads, creates and appends came
pub record Calls : Type 0 where
  pub reads : ℕ
  pub creates : ℕ
  pub appends : ℕ

-- the files in it
abbrev pub files_in : MemShelf → Files
files_in m = files_of m.files.items

-- what it shows: each file is in its place at once
abbrev pub shelf_of : MemShelf → ShelfState
shelf_of m = record { files = Some (files_in m); begun = []; read_faults = m.read_faults; write_faults = m.write_faults; absents = m.absents }

-- which of its calls are to fail
abbrev pub fails_of : MemShelf → Fails
fails_of m = m.fails

abbrev pub calls_of : MemShelf → Calls
calls_of m = record { reads = m.reads; creates = m.creates; appends = m.appends }

-- how often it found no memory
abbrev pub starved_of : MemShelf → ℕ
starved_of m = m.starved

-- a read fills the buffer as far as the file reaches, and fails where it is listed
abbrev pub read_answer : Bool → Option (List ℕ) → ℕ → ℕ → Result ℕ ShelfFault
read_answer listed None at room = Err shelf.Absent
read_answer true (Some file) at room = Err shelf.Failed
read_answer false (Some file) at room = Ok (min room (length file - at))

-- a create fails where it is listed, and else only for want of memory; then the files are as before
abbrev pub CreatesIn : Bool → MemShelf → MemShelf → Result (Unit {0}) Failed → Type 0
CreatesIn true old new result = IsErr result × (files_in new ≡ files_in old) × (starved_of new ≡ starved_of old)
CreatesIn false old new (Ok done) = starved_of new ≡ starved_of old
CreatesIn false old new (Err failed) = (files_in new ≡ files_in old) × Rose (starved_of old) (starved_of new)

-- An append fails where it is listed, and takes the first half of its piece. Else it fails only for want of memory,
-- and then it takes nothing.
abbrev pub AppendsIn : Bool → MemShelf → MemShelf → List ℕ → List ℕ → Result (Unit {0}) Failed → Type 0
AppendsIn true old new name bytes result = IsErr result × (((files_in new ≡ append_to (files_in old) name (take (length bytes / 2) bytes)) × (starved_of new ≡ starved_of old)) ⊎ ((files_in new ≡ files_in old) × Rose (starved_of old) (starved_of new)))
AppendsIn false old new name bytes (Ok done) = starved_of new ≡ starved_of old
AppendsIn false old new name bytes (Err failed) = (files_in new ≡ files_in old) × Rose (starved_of old) (starved_of new)

-- ---- the sink

-- the bytes in it
abbrev pub held_in : MemSink → List ℕ
held_in m = m.held.items

-- what it shows
abbrev pub sink_of : MemSink → SinkState
sink_of m = record { held = Some (held_in m); faults = m.faults }

-- which of its puts are to fail, how many came, and how often it found no memory
abbrev pub failing_puts : MemSink → List ℕ
failing_puts m = m.fails.items

abbrev pub puts_of : MemSink → ℕ
puts_of m = m.puts

abbrev pub sink_starved : MemSink → ℕ
sink_starved m = m.starved

-- a put fails as an append does
abbrev pub PutsIn : Bool → MemSink → MemSink → List ℕ → Result (Unit {0}) Failed → Type 0
PutsIn true old new bytes result = IsErr result × (((held_in new ≡ held_in old ++ take (length bytes / 2) bytes) × (sink_starved new ≡ sink_starved old)) ⊎ ((held_in new ≡ held_in old) × Rose (sink_starved old) (sink_starved new)))
PutsIn false old new bytes (Ok done) = sink_starved new ≡ sink_starved old
PutsIn false old new bytes (Err failed) = (held_in new ≡ held_in old) × Rose (sink_starved old) (sink_starved new)
