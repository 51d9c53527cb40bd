-- What a shelf shows, and what one call on it does.
use Rattle.std.specs.Prelude.{◌≡◌, ◌⊎◌, ◌↔◌, ℕ, ◌-◌, ◌^◌, ◌<◌, ◌≤◌, nat_lt, Bool, true, false, List, [], ◌∷◌, ◌++◌, length, take, drop, Option, Some, None, Result, Ok, Err, if◌then◌else◌, ⊤, unwrap_or}
use Rattle.std.specs.Str.{bytes_eq}
use Rattle.std.specs.Option.{option_map}
use Rattle.sight_names.specs.declared.faults.ShelfFault.{ShelfFault}
use Rattle.sight_names.specs.declared.faults.ShelfFault.TheVariants as shelf
use Rattle.sight_names.specs.declared.faults.FetchFault.{FetchFault}
use Rattle.sight_names.specs.declared.faults.FetchFault.TheVariants as fetch
use Rattle.shelf_io.specs.declared.shelf.SameFault.{SameFault}
use Rattle.shelf_io.specs.declared.shelf.SameFault.TheVariants as same

-- the bytes that stand under each name
abbrev pub Files : Type 0
Files = List ℕ → Option (List ℕ)

-- these files, with other bytes under one name
abbrev pub put : Files → List ℕ → List ℕ → Files
put files name bytes q = if bytes_eq name q then Some bytes else files q

-- the bytes under a name, none where it is missing
abbrev pub bytes_under : Files → List ℕ → List ℕ
bytes_under files name = unwrap_or (files name) []

-- these files, with bytes added under one name
abbrev pub append_to : Files → List ℕ → List ℕ → Files
append_to files name bytes = put files name (bytes_under files name ++ bytes)

-- What a shelf shows: its files, where it tells them, the names that were created and haven't their places yet, and how often reads
-- failed, creates and appends failed, and names were missing.
pub record ShelfState : Type 0 where
  pub files : Option Files
  pub begun : List (List ℕ)
  pub read_faults : ℕ
  pub write_faults : ℕ
  pub absents : ℕ

-- the name is one of these
abbrev pub IsNameAmong : List ℕ → List (List ℕ) → Type 0
IsNameAmong name [] = ⊥
IsNameAmong name (first ∷ names) = (first ≡ name) ⊎ IsNameAmong name names

-- whether one of these has the name
abbrev pub is_named : {X : Type 0} → (X → List ℕ) → List X → List ℕ → Bool
is_named name_of [] name = false
is_named name_of (x ∷ xs) name = if bytes_eq (name_of x) name then true else is_named name_of xs name

-- each name that is begun now was begun before, or is one of these
pub record BeginsAmong (old new names : List (List ℕ)) : Type 0 where
  pub each : (n : List ℕ) → IsNameAmong n new → IsNameAmong n old ⊎ IsNameAmong n names

-- none of these names is begun now
pub record NoneBegun (new names : List (List ℕ)) : Type 0 where
  pub none : (n : List ℕ) → IsNameAmong n new → IsNameAmong n names → ⊥

-- A count rose when it is greater than before. The last value of a counter passes for risen.
abbrev pub Rose : ℕ → ℕ → Type 0
Rose before now = (before < now) ⊎ (now ≡ 2 ^ 64 - 1)

-- no count falls
pub record NoneFell (old new : ShelfState) : Type 0 where
  pub read_faults : old.read_faults ≤ new.read_faults
  pub write_faults : old.write_faults ≤ new.write_faults
  pub absents : old.absents ≤ new.absents

-- no count rose: a call that succeeds
pub record SameCounts (old new : ShelfState) : Type 0 where
  pub read_faults : new.read_faults ≡ old.read_faults
  pub write_faults : new.write_faults ≡ old.write_faults
  pub absents : new.absents ≡ old.absents

-- the counts of faults are as before
pub record NoFault (old new : ShelfState) : Type 0 where
  pub read_faults : new.read_faults ≡ old.read_faults
  pub write_faults : new.write_faults ≡ old.write_faults

-- No count of faults rose. One at its last value passes for risen.
pub record IsQuiet (old new : ShelfState) : Type 0 where
  pub reads : Rose old.read_faults new.read_faults → ⊥
  pub writes : Rose old.write_faults new.write_faults → ⊥

-- the first k bytes of the buffer are the file's from that place on, none only where there is no room or nothing left
pub record IsReadAt (file : List ℕ) (at : ℕ) (before after : List ℕ) (k : ℕ) : Type 0 where
  pub bytes : after ≡ take k (drop at file) ++ drop k before
  pub fits : k ≤ length (drop at file)
  pub none : (k ≡ 0) ↔ ((length before ≡ 0) ⊎ (length file ≤ at))

-- a read of told files: which bytes come, or that the name is missing
abbrev pub ReadsFile : Option (List ℕ) → ℕ → List ℕ → List ℕ → Result ℕ ShelfFault → Type 0
ReadsFile (Some file) at before after (Ok k) = IsReadAt file at before after k
ReadsFile (Some file) at before after (Err shelf.Absent) = ⊥
ReadsFile (Some file) at before after (Err shelf.Failed) = ⊤
ReadsFile None at before after (Ok k) = ⊥
ReadsFile None at before after (Err shelf.Absent) = ⊤
ReadsFile None at before after (Err shelf.Failed) = ⊥

-- each refusal of a read has its cause
abbrev pub ReadCause : ShelfState → ShelfState → Result ℕ ShelfFault → Type 0
ReadCause old new (Ok k) = SameCounts old new
ReadCause old new (Err shelf.Absent) = NoFault old new × Rose old.absents new.absents
ReadCause old new (Err shelf.Failed) = Rose old.read_faults new.read_faults

-- no answer about two names has its cause
abbrev pub SameCause : ShelfState → ShelfState → Result Bool SameFault → Type 0
SameCause old new (Ok is_one) = SameCounts old new
SameCause old new (Err same.Failed) = Rose old.read_faults new.read_faults
SameCause old new (Err (same.Memory _)) = SameCounts old new

-- The file as it is fetched, or why not, by the files alone.
abbrev pub content_of : Option (List ℕ) → ℕ → Result (List ℕ) FetchFault
content_of None limit = Err fetch.Absent
content_of (Some file) limit = if nat_lt limit (length file) then Err fetch.TooLong else Ok file

-- What was fetched is that, unless memory ran out or a read failed.
abbrev pub Fetches : {V : Type 0} → (V → List ℕ) → Result V FetchFault → Result (List ℕ) FetchFault → Type 0
Fetches view (Ok v) content = content ≡ Ok (view v)
Fetches view (Err fetch.Absent) content = content ≡ Err fetch.Absent
Fetches view (Err fetch.TooLong) content = content ≡ Err fetch.TooLong
Fetches view (Err fetch.Failed) content = ⊤
Fetches view (Err (fetch.Memory _)) content = ⊤

-- each refusal of a fetch has its cause, and no read failed where memory ran out
abbrev pub FetchCause : {V : Type 0} → ShelfState → ShelfState → Result V FetchFault → Type 0
FetchCause old new (Ok v) = SameCounts old new
FetchCause old new (Err fetch.Absent) = NoFault old new × Rose old.absents new.absents
FetchCause old new (Err fetch.Failed) = Rose old.read_faults new.read_faults
FetchCause old new (Err fetch.TooLong) = SameCounts old new
FetchCause old new (Err (fetch.Memory _)) = SameCounts old new

-- after a create that failed: as before, or empty
abbrev pub MayBeEmpty : Option Files → Option Files → List ℕ → Type 0
MayBeEmpty old new name = (new ≡ old) ⊎ (new ≡ option_map (λ files. put files name []) old)

-- after an append that failed: as before, or with a front of the piece
abbrev pub MayHaveFront : Option Files → Option Files → List ℕ → List ℕ → Type 0
MayHaveFront old new name bytes = (new ≡ old) ⊎ ((k : ℕ) × (new ≡ option_map (λ files. append_to files name (take k bytes)) old))

-- after a store that failed: as before, or a front of the bytes stands there
abbrev pub MayHoldFront : Option Files → Option Files → List ℕ → List ℕ → Type 0
MayHoldFront old new name bytes = (new ≡ old) ⊎ ((k : ℕ) × (new ≡ option_map (λ files. put files name (take k bytes)) old))
