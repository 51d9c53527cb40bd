-- What the order `sound` says of a map that was found. It writes nothing, and audits nothing.
use Rattle.std.specs.Prelude.{◌≡◌, ℕ, ◌<◌, ◌≤◌, ◌⊎◌, nat_lt, if◌then◌else◌, List, [], ◌++◌, Bool, true, false, Option, Some, None, Result, Ok, Err, codes, length}
use Rattle.std.specs.Fmt.{decimal}
use Rattle.std.specs.List.{flat_map}
use Rattle.sight_names.specs.declared.names.Pair.{Pair}
use Rattle.sight_names.specs.declared.names.Side.{Side}
use Rattle.sight_names.specs.Map.{Map}
use Rattle.sight_names.specs.Noise.{AreHeardCounts, IsNoiseHeard, IsFirstNoisePath}
use Rattle.sight_names.specs.Texts.{side_text}
use Rattle.sound_reach.specs.Dampers.{dampers_of}
use Rattle.udmf_map.specs.declared.faults.TextFault.{TextFault}
use Rattle.udmf_map.specs.Lumps.{LumpBytes, lumps_of_text}
use Rattle.wad_dir.specs.Wad.{WadFile, file_of}
use Rattle.wad_dir.specs.declared.parts.MapSpot.{MapSpot}
use Rattle.map_answers.specs.declared.sight_status.status.Why.TheVariants as why
use Rattle.map_answers.specs.declared.sight_status.status.Status.{Status}
use Rattle.map_answers.specs.declared.sight_status.status.Status.TheVariants as status
use Rattle.map_answers.specs.SightStatus.Answer.{Answer, only_line}
use Rattle.map_answers.specs.SightStatus.Texts.{two}
use Rattle.map_answers.specs.declared.input.Input.{Input}
use Rattle.map_answers.specs.Input.{LocatedMap, lump_at}

-- the LINEDEFS that a text stands for
abbrev pub linedefs_in : Result LumpBytes TextFault → List ℕ
linedefs_in (Ok lumps) = lumps.linedefs
linedefs_in (Err fault) = []

abbrev pub linedefs_by : Bool → List ℕ → List ℕ
linedefs_by true bytes = linedefs_in (lumps_of_text bytes)
linedefs_by false bytes = bytes

-- for each line record whether the line blocks sound; those of a text are the ones of the LINEDEFS that it stands for
abbrev pub dampers_at : WadFile → MapSpot → List Bool
dampers_at file spot = dampers_of spot.format (linedefs_by spot.text (lump_at file spot.linedefs))

-- the lines that block sound were read, and there are as many as the map has lines
pub record HasDampers (input : Input) : Type 0 where
  pub are : input.dampers ≡ dampers_at (file_of input.bytes.items input.wad) input.spot
  pub each : length input.dampers ≡ length input.plan.lines

-- ---- the lines

abbrev pub heard_line : List ℕ → ℕ → ℕ → ℕ → List ℕ
heard_line name sectors pairs silent = codes "sound " ++ name ++ codes " sectors " ++ decimal sectors ++ codes " heard " ++ decimal pairs ++ codes " silent " ++ decimal silent ++ codes "\n"

abbrev pub side_word : Side → List ℕ
side_word s = codes " " ++ side_text s

-- the sides of a path; nothing where it has none
abbrev pub path_words : List Side → List ℕ
path_words sides = if nat_lt 0 (length sides) then codes " by" ++ flat_map side_word sides else []

abbrev pub noise_line : Pair → List Side → List ℕ
noise_line pair sides = codes "noise " ++ two pair.a pair.b ++ path_words sides ++ codes "\n"

abbrev pub no_noise_line : Pair → List ℕ
no_noise_line pair = codes "no noise " ++ two pair.a pair.b ++ codes "\n"

-- the line of a path, or of none
abbrev pub path_line : Pair → Option (List Side) → List ℕ
path_line pair (Some sides) = noise_line pair sides
path_line pair None = no_noise_line pair

-- ---- the answers

-- how many pairs of sectors hear each other, and how many don't
pub record ShowsHeard (name : List ℕ) (m : Map) (dampers : List Bool) (answer : Answer) : Type 0 where
  pub pairs : ℕ
  pub silent : ℕ
  pub are : AreHeardCounts m dampers pairs silent
  pub is : answer ≡ only_line (heard_line name m.sectors pairs silent)

-- the first of the noise paths with the fewest sides
pub record ShowsPath (m : Map) (dampers : List Bool) (pair : Pair) (answer : Answer) : Type 0 where
  pub sides : List Side
  pub first : IsFirstNoisePath m dampers pair.a pair.b sides
  pub is : answer ≡ only_line (noise_line pair sides)

-- there is no noise path
pub record ShowsSilence (m : Map) (dampers : List Bool) (pair : Pair) (answer : Answer) : Type 0 where
  pub silent : ¬ IsNoiseHeard m dampers pair.a pair.b
  pub is : answer ≡ only_line (no_noise_line pair)

-- the first number of the pair that is of no sector
abbrev pub IsMissing : Map → Pair → ℕ → Type 0
IsMissing m pair k = ((k ≡ pair.a) × (m.sectors ≤ pair.a)) ⊎ ((k ≡ pair.b) × (pair.a < m.sectors) × (m.sectors ≤ pair.b))

-- the answer that a pair calls for
abbrev pub PairCalls : Map → List Bool → Pair → Result Answer Status → Type 0
PairCalls m dampers pair (Ok answer) = (pair.a < m.sectors) × (pair.b < m.sectors) × (ShowsPath m dampers pair answer ⊎ ShowsSilence m dampers pair answer)
PairCalls m dampers pair (Err (status.No (why.NoSector k))) = IsMissing m pair k
PairCalls m dampers pair (Err other) = ⊥

-- .. and where there is none
abbrev pub CountCalls : List ℕ → Map → List Bool → Result Answer Status → Type 0
CountCalls name m dampers (Ok answer) = ShowsHeard name m dampers answer
CountCalls name m dampers (Err refusal) = ⊥

-- the answer that `sound` calls for
abbrev pub SoundCalls : List ℕ → Option Pair → LocatedMap → Result Answer Status → Type 0
SoundCalls name (Some pair) found answer = PairCalls found.map (dampers_at found.wad found.spot) pair answer
SoundCalls name None found answer = CountCalls name found.map (dampers_at found.wad found.spot) answer
