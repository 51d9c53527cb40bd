-- What the order `audit` says of a map that was found. It writes nothing.
use Rattle.std.specs.Prelude.{◌≡◌, ℕ, List, ◌++◌, length, filter_map, Option, Result, Ok, codes}
use Rattle.std.specs.Fmt.{decimal}
use Rattle.sight_names.specs.Map.{Map}
use Rattle.sight_names.specs.Points.{lines_of, points_of}
use Rattle.map_answers.specs.declared.sight_status.status.Status.{Status}
use Rattle.map_answers.specs.SightStatus.Answer.{Answer, only_line}
use Rattle.map_answers.specs.Groups.{MapGroups, OnAudited}

-- how many lines, points and sectors the map has, and how many triangles are on faces that have a sector
abbrev pub sound_line : Map → List (Option ℕ) → List ℕ
sound_line m labels = codes "sound lines " ++ decimal (length (lines_of m)) ++ codes " points " ++ decimal (length (points_of m)) ++ codes " sectors " ++ decimal m.sectors
    ++ codes " triangles " ++ decimal (length (filter_map (λ label. label) labels)) ++ codes "\n"

-- the groups of a map call for its line
abbrev pub SoundCall : Map → MapGroups → Result Answer Status → Type 0
SoundCall m g answer = answer ≡ Ok (only_line (sound_line m g.labels))

-- the answers that `audit` calls for
abbrev pub AuditCalls : Map → Result Answer Status → Type 0
AuditCalls m answer = OnAudited m (SoundCall m) answer
