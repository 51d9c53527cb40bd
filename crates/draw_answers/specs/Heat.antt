-- What a picture of how much each sector may see by a table calls for.
use Rattle.std.specs.Prelude.{◌≡◌, ℕ, ◌-◌, List, ◌++◌, Result, Ok, codes, map}
use Rattle.std.specs.Fmt.{decimal}
use Rattle.sight_names.specs.Map.{Map}
use Rattle.reject_bits.specs.Parts.{TableParts}
use Rattle.map_answers.specs.declared.sight_status.status.Status.{Status}
use Rattle.map_answers.specs.SightStatus.Answer.{Answer}
use Rattle.map_picture.specs.Bytes.{svg_of}
use Rattle.map_picture.specs.Picture.{NamedParts, heat_picture, most_of}
use Rattle.map_answers.specs.Groups.{MapGroups, OnAudited}
use Rattle.draw_answers.specs.Drawn.{Drawing, one_picture}
use Rattle.draw_answers.specs.Lines.{set_in_row}

-- how many bits of the row of sector a are clear: so many sectors it may see
abbrev pub clear_in_row : TableParts → ℕ → ℕ
clear_in_row t a = t.n - set_in_row t a

-- the most that one of these sectors may see
abbrev pub most_seen : TableParts → List ℕ → ℕ
most_seen t names = most_of (map (clear_in_row t) names)

-- .. of each group
abbrev pub seen_by : TableParts → List (List ℕ) → List ℕ
seen_by t groups = map (most_seen t) groups

-- the most that any sector with a face may see
abbrev pub heat_line_of : List ℕ → ℕ → List ℕ
heat_line_of name most = codes "drawn " ++ name ++ codes " heat most " ++ decimal most ++ codes "\n"

abbrev pub heat_drawing : NamedParts → Map → TableParts → MapGroups → Drawing
heat_drawing name m t g = record { bytes = svg_of m (heat_picture name m g.groups g.triangles g.labels (seen_by t g.groups)); line = heat_line_of name.text (most_of (seen_by t g.groups)) }

-- over the groups of a map
abbrev pub HeatCall : NamedParts → List ℕ → Map → TableParts → MapGroups → Result Answer Status → Type 0
HeatCall name out m t g answer = answer ≡ Ok (one_picture out (heat_drawing name m t g))

-- the answers that it calls for
abbrev pub DrawHeatCalls : NamedParts → List ℕ → TableParts → Map → Result Answer Status → Type 0
DrawHeatCalls name out t m answer = OnAudited m (HeatCall name out m t) answer
