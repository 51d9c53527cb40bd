-- What a picture of a table's row calls for.
use Rattle.std.specs.Prelude.{◌≡◌, ℕ, ◌<◌, ◌≤◌, List, Result, Ok, Err}
use Rattle.sight_names.specs.Map.{Map}
use Rattle.reject_bits.specs.Parts.{TableParts}
use Rattle.map_answers.specs.declared.sight_status.status.Status.{Status}
use Rattle.map_answers.specs.declared.sight_status.status.Status.TheVariants as status
use Rattle.map_answers.specs.declared.sight_status.status.Why.TheVariants as why
use Rattle.map_answers.specs.SightStatus.Answer.{Answer}
use Rattle.map_picture.specs.Bytes.{svg_of}
use Rattle.map_picture.specs.Picture.{NamedParts, row_picture}
use Rattle.map_answers.specs.Groups.{MapGroups, OnAudited}
use Rattle.draw_answers.specs.Drawn.{Drawing, one_picture}
use Rattle.draw_answers.specs.Lines.{row_line}

abbrev pub row_drawing : NamedParts → Map → TableParts → ℕ → MapGroups → Drawing
row_drawing name m t a g = record { bytes = svg_of m (row_picture name m g.groups g.triangles g.labels t a); line = row_line name.text t a }

-- over the groups of a map; the no where there is no such sector
abbrev pub RowCall : NamedParts → List ℕ → Map → TableParts → ℕ → MapGroups → Result Answer Status → Type 0
RowCall name out m t a g (Ok answer) = (a < m.sectors) × (answer ≡ one_picture out (row_drawing name m t a g))
RowCall name out m t a g (Err (status.No (why.NoSector k))) = (k ≡ a) × (m.sectors ≤ a)
RowCall name out m t a g (Err other) = ⊥

-- the answers that it calls for
abbrev pub DrawRowCalls : NamedParts → List ℕ → TableParts → ℕ → Map → Result Answer Status → Type 0
DrawRowCalls name out t a m answer = OnAudited m (RowCall name out m t a) answer
