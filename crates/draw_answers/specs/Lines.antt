-- The lines that tell of pictures.
use Rattle.std.specs.Prelude.{ℕ, ◌-◌, ◌==◌, List, [], ◌++◌, codes, length, if◌then◌else◌}
use Rattle.std.specs.Fmt.{decimal}
use Rattle.std.specs.List.{count_by, range_with_len}
use Rattle.sight_names.specs.declared.names.Pair.{Pair}
use Rattle.sight_names.specs.Map.{Map}
use Rattle.sight_names.specs.Points.{lines_of}
use Rattle.reject_bits.specs.Parts.{TableParts}
use Rattle.map_answers.specs.declared.sight_status.status.Flaw.{Flaw}
use Rattle.map_answers.specs.SightStatus.Texts.{flaw_words}
use Rattle.map_answers.specs.Counts.{is_pair_set}

abbrev pub plan_line_of : List ℕ → ℕ → ℕ → List ℕ
plan_line_of name lines sectors = codes "drawn " ++ name ++ codes " lines " ++ decimal lines ++ codes " sectors " ++ decimal sectors ++ codes "\n"

-- how many lines and sectors the map has
abbrev pub plan_line : List ℕ → Map → List ℕ
plan_line name m = plan_line_of name (length (lines_of m)) m.sectors

-- how many bits of the row of sector a are set
unfoldable pub set_in_row : TableParts → ℕ → ℕ
set_in_row t a = count_by (is_pair_set t a) (range_with_len 0 t.n)

abbrev pub row_line_of : List ℕ → ℕ → ℕ → ℕ → List ℕ
row_line_of name a set clear = codes "drawn " ++ name ++ codes " row " ++ decimal a ++ codes " set " ++ decimal set ++ codes " clear " ++ decimal clear ++ codes "\n"

-- how many of them are set, and how many clear
abbrev pub row_line : List ℕ → TableParts → ℕ → List ℕ
row_line name t a = row_line_of name a (set_in_row t a) (t.n - set_in_row t a)

abbrev pub pair_front : List ℕ → Pair → List ℕ
pair_front name pair = codes "drawn " ++ name ++ codes " pair " ++ decimal pair.a ++ codes " " ++ decimal pair.b

-- a pair's line that ends with a word
abbrev pub drawing_pair_line : List ℕ → Pair → List ℕ → List ℕ
drawing_pair_line name pair word = pair_front name pair ++ word

-- out of which sector of the pair is seen; the first one goes without saying
abbrev pub of_words : Pair → ℕ → List ℕ
of_words pair sector = if sector == pair.a then [] else codes " of " ++ decimal sector

-- how many triangles that sight out of this sector enters are shown, and how many stops
abbrev pub blind_line_of : List ℕ → Pair → ℕ → ℕ → ℕ → List ℕ
blind_line_of name pair sector entered stops = pair_front name pair ++ codes " blind " ++ decimal entered ++ codes " stops " ++ decimal stops ++ of_words pair sector ++ codes "\n"

abbrev pub faultless_line : List ℕ → List ℕ
faultless_line name = codes "drawn " ++ name ++ codes " faults none\n"

-- in the words of the audit
abbrev pub flaw_line : List ℕ → Flaw → List ℕ
flaw_line name which = codes "drawn " ++ name ++ codes " faults " ++ flaw_words which
