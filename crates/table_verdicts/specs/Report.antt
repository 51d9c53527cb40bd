-- What the report says of each map, and the totals.
use Rattle.std.specs.Prelude.{ℕ, List, ◌++◌, Option, Some, None, Result, Ok, Err, codes}
use Rattle.std.specs.Fmt.{decimal}
use Rattle.std.specs.List.{flat_map}
use Rattle.std.specs.Str.{trim_end}
use Rattle.sight_names.specs.declared.names.Ray.{Ray}
use Rattle.wad_dir.specs.AllMaps.Names.{name_before_nul}
use Rattle.map_answers.specs.declared.sight_status.status.Status.{Status}
use Rattle.map_answers.specs.SightStatus.Texts.{reason_words}
use Rattle.pair_answer.specs.WhyAnswers.Lines.{ray_as_words}
use Rattle.row_spelling.specs.declared.Spelling.{Spelling}
use Rattle.row_spelling.specs.declared.Spelling.TheVariants as spelling
use Rattle.row_spelling.specs.Quoted.{quoted}
use Rattle.table_verdicts.specs.declared.verdict.FirstWrong.{FirstWrong}
use Rattle.table_verdicts.specs.declared.verdict.Shown.{Shown}
use Rattle.table_verdicts.specs.declared.verdict.Shown.TheVariants as shown
use Rattle.table_verdicts.specs.declared.verdict.Verdict.{Verdict}
use Rattle.table_verdicts.specs.declared.verdict.Verdict.TheVariants as verdict
use Rattle.table_verdicts.specs.declared.verdict.MapVerdict.{MapVerdict}

abbrev pub shown_words : Shown → List ℕ
shown_words (shown.Ray ray) = codes " by " ++ ray_as_words ray
shown_words shown.Touch = codes " touch"

abbrev pub pair_words : FirstWrong → List ℕ
pair_words first = codes " first " ++ decimal first.pair.a ++ codes " " ++ decimal first.pair.b

abbrev pub first_words : Option FirstWrong → List ℕ
first_words (Some first) = pair_words first ++ shown_words first.by
first_words None = codes ""

abbrev pub counts_words : ℕ → ℕ → List ℕ
counts_words wrong missing = codes " wrong " ++ decimal wrong ++ codes " missing " ++ decimal missing

abbrev pub short_words : ℕ → ℕ → List ℕ
short_words found expected = codes " short " ++ decimal found ++ codes " of " ++ decimal expected ++ codes "\n"

abbrev pub said_words : Result Verdict Status → List ℕ
said_words (Ok (verdict.Short found expected)) = short_words found expected
said_words (Ok (verdict.Judged findings)) = counts_words findings.wrong findings.missing ++ first_words findings.first ++ codes "\n"
said_words (Err refusal) = codes " refused " ++ reason_words refusal

-- one line: the name, and what is said of its REJECT
abbrev pub verdict_line : MapVerdict → List ℕ
verdict_line v = name_before_nul v.name ++ said_words v.said

-- ---- the same as a JSON object, whose members are named by the words of the line

abbrev pub ray_json : Ray → List ℕ
ray_json ray = codes "\"" ++ ray_as_words ray ++ codes "\""

abbrev pub shown_json : Shown → List ℕ
shown_json (shown.Ray ray) = ray_json ray
shown_json shown.Touch = codes "\"touch\""

abbrev pub pair_json : FirstWrong → List ℕ
pair_json first = codes ",\"first\":[" ++ decimal first.pair.a ++ codes "," ++ decimal first.pair.b ++ codes "],\"by\":"

abbrev pub first_json : Option FirstWrong → List ℕ
first_json (Some first) = pair_json first ++ shown_json first.by
first_json None = codes ""

abbrev pub counts_json : ℕ → ℕ → List ℕ
counts_json wrong missing = codes ",\"wrong\":" ++ decimal wrong ++ codes ",\"missing\":" ++ decimal missing

abbrev pub short_json : ℕ → ℕ → List ℕ
short_json found expected = codes ",\"short\":" ++ decimal found ++ codes ",\"of\":" ++ decimal expected

-- why a map is refused, without the end of that line
abbrev pub refused_json : Status → List ℕ
refused_json refusal = codes ",\"refused\":" ++ quoted (trim_end (reason_words refusal))

abbrev pub said_json : Result Verdict Status → List ℕ
said_json (Ok (verdict.Short found expected)) = short_json found expected
said_json (Ok (verdict.Judged findings)) = counts_json findings.wrong findings.missing ++ first_json findings.first
said_json (Err refusal) = refused_json refusal

abbrev pub verdict_json : MapVerdict → List ℕ
verdict_json v = codes "{\"map\":" ++ quoted (name_before_nul v.name) ++ said_json v.said ++ codes "}\n"

-- ---- the report

-- one line in this spelling
abbrev pub verdict_row : Spelling → MapVerdict → List ℕ
verdict_row spelling.Text v = verdict_line v
verdict_row spelling.Json v = verdict_json v

-- one line a map
abbrev pub verdicts_report : Spelling → List MapVerdict → List ℕ
verdicts_report spelled verdicts = flat_map (verdict_row spelled) verdicts
