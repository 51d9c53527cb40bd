-- What `verify` that ended tells of the REJECT of each map, over words and files alone.
use Rattle.std.specs.Prelude.{◌≡◌, ℕ, ◌<◌, ◌≤◌, Bool, true, List, ◌++◌, length, map, Option, None, Result, Ok, Err, Some, IsOk}
use Rattle.std.specs.List.{AllByRecursion}
use Rattle.std.specs.Option.{option_map}
use Rattle.sight_names.specs.declared.names.Ask.TheVariants.{Full}
use Rattle.sight_names.specs.declared.names.Ray.{Ray}
use Rattle.sight_names.specs.Groups.{HasClosedFaces}
use Rattle.sight_names.specs.Map.{Map}
use Rattle.sight_names.specs.Ray.{IsSightRay}
use Rattle.sight_names.specs.Sees.{Sees}
use Rattle.sight_names.specs.Sound.{IsSound}
use Rattle.sight_names.specs.Table.{Rejected}
use Rattle.shelf_io.specs.Shelf.{Files, ShelfState}
use Rattle.wad_dir.specs.AllMaps.Names.{name_before_nul}
use Rattle.wad_dir.specs.Wad.{WadFile}
use Rattle.order_words.specs.declared.order.Order.TheVariants as order
use Rattle.order_words.specs.declared.order.ReportFile.{ReportFile}
use Rattle.order_words.specs.declared.order.Source.{Source}
use Rattle.map_answers.specs.declared.sight_status.status.Status.{Status}
use Rattle.map_answers.specs.Input.{map_named}
use Rattle.map_answers.specs.SightStatus.Status.{done_as}
use Rattle.pair_answer.specs.Answer.{IsAnswerFor}
use Rattle.table_verdicts.specs.declared.verdict.Findings.{Findings}
use Rattle.table_verdicts.specs.declared.verdict.FirstWrong.{FirstWrong}
use Rattle.table_verdicts.specs.declared.verdict.MapVerdict.{MapVerdict}
use Rattle.table_verdicts.specs.declared.verdict.Shown.TheVariants as shown
use Rattle.table_verdicts.specs.declared.verdict.Verdict.{Verdict}
use Rattle.table_verdicts.specs.declared.verdict.Verdict.TheVariants as verdict
use Rattle.whole_wad.specs.Rejects.{reject_named, table_len}
use Rattle.table_verdicts.specs.Own.{IsRejectShort}
use Rattle.table_verdicts.specs.Report.{verdicts_report}
use Rattle.table_compare.specs.Counts.{IsCountOf, IsFirstSuchPair}
use Rattle.table_verdicts.specs.Tallies.{all_right, tally_line, tally_of}
use Rattle.table_verdicts.specs.Verdict.{IsBitMissing, IsWrong, answer_of}
use Rattle.sight_run.specs.Asked.{AskedMaps, asked_in}
use Rattle.sight_run.specs.Build.{report_writes}
use Rattle.sight_run.specs.Heard.{ListenersHeard}
use Rattle.sight_run.specs.Run.{RunEnds, put_outputs}
use Rattle.sight_run.specs.Words.{asked_of, file_in, spelling_in}
use Rattle.run_laws.specs.Laws.{Sinks}

-- A run of these words over these files did what they ask, as `run` promises of it, and left those files: with Done, or with NotRight.
pub record WasEnded (words : List (List ℕ)) (files stand : Files) (right : Bool) : Type 0 where
  pub heard : ListenersHeard
  pub before : ShelfState
  pub after : ShelfState
  pub sink : Sinks
  pub ends : RunEnds words files heard before after sink.old sink.new (done_as right)
  pub left : after.files ≡ Some stand

-- ---- what is told of one REJECT

-- no two sectors whose bit is set see each other
abbrev pub IsBlindWhereSet : Map → List ℕ → Type 0
IsBlindWhereSet m reject = (a b : ℕ) → a < m.sectors → b < m.sectors → Rejected m.sectors reject a b → ¬ Sees m a b

-- It is the first wrong pair, and why its sectors see each other: in a map whose faces have one name each its ray is a sight ray from the
-- one to the other.
pub record TellsFirst (m : Map) (reject : List ℕ) (first : FirstWrong) : Type 0 where
  pub is_first : IsFirstSuchPair m.sectors (IsWrong m reject) first.pair
  pub sight : IsAnswerFor m Full first.pair (answer_of first.by)
  pub ray : (ray : Ray) → first.by ≡ shown.Ray ray → IsSound m → IsSightRay m ray first.pair.a first.pair.b

-- Where no pair is named, none that is set sees.
abbrev pub TellsFirstOf : Map → List ℕ → Option FirstWrong → Type 0
TellsFirstOf m reject (Some first) = TellsFirst m reject first
TellsFirstOf m reject None = IsBlindWhereSet m reject

-- So many of its bits are wrong, and so many are missing; where none is wrong, none that is set sees. Bytes behind those of a table of the
-- map's sectors aren't looked at.
pub record TellsBits (m : Map) (reject : List ℕ) (findings : Findings) : Type 0 where
  pub enough : table_len m.sectors ≤ length reject
  pub faces : HasClosedFaces m
  pub wrong : IsCountOf m.sectors (IsWrong m reject) findings.wrong
  pub missing : IsCountOf m.sectors (IsBitMissing m reject) findings.missing
  pub blind : findings.wrong ≡ 0 → IsBlindWhereSet m reject
  pub first : TellsFirstOf m reject findings.first

-- Of a map that was read: its REJECT is short, or its bits are counted, or a face isn't closed and it isn't judged. Of one that wasn't it
-- tells why.
abbrev pub TellsReject : Result Map Status → List ℕ → Result Verdict Status → Type 0
TellsReject (Ok m) reject (Ok (verdict.Short found expected)) = IsRejectShort m.sectors reject found expected
TellsReject (Ok m) reject (Ok (verdict.Judged findings)) = TellsBits m reject findings
TellsReject (Ok m) reject (Err refusal) = ¬ HasClosedFaces m
TellsReject (Err refusal) reject said = said ≡ Err refusal

-- a map that was read, whose REJECT has enough bytes, and in which none that is set sees
pub record IsRightReject (read : Result Map Status) (reject : List ℕ) : Type 0 where
  pub m : Map
  pub is_read : read ≡ Ok m
  pub enough : table_len m.sectors ≤ length reject
  pub blind : IsBlindWhereSet m reject

-- ---- of all

-- There is one verdict for each map that was asked for, in order. Nothing is written but the report, which has a line for each, and the
-- line counts them. With Done each REJECT is right but those of maps that are told as refused.
pub record TellsRejects (wad : Source) (only : Option (List (List ℕ))) (report : Option ReportFile) (files stand : Files) (sink : Sinks) (right : Bool) : Type 0 where
  pub asked : AskedMaps
  pub are_asked : asked_in wad.file only files ≡ Ok asked
  pub verdicts : List MapVerdict
  pub each : map (λ (v : MapVerdict). v.name) verdicts ≡ asked.maps
  pub tells : AllByRecursion (λ (v : MapVerdict). TellsReject (map_named wad.large asked.wad (name_before_nul v.name)) (reject_named asked.wad (name_before_nul v.name)) v.said) verdicts
  pub said : sink.new.held ≡ option_map (λ held. held ++ tally_line (tally_of verdicts)) sink.old.held
  pub stands : stand ≡ put_outputs files (report_writes (file_in report) (verdicts_report (spelling_in report) verdicts))
  pub right_is : right ≡ all_right (tally_of verdicts)
  pub blind : right ≡ true → AllByRecursion (λ (v : MapVerdict). IsOk v.said → IsRightReject (map_named wad.large asked.wad (name_before_nul v.name)) (reject_named asked.wad (name_before_nul v.name))) verdicts

-- so it is where a `verify` did what it is asked
abbrev pub VerifiedIsRight : Type 0
VerifiedIsRight = (words : List (List ℕ)) (wad : Source) (only : Option (List (List ℕ))) (report : Option ReportFile) (workers : ℕ) (files stand : Files) (right : Bool)
    → asked_of words ≡ Ok (order.Verify wad only report workers) → (ended : WasEnded words files stand right) → TellsRejects wad only report files stand ended.sink right
