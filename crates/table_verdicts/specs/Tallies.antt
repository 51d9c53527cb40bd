-- How many maps there are of each kind.
use Rattle.std.specs.Prelude.{ℕ, Bool, true, false, ◌==◌, ◌&&◌, not, List, length, ◌++◌, Result, Ok, Err, codes}
use Rattle.std.specs.Fmt.{decimal}
use Rattle.std.specs.List.{count_by}
use Rattle.map_answers.specs.declared.sight_status.status.Status.{Status}
use Rattle.table_verdicts.specs.declared.tally.Tally.{Tally}
use Rattle.table_verdicts.specs.declared.verdict.MapVerdict.{MapVerdict}
use Rattle.table_verdicts.specs.declared.verdict.Verdict.{Verdict}
use Rattle.table_verdicts.specs.declared.verdict.Verdict.TheVariants as verdict

-- no bit is wrong; some may be missing
abbrev pub is_right : Result Verdict Status → Bool
is_right (Ok (verdict.Judged findings)) = findings.wrong == 0
is_right other = false

abbrev pub is_wrong : Result Verdict Status → Bool
is_wrong (Ok (verdict.Judged findings)) = not (findings.wrong == 0)
is_wrong other = false

abbrev pub is_short : Result Verdict Status → Bool
is_short (Ok (verdict.Short found expected)) = true
is_short other = false

abbrev pub is_refused : Result Verdict Status → Bool
is_refused (Ok said) = false
is_refused (Err refusal) = true

abbrev pub count_of : (Result Verdict Status → Bool) → List MapVerdict → ℕ
count_of test verdicts = count_by (λ (v : MapVerdict). test v.said) verdicts

abbrev pub tally_of : List MapVerdict → Tally
tally_of verdicts = record {
  maps = length verdicts;
  right = count_of is_right verdicts;
  wrong = count_of is_wrong verdicts;
  short = count_of is_short verdicts;
  refused = count_of is_refused verdicts;
}

-- no table of those that were judged is wrong, and none is short
abbrev pub all_right : Tally → Bool
all_right t = (t.wrong == 0) && (t.short == 0)

abbrev pub tally_line : Tally → List ℕ
tally_line t = codes "verify maps " ++ decimal t.maps ++ codes " right " ++ decimal t.right ++ codes " wrong " ++ decimal t.wrong ++ codes " short " ++ decimal t.short ++ codes " refused " ++ decimal t.refused ++ codes "\n"
