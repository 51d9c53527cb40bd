-- What is said of a map's own REJECT: how it differs from the table in which a bit is set exactly where two sectors don't see each
-- other.
use Rattle.std.specs.Prelude.{◌≡◌, ℕ, ◌≤◌, List, length, Option, Some, None, Result, Ok, Err, ⊤}
use Rattle.sight_names.specs.declared.names.Ask.TheVariants.{Full}
use Rattle.sight_names.specs.Groups.{HasClosedFaces}
use Rattle.sight_names.specs.Map.{Map}
use Rattle.sight_names.specs.Sees.{Sees}
use Rattle.sight_names.specs.Table.{Rejected}
use Rattle.table_compare.specs.Counts.{IsCountOf, IsFirstSuchPair, IsFirstOf}
use Rattle.map_answers.specs.declared.sight_status.status.Status.{Status}
use Rattle.map_answers.specs.declared.sight_status.status.Status.TheVariants as status
use Rattle.pair_answer.specs.declared.answer.PairAnswer.{PairAnswer}
use Rattle.pair_answer.specs.declared.answer.PairAnswer.TheVariants as answer
use Rattle.pair_answer.specs.Answer.{IsAnswerFor}
use Rattle.whole_wad.specs.Tables.{IsFlawOf}
use Rattle.table_verdicts.specs.declared.verdict.Findings.{Findings}
use Rattle.table_verdicts.specs.declared.verdict.FirstWrong.{FirstWrong}
use Rattle.table_verdicts.specs.declared.verdict.Shown.{Shown}
use Rattle.table_verdicts.specs.declared.verdict.Shown.TheVariants as shown
use Rattle.table_verdicts.specs.declared.verdict.Verdict.{Verdict}
use Rattle.table_verdicts.specs.declared.verdict.Verdict.TheVariants as verdict
use Rattle.whole_wad.specs.Rejects.{table_len}
use Rattle.table_verdicts.specs.Own.{IsRejectShort}

-- its bit is set, though the two sectors see each other
abbrev pub IsWrong : Map → List ℕ → ℕ → ℕ → Type 0
IsWrong m reject x y = Rejected m.sectors reject x y × Sees m x y

-- its bit is clear, though they don't see each other
abbrev pub IsBitMissing : Map → List ℕ → ℕ → ℕ → Type 0
IsBitMissing m reject x y = (¬ Rejected m.sectors reject x y) × ¬ Sees m x y

-- the answer for a pair that shows that its sectors see each other
abbrev pub answer_of : Shown → PairAnswer
answer_of (shown.Ray ray) = answer.Sight ray
answer_of shown.Touch = answer.Touch

-- the first wrong pair, and the ray between its two sectors, or that a face belongs to both
pub record IsFirstWrongPair (m : Map) (reject : List ℕ) (first : FirstWrong) : Type 0 where
  pub is_first : IsFirstSuchPair m.sectors (IsWrong m reject) first.pair
  pub sight : IsAnswerFor m Full first.pair (answer_of first.by)

-- none exactly where no pair is wrong
abbrev pub HasFirstWrong : Map → List ℕ → Option FirstWrong → Type 0
HasFirstWrong m reject (Some first) = IsFirstWrongPair m reject first
HasFirstWrong m reject None = IsFirstOf m.sectors (IsWrong m reject) None

-- How a REJECT of enough bytes differs. The map is sound, as one has to be whose sight is decided.
pub record AreRejectFindings (m : Map) (reject : List ℕ) (findings : Findings) : Type 0 where
  pub enough : table_len m.sectors ≤ length reject
  pub faces : HasClosedFaces m
  pub wrong : IsCountOf m.sectors (IsWrong m reject) findings.wrong
  pub missing : IsCountOf m.sectors (IsBitMissing m reject) findings.missing
  pub first : HasFirstWrong m reject findings.first

-- the first flaw of a map whose REJECT has enough bytes
pub record IsRefusedByFlaw (m : Map) (reject : List ℕ) (refusal : Status) : Type 0 where
  pub enough : table_len m.sectors ≤ length reject
  pub flaw : IsFlawOf m refusal

-- what is said of the REJECT of a map; its length comes first
abbrev pub IsSaidOfReject : Map → List ℕ → Result Verdict Status → Type 0
IsSaidOfReject m reject (Ok (verdict.Short found expected)) = IsRejectShort m.sectors reject found expected
IsSaidOfReject m reject (Ok (verdict.Judged findings)) = AreRejectFindings m reject findings
IsSaidOfReject m reject (Err refusal) = IsRefusedByFlaw m reject refusal

-- .. of a map that was read, or why none was
abbrev pub IsRejectVerdict : Result Map Status → List ℕ → Result Verdict Status → Type 0
IsRejectVerdict (Ok m) reject said = IsSaidOfReject m reject said
IsRejectVerdict (Err refusal) reject said = said ≡ Err refusal

-- .. unless memory ran out
abbrev pub IsVerdictOrMemory : Result Map Status → List ℕ → Result Verdict Status → Type 0
IsVerdictOrMemory read reject (Err (status.Memory _)) = ⊤
IsVerdictOrMemory read reject said = IsRejectVerdict read reject said

-- ---- parts of it

-- answers that show that the two sectors see each other
abbrev pub ShowsSightByAnswer : PairAnswer → Type 0
ShowsSightByAnswer (answer.Sight ray) = ⊤
ShowsSightByAnswer answer.Touch = ⊤
ShowsSightByAnswer other = ⊥

-- how a table at the front of the bytes differs, the first flaw of the map, or want of memory
abbrev pub JudgesReject : Map → List ℕ → Result Findings Status → Type 0
JudgesReject m reject (Ok findings) = AreRejectFindings m reject findings
JudgesReject m reject (Err (status.Memory _)) = ⊤
JudgesReject m reject (Err refusal) = IsFlawOf m refusal
