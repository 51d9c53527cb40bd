-- What is judged of the certificate in a file.
use Rattle.std.specs.Prelude.{◌≡◌, ◌↔◌, ℕ, List, Result, Ok, Err, ⊤}
use Rattle.sight_names.specs.declared.faults.FetchFault.{FetchFault}
use Rattle.sight_names.specs.declared.faults.FetchFault.TheVariants as fetch
use Rattle.sight_names.specs.Map.{map_of}
use Rattle.sight_names.specs.Plan.{PlanParts}
use Rattle.reject_bits.specs.Parts.{TableParts}
use Rattle.cert_format.specs.Sizes.{sizes_of_plan}
use Rattle.certificates.specs.declared.certificate.Certificate.{Certificate}
use Rattle.certificates.specs.Reading.{certificate_at}
use Rattle.group_checker.specs.declared.verdict.AnyVerdict.{AnyVerdict}
use Rattle.group_checker.specs.Judged.{IsYesAny}
use Rattle.cert_judge.specs.declared.judged.Judged.{Judged}
use Rattle.cert_judge.specs.Judged.{JudgedBy}
use Rattle.any_judge.specs.Accepted.{IsAccepted, TellsSight}
use Rattle.any_judge.specs.Judged.{Judges}

-- what is promised of a verdict on a table by a certificate of any version
pub record IsJudged (p : PlanParts) (table : TableParts) (cert : Certificate) (verdict : AnyVerdict) : Type 0 where
  pub exact : Judges p table cert verdict
  -- it is yes exactly where the certificate is accepted for the table, and then the table tells of sight
  pub accepted : IsYesAny verdict ↔ IsAccepted (map_of p) table.bytes cert
  pub sight : IsYesAny verdict → TellsSight (map_of p) table cert

-- the verdict by the certificate that the bytes spell for the plan, or the first fault where they spell none
abbrev pub IsJudgement : PlanParts → TableParts → List ℕ → Judged → Type 0
IsJudgement p table bytes given = JudgedBy (certificate_at (sizes_of_plan p) bytes) (IsJudged p table) given

-- the content is these bytes, and this is what they give
pub record JudgesContent (p : PlanParts) (table : TableParts) (given : Judged) (content : Result (List ℕ) FetchFault) : Type 0 where
  pub bytes : List ℕ
  pub whole : content ≡ Ok bytes
  pub judged : IsJudgement p table bytes given

-- What was judged is the whole file, unless memory ran out or a read failed.
abbrev pub JudgesFile : PlanParts → TableParts → Result Judged FetchFault → Result (List ℕ) FetchFault → Type 0
JudgesFile p table (Ok given) content = JudgesContent p table given content
JudgesFile p table (Err fetch.Absent) content = content ≡ Err fetch.Absent
JudgesFile p table (Err fetch.TooLong) content = content ≡ Err fetch.TooLong
JudgesFile p table (Err fetch.Failed) content = ⊤
JudgesFile p table (Err (fetch.Memory _)) content = ⊤
