-- What the order `check` reads, step by step, and the answers to what it judges.
use Rattle.std.proofs.Common.{◌≡◌, ℕ, List, Result, Ok, Err, refl, sym, ap, ◌∙◌, subst}
use Rattle.std.specs.Prelude.{⊤}
use Rattle.sight_names.specs.declared.faults.CertFault.{CertFault}
use Rattle.sight_names.specs.declared.faults.CertFault.TheVariants as cert
use Rattle.sight_names.specs.declared.faults.TableFault.TheVariants as table
use Rattle.sight_names.specs.Map.{Map}
use Rattle.shelf_io.specs.Shelf.{Files, content_of}
use Rattle.reject_bits.specs.Parts.{TableParts}
use Rattle.certificates.specs.declared.certificate.Certificate.{Certificate}
use Rattle.certificates.specs.Reading.{certificate_at}
use Rattle.cert_judge.specs.declared.judged.Judged.{Judged}
use Rattle.cert_judge.specs.declared.judged.Judged.TheVariants as judged
use Rattle.cert_judge.specs.Judged.{JudgedBy}
use Rattle.map_answers.specs.declared.sight_status.status.Bound.TheVariants as bound
use Rattle.map_answers.specs.declared.sight_status.status.Role.TheVariants as role
use Rattle.map_answers.specs.declared.sight_status.status.Why.TheVariants as why
use Rattle.map_answers.specs.declared.sight_status.status.Status.{Status}
use Rattle.map_answers.specs.declared.sight_status.status.Status.TheVariants as status
use Rattle.map_answers.specs.SightStatus.Answer.{GivesCalled, ◌>>=◌}
use Rattle.row_spelling.specs.declared.Spelling.{Spelling}
use Rattle.map_answers.specs.SightStatus.Status.{IsOfCertFetch, IsOfTableTest}
use Rattle.map_answers.specs.Input.{LocatedMap}
use Rattle.map_answers.specs.Sound.{HasSoundLines}
use Rattle.sight_run.specs.Judged.{IsJudgedOnMap, IsJudgementOnMap}
use Rattle.sight_run.specs.Check.{CheckCalls, CheckInput, IsTableOfBytes, JudgesFetched, TakesTable, cert_of_bytes, check_input, found_by, of_cert_fetch, of_length, of_reading, refused_as, reject_bytes, told_as}
use Rattle.whole_wad.specs.Sizes.{sizes_of_map}
use Rattle.sight_run.proofs.Checks.{gives_unread, gives_verdict}

-- ---- the table and the certificate

abbrev pub input_as : List ℕ → Certificate → CheckInput
input_as t c = record { table = t; cert = c }

abbrev pub with_parts : List ℕ → Result Certificate Status → Result CheckInput Status
with_parts t r = r >>= (λ parts. Ok (input_as t parts))

abbrev pub with_cert : Map → List ℕ → Result (List ℕ) Status → Result CheckInput Status
with_cert m t r = r >>= (λ bytes. with_parts t (cert_of_bytes m bytes))

abbrev pub with_bytes : List ℕ → LocatedMap → Files → Result (List ℕ) Status → Result CheckInput Status
with_bytes name found files r = r >>= (λ t. with_cert found.map t (of_cert_fetch (content_of (files name) 9223372036854775807)))

pub input_by : (name : List ℕ) (found : LocatedMap) (files : Files) → check_input name found files ≡ with_bytes name found files (of_length found.map.sectors (reject_bytes found))
unfolding check_input
input_by name found files = refl

pub is_input : (name : List ℕ) (found : LocatedMap) (files : Files) (t spelled : List ℕ) (c : Certificate) → of_length found.map.sectors (reject_bytes found) ≡ Ok t → of_cert_fetch (content_of (files name) 9223372036854775807) ≡ Ok spelled → cert_of_bytes found.map spelled ≡ Ok c
    → check_input name found files ≡ Ok (input_as t c)
is_input name found files t spelled c p q r = input_by name found files ∙ ap (with_bytes name found files) p ∙ ap (with_cert found.map t) q ∙ ap (with_parts t) r

-- ---- the answers

module _ (name : List ℕ) (found : LocatedMap) (files : Files) (lines : HasSoundLines found.map) (n : ℕ) (raw : List ℕ) (size : n ≡ found.map.sectors) (same : raw ≡ reject_bytes found) where
  input_from : check_input name found files ≡ with_bytes name found files (of_length n raw)
  input_from = input_by name found files ∙ sym (λ i. with_bytes name found files (of_length (size i) (same i)))

  -- the bytes are no table
  pub table_refused : (V : Type 0) (spelled : Spelling) (s : Status) → IsOfTableTest s → TakesTable {V = V} n raw (Err s) → GivesCalled ⊤ (CheckCalls spelled name files found) (refused_as spelled s)
  table_refused V spelled (status.Memory _) of h = tt
  table_refused V spelled (status.No (why.Table (table.Memory _))) of h = absurd of
  table_refused V spelled (status.No (why.Table (table.WrongLength a b))) of h =
      gives_unread spelled found.map (check_input name found files) (status.No (why.Table (table.WrongLength a b))) lines tt (input_from ∙ ap (with_bytes name found files) h)
  table_refused V spelled s of h = absurd of

  module _ (taken : of_length n raw ≡ Ok raw) where
    input_taken : (r : Result (List ℕ) Status) → of_cert_fetch (content_of (files name) 9223372036854775807) ≡ r → check_input name found files ≡ with_cert found.map raw r
    input_taken r e = input_from ∙ ap (with_bytes name found files) taken ∙ ap (with_cert found.map raw) e

    -- the file isn't read to its end
    pub fetch_refused : (t : TableParts) (spelled : Spelling) (s : Status) → IsOfCertFetch s → JudgesFetched (IsJudgementOnMap found.map t) (Err s) (of_cert_fetch (content_of (files name) 9223372036854775807)) → GivesCalled ⊤ (CheckCalls spelled name files found) (refused_as spelled s)
    fetch_refused t spelled (status.Memory _) of h = tt
    fetch_refused t spelled (status.ReadFault k) of h = tt
    fetch_refused t spelled (status.NoFile role.Cert) of h = gives_unread spelled found.map (check_input name found files) (status.NoFile role.Cert) lines tt (input_taken _ h)
    fetch_refused t spelled (status.Limit bound.CertBytes) of h = gives_unread spelled found.map (check_input name found files) (status.Limit bound.CertBytes) lines tt (input_taken _ h)
    fetch_refused t spelled s of h = absurd of

    -- the bytes spell no certificate
    unread : (spelled : Spelling) (g : CertFault) → check_input name found files ≡ with_parts raw (of_reading (Err g)) → GivesCalled ⊤ (CheckCalls spelled name files found) (told_as spelled found.map.sectors (found_by (judged.Unread g)))
    unread spelled (cert.Memory _) e = tt
    unread spelled g e = gives_unread spelled found.map (check_input name found files) (status.No (why.Cert g)) lines tt e

    by_reading : (t : TableParts) → IsTableOfBytes found.map.sectors raw t → (spelled : Spelling) (r : Result Certificate CertFault) (given : Judged) → check_input name found files ≡ with_parts raw (of_reading r) → JudgedBy r (IsJudgedOnMap found.map t) given
        → GivesCalled ⊤ (CheckCalls spelled name files found) (told_as spelled found.map.sectors (found_by given))
    by_reading t is spelled (Ok c) (judged.Verdict v) e h = gives_verdict spelled found.map (check_input name found files) (input_as raw c) t v e is lines h
    by_reading t is spelled (Ok c) (judged.Unread g) e h = absurd h
    by_reading t is spelled (Err f) (judged.Verdict v) e h = absurd h
    by_reading t is spelled (Err f) (judged.Unread g) e h = unread spelled g (e ∙ ap (λ (x : CertFault). with_parts raw (of_reading (Err x))) h)

    -- what was judged is told
    pub judged_gives : (t : TableParts) (spelled : Spelling) (bytes : List ℕ) (given : Judged) → IsTableOfBytes n raw t → of_cert_fetch (content_of (files name) 9223372036854775807) ≡ Ok bytes → IsJudgementOnMap found.map t bytes given
        → GivesCalled ⊤ (CheckCalls spelled name files found) (told_as spelled found.map.sectors (found_by given))
    judged_gives t spelled bytes given is whole h =
        by_reading t (subst (λ (k : ℕ). IsTableOfBytes k raw t) size is) spelled (certificate_at (sizes_of_map found.map) bytes) given (input_taken (Ok bytes) whole) h
