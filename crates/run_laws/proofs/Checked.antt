-- The check of what a build wrote has one answer, and it is yes.
use Rattle.std.proofs.Common.{◌≡◌, ℕ, ◌+◌, ◌*◌, ◌^◌, ◌<◌, ◌≤◌, inl, inr, List, [], ◌++◌, length, Bool, true, false, if◌then◌else◌, nat_lt, Option, Some, Result, Ok, Err, refl, sym, ap, ◌∙◌, subst, arith}
use Rattle.std.specs.Prelude.{codes}
use Rattle.std.specs.Option.{option_map}
use Rattle.std.proofs.lemmas.Bool.{le-ltb}
use Rattle.std.proofs.lemmas.Bool.Decides.{Decides-eqb}
use Rattle.sight_names.specs.declared.limits.TheConstants.{MOST_BYTES}
use Rattle.sight_names.specs.declared.faults.FetchFault.TheVariants as fetch
use Rattle.sight_names.specs.declared.faults.TableFault.TheVariants as table
use Rattle.sight_names.specs.declared.names.Method.{Method}
use Rattle.sight_names.specs.declared.names.Method.TheVariants as how
use Rattle.sight_names.specs.declared.names.Pair.{Pair}
use Rattle.sight_names.specs.Map.{Map}
use Rattle.sight_names.specs.Sound.{LinesMeetAtEnds}
use Rattle.sight_names.specs.Table.{table_bit}
use Rattle.map_audit.proofs.AuditLemmas.{not_sound}
use Rattle.shelf_io.specs.Shelf.{Files, ShelfState, content_of}
use Rattle.shelf_io.specs.Sink.{SinkState}
use Rattle.wad_dir.specs.Map.{same_name}
use Rattle.cert_format.specs.Accepted.{EitherClear, EitherSet}
use Rattle.cert_format.specs.Parts.{CertParts}
use Rattle.cert_format.specs.declared.cert_groups.cert.CertTwo.{CertTwo}
use Rattle.cert_format.specs.declared.cert_groups.cert.AnyCert.TheVariants.{One, Two}
use Rattle.certificates.specs.declared.cert_exact.cert.ExactParts.{ExactParts}
use Rattle.certificates.specs.CertExact.Grammar.{as_two}
use Rattle.certificates.specs.declared.certificate.Certificate.{Certificate}
use Rattle.certificates.specs.declared.certificate.Certificate.TheVariants.{Listing, Exact}
use Rattle.certificates.specs.Grammar.{Spells}
use Rattle.certificates.proofs.Again.{certificate_again}
use Rattle.gate_floods.specs.Exact.{IsAcceptedThree}
use Rattle.any_judge.specs.Accepted.{IsAccepted as IsAcceptedBy}
use Rattle.exact_checker.proofs.OneExact.{told_same as told_same_of_three}
use Rattle.cert_checker.specs.AcceptedGroups.Accepted.{IsAcceptedOne, IsAcceptedOn, IsAcceptedTwo, IsAlone}
use Rattle.reject_bits.specs.Parts.{TableParts}
use Rattle.cert_checker.specs.declared.verdict.Totals.{Totals}
use Rattle.cert_checker.specs.Pairs.{AreTotals}
use Rattle.cert_checker.proofs.SameBits.{HaveOneBits}
use Rattle.group_checker.specs.declared.verdict.AnyFault.{AnyFault}
use Rattle.group_checker.specs.declared.verdict.AnyVerdict.{AnyVerdict}
use Rattle.group_checker.specs.declared.verdict.AnyVerdict.TheVariants as verdict
use Rattle.group_checker.proofs.SameAnyBits.{told_same}
use Rattle.whole_wad.specs.declared.building.Built.{Built}
use Rattle.whole_wad.specs.Built.{DecidedBy, IsBuiltOf, OfExact}
use Rattle.sight_names.specs.Groups.{AreGroups, IsInGroup}
use Rattle.map_answers.specs.declared.counts.Counts.{Counts}
use Rattle.map_answers.specs.Counts.{counts_with}
use Rattle.order_words.specs.Words.{wad_source}
use Rattle.map_answers.specs.declared.sight_status.status.Flaw.TheVariants as flaw
use Rattle.map_answers.specs.declared.sight_status.status.Role.{Role}
use Rattle.map_answers.specs.declared.sight_status.status.Role.TheVariants as role
use Rattle.map_answers.specs.declared.sight_status.status.Status.{Status}
use Rattle.map_answers.specs.declared.sight_status.status.Status.TheVariants as status
use Rattle.row_spelling.specs.declared.Spelling.{Spelling}
use Rattle.map_answers.specs.declared.sight_status.status.Why.TheVariants as why
use Rattle.map_answers.specs.SightStatus.Answer.{Answer, ◌>>=◌, IsTheAnswer, Written, only_line}
use Rattle.sight_run.specs.Build.{BuildCalls, ShowsBuild, build_writes, report_behind}
use Rattle.sight_run.proofs.CheckInputs.{input_as, is_input}
use Rattle.sight_run.specs.Judged.{IsJudgedOnMap, JudgesOf, JudgesThreeOf, JudgesTwoOf}
use Rattle.sight_run.specs.Check.{CheckInput, CheckCalls, IsVerdictSpelled, OnCheckInput, check_input, cert_of_bytes, finding_of_verdict, of_cert_fetch, of_length, of_reading, reject_bytes, told_as, yes_row}
use Rattle.map_answers.specs.Input.{LocatedMap, OnFound, found_in}
use Rattle.sight_run.specs.Heard.{ListenersHeard}
use Rattle.sight_run.specs.Reading.{found_of, of_fetch}
use Rattle.sight_run.specs.Obeys.{AnswersOrder, IsAnswer}
use Rattle.sight_run.specs.Run.{IsBrokenBy, RunEnds, StandsUpTo, put_outputs}
use Rattle.whole_wad.specs.Sizes.{sizes_of_map}
use Rattle.map_answers.specs.Sound.{OnSoundLines}
use Rattle.whole_wad.specs.Rejects.{table_len}
use Rattle.run_laws.specs.Laws.{BuiltIsChecked, BuiltRunIsChecked, ChecksYes, HaveBoth, IsFileShort, SaysYes, Sinks, totals_of}
use Rattle.sight_run.proofs.Round.{IsFoundAgain, found_again, found_then, same_ok}
use Rattle.sight_run.proofs.Stood.{IsOther, before_report, bytes_of, cert_apart, of_words, out_apart, under_cert, under_out}
use Rattle.run_laws.proofs.Totals.{same_counts}
use Rattle.math_base.proofs.Options.{some_is_same}
use Rattle.math_base.proofs.Numbers.{place_within}

-- ---- the table's bits

-- what is accepted for a table is accepted for one of the same bits
module _ (m : Map) (t u : List ℕ) (bits : (k : ℕ) → k < m.sectors * m.sectors → table_bit u k ≡ table_bit t k) where
  low : (a b : ℕ) → a ≤ b → b < m.sectors → a < m.sectors
  low a b l w = omega (arith, l, w)

  set_in_first : (a b : ℕ) → a < m.sectors → b < m.sectors → EitherSet m.sectors u a b → EitherSet m.sectors t a b
  set_in_first a b p q (inl e) = inl (sym (bits (a * m.sectors + b) (place_within a b m.sectors p q)) ∙ e)
  set_in_first a b p q (inr e) = inr (sym (bits (b * m.sectors + a) (place_within b a m.sectors q p)) ∙ e)

  clear_in_first : (a b : ℕ) → a < m.sectors → b < m.sectors → EitherClear m.sectors u a b → EitherClear m.sectors t a b
  clear_in_first a b p q (inl n) = inl (λ e. n (bits (a * m.sectors + b) (place_within a b m.sectors p q) ∙ e))
  clear_in_first a b p q (inr n) = inr (λ e. n (bits (b * m.sectors + a) (place_within b a m.sectors q p) ∙ e))

  -- the rule, by groups over any map
  on_accepted : (g : Map) (In : ℕ → ℕ → Type 0) (pairs : List Pair) (c : CertParts) → IsAcceptedOn g In m.sectors t pairs c → IsAcceptedOn g In m.sectors u pairs c
  on_accepted g In pairs c h = record {
    rays = h.rays;
    trees = h.trees;
    listed = λ a b l w n s. h.listed a b l w n (set_in_first a b (low a b l w) w s);
    set = λ a b l w s. h.set a b l w (set_in_first a b (low a b l w) w s);
    clear = λ a b l w s n. h.clear a b l w (clear_in_first a b (low a b l w) w s) n;
  }

  one_accepted : (c : CertParts) → IsAcceptedOne m t c → IsAcceptedOne m u c
  one_accepted c h = record { mesh = h.mesh; on = on_accepted m (IsAlone m) c.listed c h.on }

  two_accepted : (c : CertTwo) → IsAcceptedTwo m t c → IsAcceptedTwo m u c
  two_accepted c (g, names, h) = (g, names, record { table_for = h.table_for; on = on_accepted g (IsInGroup c.groups) c.listed c.cert h.on })

  three_accepted : (c : ExactParts) → IsAcceptedThree m t c → IsAcceptedThree m u c
  three_accepted c (g, names, h) = (
    g,
    names,
    record {
      table_for = h.table_for;
      rays = h.rays;
      one_each = h.one_each;
      trees = h.trees;
      listed = h.listed;
      set = λ a b p q s. h.set a b p q (sym (bits (a * m.sectors + b) (place_within a b m.sectors p q)) ∙ s);
      clear = λ a b p q n. h.clear a b p q (λ e. n (bits (a * m.sectors + b) (place_within a b m.sectors p q) ∙ e));
    },
  )

  accepted_same : (c : Certificate) → IsAcceptedBy m t c → IsAcceptedBy m u c
  accepted_same (Listing (One c)) h = one_accepted c h
  accepted_same (Listing (Two c sizes)) h = two_accepted c h
  accepted_same (Exact c) h = three_accepted c h

-- ---- the table and the certificate

-- bytes of a table's length are taken
right_length : (n : ℕ) (bytes t : List ℕ) → bytes ≡ t → length t ≡ table_len n → of_length n bytes ≡ Ok t
right_length n bytes t e len =
    ap (of_length n) e ∙ ap (λ (b : Bool). if b then Ok t else Err (status.No (why.Table (table.WrongLength (length t) (table_len n))))) ((Decides-eqb (length t) (table_len n)).1 len)

-- a file within the limit is fetched whole
cert_fetched : (o : Option (List ℕ)) (bytes : List ℕ) → o ≡ Some bytes → length bytes ≤ 9223372036854775807 → of_cert_fetch (content_of o 9223372036854775807) ≡ Ok bytes
cert_fetched o bytes e le =
    ap (λ (x : Option (List ℕ)). of_cert_fetch (content_of x 9223372036854775807)) e ∙ by (nat_lt 9223372036854775807 (length bytes)) (le-ltb 9223372036854775807 (length bytes) le)
  where
    by : (b : Bool) → b ≡ false → of_cert_fetch (if b then Err fetch.TooLong else Ok bytes) ≡ Ok bytes
    by true q = absurd cc
    by false q = refl

spelled_reads : (m : Map) (c : Certificate) (bytes : List ℕ) → Spells (sizes_of_map m) bytes c → cert_of_bytes m bytes ≡ Ok c
spelled_reads m c bytes h = ap of_reading (certificate_again (sizes_of_map m) bytes c h)

-- ---- the verdict

record IsYesFor (m : Map) (t : TableParts) (listed : List Pair) (spelled : Spelling) (given : Result Answer Status) : Type 0 where
  totals : Totals
  are : AreTotals t listed m.sectors totals
  is : given ≡ Ok (only_line (yes_row spelled m.sectors totals))

-- the totals of a yes are those of the table and the list
totals_of_two : (m : Map) (t other : TableParts) (c : CertTwo) (listed : List Pair) (totals : Totals) → HaveOneBits m other t → c.listed ≡ listed → JudgesTwoOf m other c (verdict.Yes totals) → AreTotals t listed m.sectors totals
totals_of_two m t other c listed totals same e h =
    let told = (told_same m h.g c other t same (verdict.Yes totals) h.pairs).1 in
    subst (λ (ps : List Pair). AreTotals t ps m.sectors totals) e (subst (λ (n : ℕ). AreTotals t c.listed n totals) same.second told)

totals_of_three : (m : Map) (t other : TableParts) (c : ExactParts) (listed : List Pair) (totals : Totals) → HaveOneBits m other t → [] ≡ listed → JudgesThreeOf m other c (verdict.Yes totals) → AreTotals t listed m.sectors totals
totals_of_three m t other c listed totals same e h =
    let told = (told_same_of_three m (as_two c) other t same (verdict.Yes totals) h.pairs).1 in
    subst (λ (ps : List Pair). AreTotals t ps m.sectors totals) e (subst (λ (n : ℕ). AreTotals t [] n totals) same.second told)

-- the certificate of a build has this list; one of version 3 has none
abbrev HasList : Certificate → List Pair → Type 0
HasList (Listing (One c)) listed = ⊥
HasList (Listing (Two c sizes)) listed = c.listed ≡ listed
HasList (Exact c) listed = [] ≡ listed

list_of_build : (m : Map) (method : Method) (built : Built) → IsBuiltOf m method built → HasList built.cert built.listed
list_of_build m (how.Within ask) built is = within built.cert is.by_method
  where
    within : (cert : Certificate) → DecidedBy m (how.Within ask) (record { table = built.table; listed = built.listed; cert = cert }) → HasList cert built.listed
    within (Listing (One c)) d = absurd d
    within (Listing (Two c sizes)) d = d.same_list
    within (Exact c) d = absurd d
list_of_build m how.Exact built is = deciding built.cert is.by_method.cert
  where
    deciding : (cert : Certificate) → OfExact (λ c. AreGroups m c.groups) cert → HasList cert built.listed
    deciding (Listing c) d = absurd d
    deciding (Exact c) d = sym is.by_method.none_listed

totals_of_any : (m : Map) (t other : TableParts) (c : Certificate) (listed : List Pair) (totals : Totals) → HaveOneBits m other t → HasList c listed → JudgesOf m other c (verdict.Yes totals) → AreTotals t listed m.sectors totals
totals_of_any m t other (Listing (One c)) listed totals same e h = absurd e
totals_of_any m t other (Listing (Two c sizes)) listed totals same e h = totals_of_two m t other c listed totals same e h
totals_of_any m t other (Exact c) listed totals same e h = totals_of_three m t other c listed totals same e h

-- the bytes are those of a table whose certificate is accepted
verdict_yes : (m : Map) (t : TableParts) (c : Certificate) (listed : List Pair) (spelled : Spelling) (given : Result Answer Status) → t.n ≡ m.sectors → HasList c listed → IsAcceptedBy m t.bytes c → IsVerdictSpelled spelled m (input_as t.bytes c) given
    → IsYesFor m t listed spelled given
verdict_yes m t c listed spelled given n e h v = by v.verdict v.judged v.told
  where
    same : HaveOneBits m v.table t
    same = record { first = v.is_table.sectors; second = n; bits = v.is_table.bits }

    not_no : (f : AnyFault) → IsJudgedOnMap m v.table c (verdict.No f) → ⊥
    not_no f k = k.accepted.1 (accepted_same m t.bytes v.table.bytes v.is_table.bits c h)

    by : (w : AnyVerdict) → IsJudgedOnMap m v.table c w → given ≡ told_as spelled m.sectors (finding_of_verdict w) → IsYesFor m t listed spelled given
    by (verdict.Yes totals) k told = record { totals = totals; are = totals_of_any m t v.table c listed totals same e k.exact; is = told }
    by (verdict.No f) k told = absurd (not_no f k)

past_lines : (spelled : Spelling) (m : Map) (b : CheckInput) (given : Result Answer Status) → LinesMeetAtEnds m → OnSoundLines m (OnCheckInput spelled m (Ok b)) given → IsVerdictSpelled spelled m b given
past_lines spelled m b (Ok answer) meet q = q.1
past_lines spelled m b (Err (status.BadMap (flaw.Line f))) meet q = absurd (not_sound m f q meet)
past_lines spelled m b (Err s) meet q = q.1

-- ---- the build, then the check

pub wad_fetched : (large : Bool) (o : Option (List ℕ)) (name bytes : List ℕ) (found : LocatedMap) → o ≡ Some bytes → length bytes < 2 ^ 31 → found_in large name bytes ≡ Ok found → (of_fetch (content_of o MOST_BYTES) >>= (λ bs. found_in large name bs)) ≡ Ok found
wad_fetched large o name bytes found e lt h =
    ap (λ (x : Option (List ℕ)). of_fetch (content_of x MOST_BYTES) >>= (λ bs. found_in large name bs)) e ∙ by (nat_lt MOST_BYTES (length bytes)) (le-ltb MOST_BYTES (length bytes) (omega (arith, lt))) ∙ h
  where
    by : (b : Bool) → b ≡ false → (of_fetch (if b then Err fetch.TooLong else Ok bytes) >>= (λ bs. found_in large name bs)) ≡ found_in large name bytes
    by true q = absurd cc
    by false q = refl

-- the map was found in these bytes, and what was built of it is in these files
module _ (large : Bool) (name out cert : List ℕ) (spelled_as : Spelling) (reported : Option (List ℕ)) (method : Method) (files others : Files) (heard : ListenersHeard) (found : LocatedMap) (answer : Answer) (given : Result Answer Status) where
  checked : (old : List ℕ) → found_in large name old ≡ Ok found → same_name (codes "REJECT") name ≡ false → IsOther out (Some cert) × IsOther out reported → IsOther cert reported
      → (shows : ShowsBuild name out (Some cert) reported method found heard answer)
      → HaveBoth (put_outputs files answer.writes) others out cert → IsFileShort others cert
      → OnFound (found_of (wad_source large out) name others) (CheckCalls spelled_as cert others) given → IsYesFor found.map shows.built.table shows.built.listed spelled_as given
  unfolding found_of
  checked old h other apart other_report shows have short q =
      let spelled : List ℕ = shows.spelled in
      let both : List Written = build_writes out shows.bytes (Some cert) spelled in
      let table : List ℕ = shows.built.table.bytes in
      let c : Certificate = shows.built.cert in
      let again : IsFoundAgain large name found table shows.bytes = found_again large name old table shows.bytes found h other shows.made in
      let all : put_outputs files answer.writes ≡ put_outputs files (report_behind reported shows.report both) = ap (λ (x : Answer). put_outputs files x.writes) shows.is in
      let at_out : others out ≡ Some shows.bytes = have.at_out ∙ ap (λ (f : Files). f out) all ∙ before_report files both reported shows.report out apart.1 ∙ under_out files out cert shows.bytes spelled apart.0 in
      let at_cert : others cert ≡ Some spelled = have.at_cert ∙ ap (λ (f : Files). f cert) all ∙ before_report files both reported shows.report cert other_report ∙ under_cert files out cert shows.bytes spelled in
      let there : found_of (wad_source large out) name others ≡ Ok (found_then found table) = wad_fetched large (others out) name shows.bytes (found_then found table) at_out again.short again.again in
      let asked : CheckCalls spelled_as cert others (found_then found table) given = subst (λ (r : Result LocatedMap Status). OnFound r (CheckCalls spelled_as cert others) given) there q in
      let len : length table ≡ table_len found.map.sectors = shows.is_built.table_is_whole.len ∙ ap table_len shows.is_built.sectors in
      let reads : check_input cert (found_then found table) others ≡ Ok (input_as table c) =
      is_input cert (found_then found table) others table spelled c (right_length found.map.sectors (reject_bytes (found_then found table)) table again.reject len)
      (cert_fetched (others cert) spelled at_cert (short spelled at_cert)) (spelled_reads found.map c spelled shows.spells) in
      verdict_yes found.map shows.built.table c shows.built.listed spelled_as given shows.is_built.sectors (list_of_build found.map method shows.built shows.is_built) shows.is_built.accepted
      (past_lines spelled_as found.map (input_as table c) given shows.is_built.fit.ends (subst (λ (r : Result CheckInput Status). OnSoundLines found.map (OnCheckInput spelled_as found.map r) given) reads asked))

pub built_is_checked : BuiltIsChecked
built_is_checked build check name out cert spelled files others heard answer ask h have short =
    on (found_of ask.wad name files) refl (subst (λ r. AnswersOrder r files heard (Ok answer)) ask.built h)
  where
    apart : IsOther out (Some cert) × IsOther out ask.report
    apart = out_apart ask.wad.file out (Some cert) ask.report (of_words build _ ask.built)

    other_report : IsOther cert ask.report
    other_report = cert_apart ask.wad.file out cert ask.report (of_words build _ ask.built)

    on : (r : Result LocatedMap Status) → found_of ask.wad name files ≡ r → OnFound r (BuildCalls name out (Some cert) ask.report ask.method heard) (Ok answer) → SaysYes check name spelled others answer
    on (Err s) e shows = absurd cc
    on (Ok found) e shows =
        let old = bytes_of ask.wad name files found e in
        let counts = counts_with shows.built.table (length shows.built.listed) in
        record {
          counts = counts;
          built = ap (λ (x : Answer). x.line) shows.is;
          only = λ unheard given q.
              let asked = subst (λ r. AnswersOrder r others unheard given) ask.checked q in
              let yes = checked ask.wad.large name out cert spelled ask.report ask.method files others heard found answer given old.bytes old.are ask.other apart other_report shows have short asked in
              let same = same_counts shows.built.table shows.built.listed found.map.sectors yes.totals shows.is_built.symmetric shows.is_built.sectors yes.are in
              yes.is ∙ ap (λ (k : Counts). Ok (only_line (yes_row spelled k.sectors (totals_of k)))) same;
        }

-- ---- the runs

-- the answer that a run gave which ended with Done
pub record EndsDone (build : List (List ℕ)) (files stand : Files) (heard : ListenersHeard) (sinks : Sinks) : Type 0 where
  pub answer : Answer
  pub called : IsAnswer build files heard (Ok answer)
  pub right : answer.right ≡ true
  pub stands : stand ≡ put_outputs files answer.writes
  pub said : sinks.new.held ≡ option_map (λ held. held ++ answer.line) sinks.old.held

pub ends_done : (build : List (List ℕ)) (files stand : Files) (heard : ListenersHeard) (before after : ShelfState) (sinks : Sinks) → RunEnds build files heard before after sinks.old sinks.new status.Done → after.files ≡ Some stand
    → EndsDone build files stand heard sinks
ends_done build files stand heard before after sinks h e = record {
  answer = h.ends.answer;
  called = h.ends.called.called;
  right = h.ends.right_is;
  stands = some_is_same stand (put_outputs files h.ends.answer.writes) (sym e ∙ h.ends.stands);
  said = h.said ∙ ap (λ (l : List ℕ). option_map (λ held. held ++ l) sinks.old.held) h.ends.line_is;
}

-- an answer that is a line alone has no output that could be broken
never_broken : (called : Result Answer Status → Type 0) (Sole : Type 0) (which : Role) (files : Files) (after : Option Files) (line : List ℕ) → ((given : Result Answer Status) → called given → given ≡ Ok (only_line line)) → IsBrokenBy Sole called which files after → ⊥
never_broken called Sole which files after line one h =
    subst (λ (a : Answer). StandsUpTo which files after a.writes) (same_ok h.answer (only_line line) (one (Ok h.answer) h.called.called)) h.stands

never_refused : (called : Result Answer Status → Type 0) (Sole : Type 0) (line : List ℕ) (s : Status) → ((given : Result Answer Status) → called given → given ≡ Ok (only_line line)) → IsTheAnswer Sole called (Err s) → ⊥
never_refused called Sole line s one h = let e = one (Err s) h.called in absurd cc

ends_yes : (check : List (List ℕ)) (others : Files) (heard : ListenersHeard) (first last : ShelfState) (old new : SinkState) (spelled : Spelling) (counts : Counts) (s : Status)
    → ((given : Result Answer Status) → IsAnswer check others heard given → given ≡ Ok (only_line (yes_row spelled counts.sectors (totals_of counts))))
    → RunEnds check others heard first last old new s → ChecksYes spelled counts old new s
ends_yes check others heard first last old new spelled counts status.Done one h =
    h.said ∙ ap (λ (l : List ℕ). option_map (λ held. held ++ l) old.held) (h.ends.line_is ∙ ap (λ (a : Answer). a.line) (same_ok h.ends.answer (only_line (yes_row spelled counts.sectors (totals_of counts))) (one (Ok h.ends.answer) h.ends.called.called)))
ends_yes check others heard first last old new spelled counts (status.Memory _) one h = tt
ends_yes check others heard first last old new spelled counts (status.ReadFault k) one h = tt
ends_yes check others heard first last old new spelled counts (status.WriteFault role.Text) one h = tt
ends_yes check others heard first last old new spelled counts status.NotRight one h =
    let right : true ≡ false = sym (ap (λ (a : Answer). a.right) (same_ok h.ends.answer (only_line (yes_row spelled counts.sectors (totals_of counts))) (one (Ok h.ends.answer) h.ends.called.called))) ∙ h.ends.right_is in absurd cc
ends_yes check others heard first last old new spelled counts (status.WriteFault k) one h = never_broken (IsAnswer check others heard) _ k others last.files _ one h.ends.0
ends_yes check others heard first last old new spelled counts s one h = never_refused (IsAnswer check others heard) _ _ s one h.ends.0

pub built_run_is_checked : BuiltRunIsChecked
built_run_is_checked build check name out cert spelled files stand others heard unheard before after first last building checking s ask ran e have short h =
    let done = ends_done build files stand heard before after building ran e in
    let both : HaveBoth (put_outputs files done.answer.writes) others out cert = record { at_out = have.at_out ∙ ap (λ (f : Files). f out) done.stands; at_cert = have.at_cert ∙ ap (λ (f : Files). f cert) done.stands } in
    let yes = built_is_checked build check name out cert spelled files others heard done.answer ask done.called both short in
    record {
      counts = yes.counts;
      built = done.said ∙ ap (λ (l : List ℕ). option_map (λ held. held ++ l) building.old.held) yes.built;
      checked = ends_yes check others unheard first last checking.old checking.new spelled yes.counts s (yes.only unheard) h;
    }
