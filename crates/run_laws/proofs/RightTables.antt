-- What `check` and `build` that were done tell of sight, and that builds leave one WAD.
use Rattle.std.proofs.Common.{◌≡◌, ◌⊎◌, ◌<◌, ◌^◌, inl, inr, ℕ, ◌+◌, ◌*◌, List, [], ◌∷◌, ◌++◌, length, Contains, Bool, true, false, if◌then◌else◌, nat_lt, Option, Some, None, Result, Ok, Err, refl, sym, ap, ◌∙◌, subst, arith}
use Rattle.std.specs.Prelude.{codes, ◌==◌}
use Rattle.std.specs.Int.{div_ceil}
use Rattle.std.specs.Option.{option_map}
use Rattle.std.proofs.lemmas.Bool.Decides.{Decides-eqb}
use Rattle.math_base.proofs.Lists.{contains_none}
use Rattle.math_base.proofs.Numbers.{below_or_above, below_or_not, place_within, same_or_not}
use Rattle.sight_names.specs.declared.faults.CertFault.{CertFault}
use Rattle.sight_names.specs.declared.faults.CertFault.TheVariants as cert_fault
use Rattle.sight_names.specs.declared.faults.FetchFault.TheVariants as fetch
use Rattle.sight_names.specs.declared.faults.TableFault.TheVariants as table_fault
use Rattle.sight_names.specs.declared.names.Method.{Method}
use Rattle.sight_names.specs.declared.names.Ask.TheVariants.{Enough, Full}
use Rattle.sight_names.specs.declared.names.Budget.{Budget}
use Rattle.sight_names.specs.declared.names.Method.TheVariants as how
use Rattle.sight_names.specs.declared.names.Pair.{Pair}
use Rattle.sight_names.specs.Groups.{IsListedByGroups}
use Rattle.sight_names.specs.Map.{Map}
use Rattle.sight_names.specs.Sees.{Sees}
use Rattle.sight_names.specs.Table.{IsTable, Rejected, table_bit}
use Rattle.sight_names.proofs.Laws.{sees_sym}
use Rattle.shelf_io.specs.Shelf.{Files, content_of}
use Rattle.wad_dir.specs.Map.{same_name}
use Rattle.reject_bits.specs.Parts.{Rejects, TableParts}
use Rattle.cert_format.specs.Parts.{CertParts}
use Rattle.cert_format.specs.declared.cert_groups.cert.AnyCert.TheVariants.{One, Two}
use Rattle.certificates.specs.declared.certificate.Certificate.{Certificate}
use Rattle.certificates.specs.declared.certificate.Certificate.TheVariants.{Listing, Exact}
use Rattle.certificates.specs.Reading.{certificate_at}
use Rattle.cert_checker.specs.Sight.{TellsSightOne}
use Rattle.group_checker.specs.declared.verdict.AnyVerdict.{AnyVerdict}
use Rattle.group_checker.specs.declared.verdict.AnyVerdict.TheVariants as verdict
use Rattle.group_checker.specs.Judged.{IsYesAny, with_list}
use Rattle.row_spelling.specs.declared.Spelling.{Spelling}
use Rattle.row_spelling.specs.declared.Spelling.TheVariants as spelling
use Rattle.group_job.specs.Sectors.{AreListed}
use Rattle.order_words.specs.declared.order.Order.TheVariants as order
use Rattle.order_words.specs.declared.order.Source.{Source}
use Rattle.order_words.specs.Words.{wad_source}
use Rattle.map_answers.specs.declared.sight_status.status.Status.{Status}
use Rattle.map_answers.specs.declared.sight_status.status.Status.TheVariants as status
use Rattle.map_answers.specs.declared.sight_status.status.Why.TheVariants as why
use Rattle.map_answers.specs.SightStatus.Answer.{Answer}
use Rattle.map_answers.specs.Counts.{counts_with}
use Rattle.map_answers.specs.Input.{LocatedMap, OnFound, found_in}
use Rattle.gate_floods.specs.Exact.{TellsAll}
use Rattle.any_judge.specs.Accepted.{TellsSight as TellsSightBy}
use Rattle.whole_wad.specs.declared.building.Built.{Built}
use Rattle.whole_wad.specs.Built.{IsBuiltOf, ask_of}
use Rattle.whole_wad.specs.Sizes.{sizes_of_map}
use Rattle.sight_run.specs.Build.{BuildCalls, ShowsBuild}
use Rattle.sight_run.specs.Check.{CheckCalls, CheckInput, IsTableOfBytes, IsVerdictSpelled, OnCheckInput, cert_of_bytes, check_input, finding_of_verdict, no_object, of_cert_fetch, of_length, of_reading, refused_as, reject_bytes, told_as, why_no}
use Rattle.run_laws.specs.Headline.{BuildLeavesLumps, BuildsLeaveOneWad, BuiltIsRight, CheckedIsRight, ExactIsRight, HasRightReject, IsRightTable, LeavesExactReject, LeavesExactTable, LeavesRightReject, WasDone, listed_of}
use Rattle.sight_run.specs.Heard.{ListenersHeard}
use Rattle.run_laws.specs.Laws.{HasTableLength, KeepsLumps, Sinks}
use Rattle.sight_run.specs.Obeys.{AnswersOrder}
use Rattle.sight_run.specs.Reading.{found_of}
use Rattle.sight_run.specs.Run.{put_outputs}
use Rattle.sight_run.specs.Words.{given, has_twice}
use Rattle.whole_wad.specs.Rejects.{table_len}
use Rattle.run_laws.proofs.Checked.{EndsDone, ends_done, wad_fetched}
use Rattle.sight_run.proofs.CheckInputs.{input_as, input_by, with_cert, with_parts}
use Rattle.run_laws.proofs.Keeping.{build_keeps_lumps, built_stands}
use Rattle.sight_run.proofs.OneLine.{one_line, one_wad}
use Rattle.sight_run.proofs.Round.{found_again, found_then, passes, same_ok}
use Rattle.sight_run.proofs.Stood.{bytes_of, of_words}
use Rattle.pair_answer.proofs.Sectors.{listed_back}

-- ---- what a run that was done answered

pub was_answered : (words : List (List ℕ)) (files stand : Files) (done : WasDone words files stand) → EndsDone words files stand done.heard done.sink
was_answered words files stand done = ends_done words files stand done.heard done.before done.after done.sink done.ends done.left

-- ---- what `check` read

was_table : (n : ℕ) (bytes t : List ℕ) → of_length n bytes ≡ Ok t → (bytes ≡ t) × IsTable n bytes
was_table n bytes t h = by (length bytes == table_len n) refl h
  where
    by : (b : Bool) → (length bytes == table_len n) ≡ b → (if b then Ok bytes else Err (status.No (why.Table (table_fault.WrongLength (length bytes) (table_len n))))) ≡ Ok t → (bytes ≡ t) × IsTable n bytes
    by true e q = (same_ok bytes t q, (Decides-eqb (length bytes) (table_len n)).0 e)
    by false e q = absurd cc

was_fetched : (o : Option (List ℕ)) (bytes : List ℕ) → of_cert_fetch (content_of o 9223372036854775807) ≡ Ok bytes → o ≡ Some bytes
was_fetched None bytes h = absurd cc
was_fetched (Some file) bytes h = by (nat_lt 9223372036854775807 (length file)) h
  where
    by : (b : Bool) → of_cert_fetch (if b then Err fetch.TooLong else Ok file) ≡ Ok bytes → Some file ≡ Some bytes
    by true q = absurd cc
    by false q = ap (λ (x : List ℕ). Some x) (same_ok file bytes q)

was_read : (r : Result Certificate CertFault) (c : Certificate) → of_reading r ≡ Ok c → r ≡ Ok c
was_read (Ok d) c h = ap (λ (x : Certificate). Ok x) (same_ok d c h)
was_read (Err (cert_fault.Memory _)) c h = absurd cc
was_read (Err fault) c h = absurd cc

-- the table that was judged is the map's REJECT, and the certificate is the one that the file spells
record WasInput (name : List ℕ) (found : LocatedMap) (files : Files) (input : CheckInput) : Type 0 where
  table : reject_bytes found ≡ input.table
  long : IsTable found.map.sectors (reject_bytes found)
  bytes : List ℕ
  stands : files name ≡ Some bytes
  spelled : certificate_at (sizes_of_map found.map) bytes ≡ Ok input.cert

was_input : (name : List ℕ) (found : LocatedMap) (files : Files) (input : CheckInput) → check_input name found files ≡ Ok input → WasInput name found files input
was_input name found files input h =
    let a = passes (of_length found.map.sectors (reject_bytes found)) (λ t. with_cert found.map t (of_cert_fetch (content_of (files name) 9223372036854775807))) input (sym (input_by name found files) ∙ h) in
    let b = passes (of_cert_fetch (content_of (files name) 9223372036854775807)) (λ bytes. with_parts a.x (cert_of_bytes found.map bytes)) input a.rest in
    let c = passes (cert_of_bytes found.map b.x) (λ parts. Ok (input_as a.x parts)) input b.rest in
    let is : input_as a.x c.x ≡ input = same_ok (input_as a.x c.x) input c.rest in
    let taken = was_table found.map.sectors (reject_bytes found) a.x a.step in
    record {
      table = taken.0 ∙ ap (λ (i : CheckInput). i.table) is;
      long = taken.1;
      bytes = b.x;
      stands = was_fetched (files name) b.x b.step;
      spelled = was_read (certificate_at (sizes_of_map found.map) b.x) c.x c.step ∙ ap (λ (i : CheckInput). Ok i.cert) is;
    }

-- ---- what `check` tells of it

module _ (m : Map) (bytes : List ℕ) (t : TableParts) (spelled : IsTableOfBytes m.sectors bytes t) (long : IsTable m.sectors bytes) where
  -- a bit of the table is that of the bytes
  bit : (a b : ℕ) → a < m.sectors → b < m.sectors → table_bit t.bytes (a * t.n + b) ≡ table_bit bytes (a * m.sectors + b)
  bit a b la lb = ap (λ (n : ℕ). table_bit t.bytes (a * n + b)) spelled.sectors ∙ spelled.bits (a * m.sectors + b) (place_within a b m.sectors la lb)

  is_clear : (a b : ℕ) → a < m.sectors → b < m.sectors → ¬ Rejected m.sectors bytes a b → ¬ Rejects t a b
  is_clear a b la lb clear set = clear (sym (bit a b la lb) ∙ set)

  right_by : (c : CertParts) → TellsSightOne m t c → IsRightTable m bytes (AreListed c.listed)
  right_by c h = record {
    long = long;
    blind = λ a b la lb set. h.blind a b la lb (bit a b la lb ∙ set);
    seen = λ a b la lb clear none. elim (below_or_not b a) as (λ _. Sees m a b) [
      | inl lt ↦ sees_sym m b a (h.seen b a (omega (arith, lt)) la (inr (is_clear a b la lb clear)) (λ l. none (inr l)))
      | inr le ↦ h.seen a b le lb (inl (is_clear a b la lb clear)) (λ l. none (inl l))
    ];
  }

  -- where no pair is listed a bit tells of each two sectors
  right_by_all : TellsAll m t → IsRightTable m bytes (AreListed [])
  right_by_all h = record {
    long = long;
    blind = λ a b la lb set. h.blind a b la lb (bit a b la lb ∙ set);
    seen = λ a b la lb clear none. h.seen a b la lb (is_clear a b la lb clear);
  }

  right_by_any : (c : Certificate) → TellsSightBy m t c → IsRightTable m bytes (AreListed (listed_of c))
  right_by_any (Listing (One c)) h = right_by c h
  right_by_any (Listing (Two c sizes)) h = right_by (with_list c) h
  right_by_any (Exact c) h = right_by_all h

-- an answer with which all is right tells a yes
yes_told : (spelled : Spelling) (n : ℕ) (v : AnyVerdict) (answer : Answer) → answer.right ≡ true → Ok answer ≡ told_as spelled n (finding_of_verdict v) → IsYesAny v
yes_told spelled n (verdict.Yes totals) answer right e = tt
yes_told spelling.Text n (verdict.No f) answer right e = absurd cc
yes_told spelling.Json n (verdict.No f) answer right e =
    let wrong : true ≡ false = sym right ∙ ap (λ (a : Answer). a.right) (same_ok answer (no_object (why_no f)) e) in absurd cc

-- .. and no refusal
right_unrefused : (spelled : Spelling) (s : Status) (answer : Answer) → answer.right ≡ true → Ok answer ≡ refused_as spelled s → ⊥
right_unrefused spelling.Text (status.No which) answer right e = cc
right_unrefused spelling.Json (status.No which) answer right e = let wrong : true ≡ false = sym right ∙ ap (λ (a : Answer). a.right) (same_ok answer (no_object which) e) in cc
right_unrefused spelled s answer right e = cc

module _ (wad : Source) (name cert : List ℕ) (spelled_as : Spelling) (files : Files) (answer : Answer) (all_right : answer.right ≡ true) where
  right_verdict : (found : LocatedMap) (input : CheckInput) → found_of wad name files ≡ Ok found → check_input cert found files ≡ Ok input → IsVerdictSpelled spelled_as found.map input (Ok answer) → HasRightReject wad name cert files
  right_verdict found input is read v =
      let w = was_input cert found files input read in
      let spelled : IsTableOfBytes found.map.sectors (reject_bytes found) v.table = subst (λ (bs : List ℕ). IsTableOfBytes found.map.sectors bs v.table) (sym w.table) v.is_table in
      record {
        found = found;
        is_found = is;
        bytes = w.bytes;
        stands = w.stands;
        given = input.cert;
        spelled = w.spelled;
        right = right_by_any found.map (reject_bytes found) v.table spelled w.long input.cert (v.judged.sight (yes_told spelled_as found.map.sectors v.verdict answer all_right v.told));
      }

  right_input : (found : LocatedMap) (r : Result CheckInput Status) → found_of wad name files ≡ Ok found → check_input cert found files ≡ r → OnCheckInput spelled_as found.map r (Ok answer) → HasRightReject wad name cert files
  right_input found (Ok input) is read h = right_verdict found input is read h
  right_input found (Err s) is read h = absurd (right_unrefused spelled_as s answer all_right h)

  right_check : (r : Result LocatedMap Status) → found_of wad name files ≡ r → OnFound r (CheckCalls spelled_as cert files) (Ok answer) → HasRightReject wad name cert files
  right_check (Ok found) is h = right_input found (check_input cert found files) is refl h.1
  right_check (Err s) is h = absurd cc

pub checked_is_right : CheckedIsRight
checked_is_right words wad name cert spelled files stand asked done =
    let e = was_answered words files stand done in
    right_check wad name cert spelled files e.answer e.right (found_of wad name files) refl (subst (λ r. AnswersOrder r files done.heard (Ok e.answer)) asked e.called)

-- ---- what a build tells of its table

module _ (m : Map) (method : Method) (built : Built) (is : IsBuiltOf m method built) where
  abbrev allowed : Budget
  allowed = is.decided.budget

  at_place : (a b : ℕ) → table_bit built.table.bytes (a * built.table.n + b) ≡ table_bit built.table.bytes (a * m.sectors + b)
  at_place a b = ap (λ (n : ℕ). table_bit built.table.bytes (a * n + b)) is.sectors

  in_list : (a b : ℕ) → Contains built.listed (record { a = a; b = b }) → IsListedByGroups m allowed a b
  in_list a b c = ((is.decided.listed_are (record { a = a; b = b })).0 c).1

  right_built : IsRightTable m built.table.bytes (IsListedByGroups m allowed)
  right_built = record {
    long = is.table_is_whole.len ∙ ap (λ (n : ℕ). div_ceil (n * n) 8) is.sectors;
    blind = λ a b la lb set. is.sight.blind a b la lb (at_place a b ∙ set);
    seen = λ a b la lb clear none. is.sight.seen a b la lb (λ set. clear (sym (at_place a b) ∙ set)) (λ c. none (in_list a b c)) (λ c. none (listed_back m allowed b a (in_list b a c)));
  }

  clear_built : (a b : ℕ) → a < m.sectors → b < m.sectors → IsListedByGroups m allowed a b → ¬ Rejected m.sectors built.table.bytes a b
  clear_built a b la lb l set = ((is.decided.bits a b la lb).0 (at_place a b ∙ set)).1 l

  no_list : (ask_of method ≡ Enough) ⊎ (ask_of method ≡ Full) → built.listed ≡ []
  no_list (inl e) = is.none_listed e
  no_list (inr e) = is.none_listed_in_full e

  below_unlisted : (a b : ℕ) → built.listed ≡ [] → a < b → ¬ IsListedByGroups m allowed a b
  below_unlisted a b none lt l = contains_none (record { a = a; b = b }) (subst (λ (ps : List Pair). Contains ps (record { a = a; b = b })) none ((is.decided.listed_are (record { a = a; b = b })).1 (lt, l)))

  none_built : (ask_of method ≡ Enough) ⊎ (ask_of method ≡ Full) → (a b : ℕ) → ¬ IsListedByGroups m allowed a b
  none_built all a b l = elim (below_or_above a b l.differ) as (λ _. ⊥) [
    | inl lt ↦ below_unlisted a b (no_list all) lt l
    | inr gt ↦ below_unlisted b a (no_list all) gt (listed_back m allowed a b l)
  ]

-- ---- what a build left

-- what a table that was built tells where it is the REJECT of the same map under OUT
pub leaves_right : (wad : Source) (name out : List ℕ) (method : Method) (files stand : Files) (found new : LocatedMap) → found_of wad name files ≡ Ok found → found_of (wad_source wad.large out) name stand ≡ Ok new → new.map ≡ found.map
    → (built : Built) → IsBuiltOf found.map method built → reject_bytes new ≡ built.table.bytes → LeavesRightReject wad name out method files stand
leaves_right wad name out method files stand found new is is_new same built is_built reads =
    let allowed : Budget = is_built.decided.budget in
    record {
      found = found;
      is_found = is;
      new = new;
      is_new = is_new;
      same = same;
      allowed = allowed;
      is_allowed = is_built.decided.is_budget;
      right = subst (λ (bs : List ℕ). IsRightTable found.map bs (IsListedByGroups found.map allowed)) (sym reads) (right_built found.map method built is_built);
      clear = λ a b la lb l. subst (λ (bs : List ℕ). ¬ Rejected found.map.sectors bs a b) (sym reads) (clear_built found.map method built is_built a b la lb l);
      exact = none_built found.map method built is_built;
    }

-- where every pair is decided a bit tells of each two sectors
pub leaves_exact : (wad : Source) (name out : List ℕ) (files stand : Files) → LeavesRightReject wad name out how.Exact files stand → LeavesExactTable wad name out files stand
leaves_exact wad name out files stand right =
    let none = right.exact (inr refl) in
    record {
      found = right.found;
      is_found = right.is_found;
      new = right.new;
      is_new = right.is_new;
      same = right.same;
      long = right.right.long;
      bits = λ a b la lb. (right.right.blind a b la lb, λ unseen. set_bit a b (λ clear. unseen (right.right.seen a b la lb clear (none a b))));
      seen = λ a b la lb clear. right.right.seen a b la lb clear (none a b);
    }
  where
    -- a bit that isn't clear is set
    set_bit : (a b : ℕ) → ¬ ¬ Rejected right.found.map.sectors (reject_bytes right.new) a b → Rejected right.found.map.sectors (reject_bytes right.new) a b
    set_bit a b h = elim (same_or_not (table_bit (reject_bytes right.new) (a * right.found.map.sectors + b)) 1) as (λ _. Rejected right.found.map.sectors (reject_bytes right.new) a b) [
      | inl set ↦ set
      | inr clear ↦ absurd (h clear)
    ]

pub found_there : (large : Bool) (name out bytes : List ℕ) (stand : Files) (found : LocatedMap) → stand out ≡ Some bytes → length bytes < 2 ^ 31 → found_in large name bytes ≡ Ok found → found_of (wad_source large out) name stand ≡ Ok found
unfolding found_of
found_there large name out bytes stand found there short is = wad_fetched large (stand out) name bytes found there short is

module _ (wad : Source) (name out : List ℕ) (cert report : Option (List ℕ)) (method : Method) (files stand : Files) (heard : ListenersHeard) (found : LocatedMap) (answer : Answer) (apart : has_twice (wad.file ∷ out ∷ (given cert ++ given report)) ≡ false) (shows : ShowsBuild name out cert report method found heard answer) (left : stand ≡ put_outputs files answer.writes) where
  -- the WAD with the table stands under OUT
  wad_stands : stand out ≡ Some shows.bytes
  wad_stands = ap (λ (f : Files). f out) left ∙ ap (λ (a : Answer). put_outputs files a.writes out) shows.is ∙ built_stands files wad.file out shows.bytes cert report shows.spelled shows.report apart

  right_left : found_of wad name files ≡ Ok found → same_name (codes "REJECT") name ≡ false → LeavesRightReject wad name out method files stand
  right_left is other =
      let old = bytes_of wad name files found is in
      let table : List ℕ = shows.built.table.bytes in
      let again = found_again wad.large name old.bytes table shows.bytes found old.are other shows.made in
      leaves_right wad name out method files stand found (found_then found table) is (found_there wad.large name out shows.bytes stand (found_then found table) wad_stands again.short again.again) refl shows.built shows.is_built again.reject

pub built_is_right : BuiltIsRight
built_is_right words wad name out cert report workers method files stand asked other done =
    let e = was_answered words files stand done in
    on (found_of wad name files) e.answer refl e.stands (subst (λ r. AnswersOrder r files done.heard (Ok e.answer)) asked e.called)
  where
    apart : has_twice (wad.file ∷ out ∷ (given cert ++ given report)) ≡ false
    apart = of_words words (order.Build wad name out cert report workers method) asked

    on : (r : Result LocatedMap Status) (answer : Answer) → found_of wad name files ≡ r → stand ≡ put_outputs files answer.writes → OnFound r (BuildCalls name out cert report method done.heard) (Ok answer) → LeavesRightReject wad name out method files stand
    on (Err s) answer is left h = absurd cc
    on (Ok found) answer is left h = right_left wad name out cert report method files stand done.heard found answer apart h left is other

-- what a build that decides every pair left
module _ (wad : Source) (name out : List ℕ) (cert report : Option (List ℕ)) (files stand : Files) (heard : ListenersHeard) (sink : Sinks) (found : LocatedMap) (answer : Answer) (apart : has_twice (wad.file ∷ out ∷ (given cert ++ given report)) ≡ false) (shows : ShowsBuild name out cert report how.Exact found heard answer) (left : stand ≡ put_outputs files answer.writes) where
  exact_left : found_of wad name files ≡ Ok found → same_name (codes "REJECT") name ≡ false → sink.new.held ≡ option_map (λ held. held ++ answer.line) sink.old.held → LeavesExactReject wad name out files stand sink
  exact_left is other said = record {
    table = leaves_exact wad name out files stand (right_left wad name out cert report how.Exact files stand heard found answer apart shows left is other);
    counts = counts_with shows.built.table (length shows.built.listed);
    none_listed = ap length shows.is_built.by_method.none_listed;
    said = said ∙ ap (λ (l : List ℕ). option_map (λ held. held ++ l) sink.old.held) (ap (λ (a : Answer). a.line) shows.is);
  }

pub exact_is_right : ExactIsRight
exact_is_right words wad name out cert report workers files stand asked other done =
    let e = was_answered words files stand done in
    on (found_of wad name files) e.answer refl e.stands e.said (subst (λ r. AnswersOrder r files done.heard (Ok e.answer)) asked e.called)
  where
    apart : has_twice (wad.file ∷ out ∷ (given cert ++ given report)) ≡ false
    apart = of_words words (order.Build wad name out cert report workers how.Exact) asked

    on : (r : Result LocatedMap Status) (answer : Answer) → found_of wad name files ≡ r → stand ≡ put_outputs files answer.writes → done.sink.new.held ≡ option_map (λ held. held ++ answer.line) done.sink.old.held → OnFound r (BuildCalls name out cert report how.Exact done.heard) (Ok answer) → LeavesExactReject wad name out files stand done.sink
    on (Err s) answer is left said h = absurd cc
    on (Ok found) answer is left said h = exact_left wad name out cert report files stand done.heard done.sink found answer apart h left is other said

pub build_leaves_lumps : BuildLeavesLumps
build_leaves_lumps words wad name out cert report workers method files stand asked other done =
    let e = was_answered words files stand done in
    subst (λ (fs : Files). KeepsLumps wad name out files fs HasTableLength) (sym e.stands) (build_keeps_lumps words wad name out cert report workers method files done.heard e.answer asked other e.called)

-- ---- two builds

pub builds_leave_one_wad : BuildsLeaveOneWad
builds_leave_one_wad words others wad name out cert report other_cert other_report workers other_workers method files stand other_stand asked other_asked one other =
    let a = was_answered words files stand one in
    let b = was_answered others files other_stand other in
    let same = on (found_of wad name files) a.answer b.answer a.stands b.stands (subst (λ r. AnswersOrder r files one.heard (Ok a.answer)) asked a.called) (subst (λ r. AnswersOrder r files other.heard (Ok b.answer)) other_asked b.called) in
    (same.0, (a.answer.line, a.said, b.said ∙ ap (λ (l : List ℕ). option_map (λ held. held ++ l) other.sink.old.held) (sym same.1)))
  where
    apart : has_twice (wad.file ∷ out ∷ (given cert ++ given report)) ≡ false
    apart = of_words words (order.Build wad name out cert report workers method) asked

    other_apart : has_twice (wad.file ∷ out ∷ (given other_cert ++ given other_report)) ≡ false
    other_apart = of_words others (order.Build wad name out other_cert other_report other_workers method) other_asked

    on : (r : Result LocatedMap Status) (x y : Answer) → stand ≡ put_outputs files x.writes → other_stand ≡ put_outputs files y.writes
        → OnFound r (BuildCalls name out cert report method one.heard) (Ok x) → OnFound r (BuildCalls name out other_cert other_report method other.heard) (Ok y) → (stand out ≡ other_stand out) × (x.line ≡ y.line)
    on (Err s) x y left other_left p q = absurd cc
    on (Ok found) x y left other_left p q = (
      wad_stands wad name out cert report method files stand one.heard found x apart p left
          ∙ ap (λ (bs : List ℕ). Some bs) (one_wad name out cert report other_cert other_report method found one.heard other.heard x y p q)
          ∙ sym (wad_stands wad name out other_cert other_report method files other_stand other.heard found y other_apart q other_left),
      one_line name out cert report other_cert other_report method found one.heard other.heard x y p q,
    )
