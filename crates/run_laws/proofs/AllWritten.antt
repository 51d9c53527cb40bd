-- What `all` makes of a map is what `build` makes of it, and what the WAD that it wrote keeps of the one that was read.
use Rattle.std.proofs.Common.{◌≡◌, ◌*◌, ◌^◌, ◌<◌, ℕ, Bool, List, [], ◌∷◌, length, Contains, Option, Some, None, Result, Ok, Err, refl, sym, ap, ◌∙◌, subst}
use Rattle.std.specs.Int.{div_ceil}
use Rattle.std.specs.List.{AllByRecursion}
use Rattle.std.proofs.lemmas.Option.{slice_get-get_or}
use Rattle.math_base.proofs.Lists.{all_at, all_so}
use Rattle.sight_names.specs.declared.limits.TheConstants.{MOST_BYTES}
use Rattle.sight_names.specs.declared.faults.MapFault.{MapFault}
use Rattle.sight_names.specs.declared.names.Method.{Method}
use Rattle.sight_names.specs.Map.{Map}
use Rattle.shelf_io.specs.Shelf.{Files, content_of}
use Rattle.wad_dir.specs.declared.parts.MapSpot.{MapSpot}
use Rattle.wad_dir.specs.Print.{with_reject}
use Rattle.wad_dir.specs.Wad.{WadFile, names_of_lumps, wad_of}
use Rattle.wad_dir.proofs.Eight.{HasNames, names_read, names_rewritten}
use Rattle.wad_dir.proofs.WadRewrite.Reading.{printed_reads}
use Rattle.wad_dir.specs.declared.all_maps.parts.Change.{Change}
use Rattle.wad_dir.specs.AllMaps.All.{HasInOrder, HasReject, IsAll, names_changed, with_all}
use Rattle.wad_dir.proofs.AllMaps.InOrder.{in_order_through}
use Rattle.wad_dir.specs.AllMaps.Maps.{maps_in_names}
use Rattle.wad_dir.specs.AllMaps.Names.{name_before_nul}
use Rattle.wad_dir.proofs.AllMaps.Lasting.{each_table_is_there}
use Rattle.wad_dir.proofs.AllMaps.Merging.{all_spliced, each_change_is_made}
use Rattle.wad_dir.specs.AllMaps.Spliced.{spliced}
use Rattle.refused_maps.specs.declared.Refused.{Refused}
use Rattle.order_words.specs.declared.order.Order.TheVariants as order
use Rattle.order_words.specs.declared.order.ReportFile.{ReportFile}
use Rattle.order_words.specs.declared.order.Source.{Source}
use Rattle.map_answers.specs.declared.sight_status.status.Status.{Status}
use Rattle.map_answers.specs.SightStatus.Answer.{Answer, ◌>>=◌}
use Rattle.map_answers.specs.Input.{LocatedMap, found_in, map_at, map_named, of_spot, of_wad}
use Rattle.whole_wad.specs.declared.outcomes.MapOutcome.{MapOutcome}
use Rattle.whole_wad.specs.declared.tables.MapTable.{MapTable}
use Rattle.whole_wad.specs.Outcomes.{AreOutcomes, ComesOf, changes_of}
use Rattle.whole_wad.specs.Report.{outcomes_report}
use Rattle.whole_wad.specs.Tables.{Gets}
use Rattle.whole_wad.proofs.Changing.{changed_in_order}
use Rattle.whole_wad.proofs.OneOutcome.{one_got}
use Rattle.sight_run.specs.All.{AllCalls, MapsCall, OnRead, ShowsAll, maps_in, wad_in}
use Rattle.sight_run.specs.Build.{wad_output}
use Rattle.run_laws.specs.Laws.{AllIsAsBuild, AllKeepsLumps, HasLengthOf, KeepsAllLumps, table_built}
use Rattle.sight_run.specs.Obeys.{AnswersOrder}
use Rattle.sight_run.specs.Reading.{found_of, of_fetch}
use Rattle.sight_run.specs.Run.{put_outputs}
use Rattle.sight_run.specs.Words.{asked_of, file_in, spelling_in}
use Rattle.run_laws.proofs.Keeping.{stored}
use Rattle.sight_run.proofs.Round.{passes, same_ok, was_found, was_wad}
use Rattle.sight_run.proofs.Stood.{before_report, of_words, out_apart}
use Rattle.sight_run.proofs.Whole.{asked_are_maps}
use Rattle.run_laws.proofs.SameMaps.{HasSameMap, each_map_is_there}

-- ---- one WAD, and one map of a name

-- the bytes that were fetched, and the WAD that they are
pub record IsFetched (wad : List ℕ) (files : Files) (w : WadFile) : Type 0 where
  pub bytes : List ℕ
  pub fetched : of_fetch (content_of (files wad) MOST_BYTES) ≡ Ok bytes
  pub read : wad_of bytes ≡ Ok w

pub fetched_wad : (wad : List ℕ) (files : Files) (w : WadFile) → wad_in wad files ≡ Ok w → IsFetched wad files w
unfolding wad_in
fetched_wad wad files w h = let p = passes (of_fetch (content_of (files wad) MOST_BYTES)) (λ (b : List ℕ). of_wad (wad_of b)) w h in record { bytes = p.x; fetched = p.step; read = was_wad (wad_of p.x) w p.rest }

named_by : Bool → WadFile → Result MapSpot MapFault → Result Map Status
named_by large w r = of_spot r >>= (λ s. map_at large w s)

-- the map that was found is the one of its name in the WAD
pub named_there : (wad : Source) (name : List ℕ) (files : Files) (w : WadFile) (found : LocatedMap) → wad_in wad.file files ≡ Ok w → found_of wad name files ≡ Ok found → map_named wad.large w name ≡ Ok found.map
unfolding found_of map_named named_by
named_there wad name files w found is_wad is_found =
    let a = fetched_wad wad.file files w is_wad in
    let p = passes (of_fetch (content_of (files wad.file) MOST_BYTES)) (λ bs. found_in wad.large name bs) found is_found in
    let bytes : a.bytes ≡ p.x = same_ok a.bytes p.x (sym a.fetched ∙ p.step) in
    let f = was_found wad.large name p.x found p.rest in
    let wads : w ≡ found.wad = same_ok w found.wad (sym a.read ∙ ap wad_of bytes ∙ f.read) in
    ap (λ (v : WadFile). map_named wad.large v name) wads ∙ ap (named_by wad.large found.wad) f.spot ∙ f.map

-- ---- what is made of a map

contained : {A : Type 0} (P : A → Type 0) (xs : List A) (x : A) → AllByRecursion P xs → Contains xs x → P x
contained P xs x all c = all_at P xs all c.0 x (slice_get-get_or xs c.0 x c.1 ∙ ap (λ y. Some y) c.2)

module _ (wad : Source) (name : List ℕ) (files : Files) (w : WadFile) (found : LocatedMap) (maps : List (List ℕ)) (method : Method) (choice : Refused) (outcomes : List MapOutcome) (is_wad : wad_in wad.file files ≡ Ok w) (is_found : found_of wad name files ≡ Ok found) (are : AreOutcomes w wad.large maps method choice outcomes) where
  got : (o : MapOutcome) → Contains outcomes o → name_before_nul o.name ≡ name → Gets (Ok found.map) method o.made
  got o c e =
      let is : map_named wad.large w (name_before_nul o.name) ≡ Ok found.map = ap (map_named wad.large w) e ∙ named_there wad name files w found is_wad is_found in
      subst (λ (r : Result Map Status). Gets r method o.made) is (contained (ComesOf w wad.large method choice) outcomes o are.comes c).gets

  made_as : (o : MapOutcome) → Contains outcomes o → name_before_nul o.name ≡ name → (made : Result MapTable Status) → Gets (Ok found.map) method made → o.made ≡ made
  made_as o c e made h = one_got (Ok found.map) method o.made made (got o c e) h

pub all_is_as_build : AllIsAsBuild
all_is_as_build wad name files w found maps method choice outcomes is_wad is_found are = record {
  tables = λ o c e built h. made_as wad name files w found maps method choice outcomes is_wad is_found are o c e (Ok (table_built built)) (record { cert = built.cert; is_built = h });
  flaws = λ o c e refusal h. made_as wad name files w found maps method choice outcomes is_wad is_found are o c e (Err refusal) h;
}

-- ---- what is written

-- each lump of what comes of the changes has a name of eight bytes
names_all : (old new : WadFile) (cs : List Change) → IsAll old cs new → HasNames old.lumps → HasNames new.lumps
names_all old new [] made h = subst (λ (x : WadFile). HasNames x.lumps) (sym made) h
names_all old new (c ∷ cs) made h = names_all (with_reject old made.0 c.table) new cs made.2 (names_rewritten old made.0 c.table h)

has_length : (said : Result Map Status) (method : Method) (made : Result MapTable Status) → Gets said method made → HasLengthOf said made
has_length (Ok m) method (Ok made) h = h.is_built.table_is_whole.len ∙ ap (λ n. div_ceil (n * n) 8) h.is_built.sectors
has_length (Ok m) method (Err s) h = tt
has_length (Err s) method made h = tt

-- the WAD that stands under OUT: each table is the REJECT of its map, whose four lumps are as they were
pub record WasWritten (out : List ℕ) (w : WadFile) (outcomes : List MapOutcome) (stand : Files) : Type 0 where
  pub bytes : List ℕ
  pub stands : stand out ≡ Some bytes
  pub short : length bytes < 2 ^ 31
  pub new : WadFile
  pub read : wad_of bytes ≡ Ok new
  pub made : IsAll w (changes_of outcomes) new
  pub tables : AllByRecursion (λ (c : Change). HasReject new c.name c.table) (changes_of outcomes)
  pub same : AllByRecursion (λ (c : Change). HasSameMap w new c.name) (changes_of outcomes)
  pub lumps : new.lumps ≡ spliced (names_of_lumps w) w.lumps 0 (changes_of outcomes)

pub was_written : (words : List (List ℕ)) (wad : Source) (out : List ℕ) (only : Option (List (List ℕ))) (report : Option ReportFile) (workers : ℕ) (method : Method) (choice : Refused) (files : Files) (answer : Answer) (w : WadFile) (maps : List (List ℕ))
    → asked_of words ≡ Ok (order.All wad out only report workers method choice) → wad_in wad.file files ≡ Ok w → maps_in (names_of_lumps w) only ≡ Ok maps
    → (q : ShowsAll out report wad.large maps method choice w answer) → WasWritten out w q.outcomes (put_outputs files answer.writes)
was_written words wad out only report workers method choice files answer w maps is_asked e f q =
    let cs = changes_of q.outcomes in
    let among : HasInOrder (maps_in_names (names_of_lumps w)) (names_changed cs) =
    in_order_through (maps_in_names (names_of_lumps w)) maps (names_changed cs) (asked_are_maps (names_of_lumps w) only maps f)
    (subst (λ (ms : List (List ℕ)). HasInOrder ms (names_changed cs)) q.are.each (changed_in_order q.outcomes)) in
    let made : IsAll w cs (with_all w cs) = each_change_is_made w cs among in
    let old = fetched_wad wad.file files w e in
    let printed = printed_reads (with_all w cs) q.bytes (names_all w (with_all w cs) cs made (names_read old.bytes w old.read)) q.made in
    record {
      bytes = q.bytes;
      stands = ap (λ (a : Answer). put_outputs files a.writes out) q.is ∙ before_report files (wad_output out q.bytes ∷ []) (file_in report) (outcomes_report (spelling_in report) q.outcomes) out (out_apart wad.file out None (file_in report) (of_words words (order.All wad out only report workers method choice) is_asked)).1 ∙ stored files out q.bytes;
      short = printed.short;
      new = with_all w cs;
      read = printed.read;
      made = made;
      tables = each_table_is_there w cs among;
      same = each_map_is_there w cs among;
      lumps = ap (λ (x : WadFile). x.lumps) (all_spliced w cs among);
    }

pub all_keeps_lumps : AllKeepsLumps
all_keeps_lumps words wad out only report workers method choice files heard answer is_asked h = on (wad_in wad.file files) refl (subst (λ r. AnswersOrder r files heard (Ok answer)) is_asked h)
  where
    of_maps : (w : WadFile) (r : Result (List (List ℕ)) Status) → wad_in wad.file files ≡ Ok w → maps_in (names_of_lumps w) only ≡ r → OnRead r (λ maps. MapsCall out report wad.large maps method choice w) (Ok answer) → KeepsAllLumps wad out only method choice files (put_outputs files answer.writes)
    of_maps w (Err s) e f q = absurd cc
    of_maps w (Ok maps) e f q =
        let x = was_written words wad out only report workers method choice files answer w maps is_asked e f q in
        record {
          w = w;
          was = e;
          maps = maps;
          asked = f;
          outcomes = q.outcomes;
          are = q.are;
          lengths = all_so (ComesOf w wad.large method choice) (λ (o : MapOutcome). HasLengthOf (map_named wad.large w (name_before_nul o.name)) o.made) q.outcomes (λ o k. has_length (map_named wad.large w (name_before_nul o.name)) method o.made k.gets) q.are.comes;
          bytes = x.bytes;
          stands = x.stands;
          short = x.short;
          new = x.new;
          read = x.read;
          made = x.made;
          tables = x.tables;
          lumps = x.lumps;
        }

    on : (r : Result WadFile Status) → wad_in wad.file files ≡ r → OnRead r (AllCalls out wad.large only report method choice) (Ok answer) → KeepsAllLumps wad out only method choice files (put_outputs files answer.writes)
    on (Err s) e q = absurd cc
    on (Ok w) e q = of_maps w (maps_in (names_of_lumps w) only) e refl q
