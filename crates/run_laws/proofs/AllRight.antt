-- What `all` that was done tells of sight: of each map that was built what a build of it tells.
use Rattle.std.proofs.Common.{◌≡◌, ◌^◌, ◌<◌, ◌↔◌, ℕ, List, [], ◌∷◌, ◌++◌, length, Bool, IsOk, Option, Some, None, Result, Ok, Err, refl, sym, ap, ◌∙◌, subst}
use Rattle.std.specs.Prelude.{IfErr, IfOk, IfSome, unwrap_or}
use Rattle.std.specs.List.{AllByRecursion, cons_option}
use Rattle.std.specs.Option.{option_map}
use Rattle.std.proofs.lemmas.Option.{unwrap_or-slice_get}
use Rattle.std.proofs.lemmas.Result.{IfOk-weaker}
use Rattle.math_base.proofs.Lists.{all_so}
use Rattle.sight_names.specs.declared.names.Method.{Method}
use Rattle.sight_names.specs.declared.names.Method.TheVariants as how
use Rattle.sight_names.specs.Groups.{HasClosedFaces}
use Rattle.sight_names.specs.Map.{Map}
use Rattle.shelf_io.specs.Shelf.{Files}
use Rattle.wad_dir.specs.declared.all_maps.parts.Change.{Change}
use Rattle.wad_dir.specs.declared.parts.MapSpot.{MapSpot}
use Rattle.wad_dir.specs.AllMaps.All.{HasReject}
use Rattle.wad_dir.specs.AllMaps.Names.{name_before_nul}
use Rattle.wad_dir.specs.Map.{spot_of}
use Rattle.wad_dir.specs.Wad.{WadFile, WadLump, names_of_lumps, wad_of}
use Rattle.certificates.specs.declared.certificate.Certificate.{Certificate}
use Rattle.refused_maps.specs.declared.Refused.{Refused}
use Rattle.refused_maps.specs.declared.Refused.TheVariants as refused
use Rattle.refused_maps.specs.Stops.{Stops}
use Rattle.order_words.specs.declared.order.Order.TheVariants as order
use Rattle.order_words.specs.declared.order.ReportFile.{ReportFile}
use Rattle.order_words.specs.declared.order.Source.{Source}
use Rattle.order_words.specs.Words.{wad_source}
use Rattle.map_answers.specs.declared.sight_status.status.Flaw.TheVariants as flaw
use Rattle.map_answers.specs.declared.sight_status.status.Status.{Status}
use Rattle.map_answers.specs.declared.sight_status.status.Status.TheVariants as status
use Rattle.map_answers.specs.SightStatus.Answer.{Answer, Written, ◌>>=◌}
use Rattle.map_answers.specs.Input.{LocatedMap, found_in, lump_at, map_at, map_named, of_spot, spelled_map}
use Rattle.whole_wad.specs.declared.outcomes.MapOutcome.{MapOutcome}
use Rattle.whole_wad.specs.declared.tables.MapTable.{MapTable}
use Rattle.whole_wad.specs.Built.{IsBuiltOf}
use Rattle.whole_wad.specs.declared.fate.Fate.{Fate}
use Rattle.whole_wad.specs.declared.fate.Fate.TheVariants as fate
use Rattle.whole_wad.specs.Outcomes.{ComesOf, change_by, changes_of, stop_of_all}
use Rattle.whole_wad.specs.Report.{outcomes_report}
use Rattle.whole_wad.specs.Tables.{Gets, IsTableOfMap, built_with}
use Rattle.sight_run.specs.All.{AllCalls, MapsCall, OnRead, ShowsAll, maps_in, wad_in}
use Rattle.sight_run.specs.Build.{report_behind, wad_output}
use Rattle.sight_run.specs.Check.{reject_bytes}
use Rattle.whole_wad.specs.Rejects.{clear_table, fate_of, reject_at, reject_named}
use Rattle.whole_wad.proofs.Stopping.{word_spot}
use Rattle.sight_run.specs.Obeys.{AnswersOrder}
use Rattle.sight_run.specs.Reading.{found_of}
use Rattle.sight_run.specs.Run.{put_outputs}
use Rattle.sight_run.specs.Words.{asked_of, file_in, spelling_in}
use Rattle.sight_run.proofs.Round.{found_with, is_found, lump_same, passes, same_ok, was_spot}
use Rattle.sight_run.proofs.Stood.{under_report}
use Rattle.run_laws.specs.Headline.{AllIsExact, AllIsRight, IsSoundIn, LeavesClearReject, LeavesExactTable, LeavesRejects, LeavesRightReject, WasDone}
use Rattle.run_laws.proofs.AllWritten.{fetched_wad, named_there, was_written}
use Rattle.run_laws.proofs.SameMaps.{HasSameMap}
use Rattle.run_laws.proofs.RightTables.{found_there, leaves_exact, leaves_right, was_answered}
use Rattle.whole_wad.proofs.OneOutcome.{no_flaw}

-- ---- the map of a name in the WAD

record IsFoundAt (wad : Source) (name : List ℕ) (files : Files) (m : Map) : Type 0 where
  found : LocatedMap
  is_found : found_of wad name files ≡ Ok found
  is_map : found.map ≡ m

found_named : (wad : Source) (name : List ℕ) (files : Files) (w : WadFile) (m : Map) → wad_in wad.file files ≡ Ok w → map_named wad.large w name ≡ Ok m → IsFoundAt wad name files m
unfolding found_of map_named
found_named wad name files w m is_wad is_map =
    let a = fetched_wad wad.file files w is_wad in
    let b = passes (of_spot (spot_of (names_of_lumps w) name)) (λ s. map_at wad.large w s) m is_map in
    let found : LocatedMap = found_with w b.x m in
    record {
      found = found;
      is_found = ap (λ (r : Result (List ℕ) Status). r >>= (λ bytes. found_in wad.large name bytes)) a.fetched ∙ is_found wad.large name a.bytes found (record { read = a.read; spot = was_spot (spot_of (names_of_lumps w) name) b.x b.step; map = b.rest });
      is_map = refl;
    }

-- what stands in the spot of a map's name is its map
named_spot : (large : Bool) (w : WadFile) (name : List ℕ) (m : Map) (spot : MapSpot) → map_named large w name ≡ Ok m → spot_of (names_of_lumps w) name ≡ Ok spot → map_at large w spot ≡ Ok m
unfolding map_named
named_spot large w name m spot is_map found =
    let b = passes (of_spot (spot_of (names_of_lumps w) name)) (λ s. map_at large w s) m is_map in
    let same : b.x ≡ spot = same_ok b.x spot (sym (was_spot (spot_of (names_of_lumps w) name) b.x b.step) ∙ found) in
    subst (λ (s : MapSpot). map_at large w s ≡ Ok m) same b.rest

-- ---- the same map under OUT

-- four lumps that are the same spell one map
map_alike : (large : Bool) (w new : WadFile) (name : List ℕ) (h : HasSameMap w new name) → map_at large new h.spot ≡ map_at large w h.was
map_alike large w new name h =
    let a = lump_same new w h.spot.linedefs h.was.linedefs h.linedefs in
    let b = lump_same new w h.spot.sidedefs h.was.sidedefs h.sidedefs in
    let c = lump_same new w h.spot.vertexes h.was.vertexes h.vertexes in
    let d = lump_same new w h.spot.sectors h.was.sectors h.sectors in
    (λ i. spelled_map (h.text i) (record { format = h.format i; large = large }) (a i) (b i) (c i) (d i))

abbrev nothing : WadLump
nothing = record { name = []; bytes = [] }

-- the map of a name as it was read, and as it is left with this REJECT
record IsThere (wad : Source) (out : List ℕ) (files stand : Files) (name table : List ℕ) (m : Map) : Type 0 where
  found : LocatedMap
  is_found : found_of wad (name_before_nul name) files ≡ Ok found
  is_map : found.map ≡ m
  new : LocatedMap
  is_new : found_of (wad_source wad.large out) (name_before_nul name) stand ≡ Ok new
  same : new.map ≡ m
  reads : reject_bytes new ≡ table

-- what is left of a map that was built
record IsLeft (wad : Source) (out : List ℕ) (method : Method) (files stand : Files) (name : List ℕ) (made : MapTable) : Type 0 where
  found : LocatedMap
  is_found : found_of wad (name_before_nul name) files ≡ Ok found
  new : LocatedMap
  is_new : found_of (wad_source wad.large out) (name_before_nul name) stand ≡ Ok new
  same : new.map ≡ found.map
  cert : Certificate
  is_built : IsBuiltOf found.map method (built_with made cert)
  reads : reject_bytes new ≡ made.table.bytes

-- ---- each change of what comes of maps

changes_each : (P : Change → Type 0) (os : List MapOutcome) → AllByRecursion P (changes_of os) → AllByRecursion (λ (o : MapOutcome). IfSome (change_by o.name o.made o.fate) P) os
changes_each P [] h = tt
changes_each P (o ∷ os) h = by (change_by o.name o.made o.fate) (changes_each P os) h
  where
    by : (c : Option Change) → (AllByRecursion P (changes_of os) → AllByRecursion (λ (x : MapOutcome). IfSome (change_by x.name x.made x.fate) P) os) → AllByRecursion P (cons_option c (changes_of os))
        → IfSome c P × AllByRecursion (λ (x : MapOutcome). IfSome (change_by x.name x.made x.fate) P) os
    by None rest k = (tt, rest k)
    by (Some c) rest k = (k.0, rest k.1)

both : {A : Type 0} (P Q : A → Type 0) (xs : List A) → AllByRecursion P xs → AllByRecursion Q xs → AllByRecursion (λ x. P x × Q x) xs
both P Q [] h k = tt
both P Q (x ∷ xs) h k = ((h.0, k.0), both P Q xs h.1 k.1)

-- the change is there at the end, and the map is as it was
abbrev IsMade : WadFile → WadFile → Change → Type 0
IsMade w new c = HasReject new c.name c.table × HasSameMap w new c.name

module _ (wad : Source) (out : List ℕ) (method : Method) (choice : Refused) (files stand : Files) (w new : WadFile) (bytes : List ℕ) (is_wad : wad_in wad.file files ≡ Ok w) (stands : stand out ≡ Some bytes) (short : length bytes < 2 ^ 31) (read : wad_of bytes ≡ Ok new) where
  module _ (name table : List ℕ) (reject : HasReject new name table) (same : HasSameMap w new name) where
    -- the bytes of its REJECT are the table
    reads_table : (m : Map) → reject_bytes (found_with new same.spot m) ≡ table
    reads_table m =
        let spots : same.spot ≡ reject.spot = same_ok same.spot reject.spot (sym same.found ∙ reject.found) in
        let lump : lump_at new reject.place ≡ table = ap (λ (l : WadLump). l.bytes) (sym (unwrap_or-slice_get new.lumps reject.place nothing) ∙ ap (λ (o : Option WadLump). unwrap_or o nothing) reject.there) ∙ reject.bytes in
        ap (λ (s : MapSpot). reject_at new s.reject) spots ∙ ap (reject_at new) reject.reject ∙ lump

    there_by : (m : Map) → map_named wad.large w (name_before_nul name) ≡ Ok m → IsThere wad out files stand name table m
    there_by m is_map =
        let x = found_named wad (name_before_nul name) files w m is_wad is_map in
        let was : map_at wad.large w same.was ≡ Ok m = named_spot wad.large w (name_before_nul name) m same.was is_map (word_spot (names_of_lumps w) name ∙ same.was_found) in
        let there : LocatedMap = found_with new same.spot m in
        let again : found_in wad.large (name_before_nul name) bytes ≡ Ok there = is_found wad.large (name_before_nul name) bytes there (record { read = read; spot = word_spot (names_of_lumps new) name ∙ same.found; map = map_alike wad.large w new name same ∙ was }) in
        record {
          found = x.found;
          is_found = x.is_found;
          is_map = x.is_map;
          new = there;
          is_new = found_there wad.large (name_before_nul name) out bytes stand there stands short again;
          same = refl;
          reads = reads_table m;
        }

  -- ---- built

  left_by : (name : List ℕ) (made : MapTable) (m : Map) → IsThere wad out files stand name made.table.bytes m → IsTableOfMap m method made → IsLeft wad out method files stand name made
  left_by name made m x h = record {
    found = x.found;
    is_found = x.is_found;
    new = x.new;
    is_new = x.is_new;
    same = x.same ∙ sym x.is_map;
    cert = h.cert;
    is_built = subst (λ (k : Map). IsBuiltOf k method (built_with made h.cert)) (sym x.is_map) h.is_built;
    reads = x.reads;
  }

  left : (name : List ℕ) (made : MapTable) (c : IsMade w new (record { name = name; table = made.table.bytes })) (r : Result Map Status) → map_named wad.large w (name_before_nul name) ≡ r → Gets r method (Ok made) → IsLeft wad out method files stand name made
  left name made c (Ok m) is_map h = left_by name made m (there_by name made.table.bytes c.0 c.1 m is_map) h
  left name made c (Err s) is_map h = absurd cc

  one_left : (name : List ℕ) (r : Result MapTable Status) (f : Fate) → Gets (map_named wad.large w (name_before_nul name)) method r → IfSome (change_by name r f) (IsMade w new) → IfOk r (IsLeft wad out method files stand name)
  one_left name (Ok made) f g c = left name made c (map_named wad.large w (name_before_nul name)) refl g
  one_left name (Err s) f g c = tt

  -- ---- cleared

  clear_left : (name : List ℕ) (m : Map) → IsThere wad out files stand name (clear_table m.sectors) m → LeavesClearReject wad (name_before_nul name) out stand m
  clear_left name m x = record { new = x.new; is_new = x.is_new; same = x.same; clear = x.reads }

  cleared_fate : (s : Status) (old : List ℕ) (said : Result Map Status) (m : Map) (f : Fate) → choice ≡ refused.Clear → said ≡ Ok m → f ≡ fate_of choice said old (Err s) → f ≡ fate.Cleared (record { n = m.sectors; bytes = clear_table m.sectors })
  cleared_fate s old said m f clear is_map e = e ∙ (λ i. fate_of (clear i) (is_map i) old (Err s))

  one_cleared : choice ≡ refused.Clear → (name : List ℕ) (r : Result MapTable Status) (f : Fate) → f ≡ fate_of choice (map_named wad.large w (name_before_nul name)) (reject_named w (name_before_nul name)) r → IfSome (change_by name r f) (IsMade w new)
      → IfErr r (λ refusal. (found : LocatedMap) → found_of wad (name_before_nul name) files ≡ Ok found → LeavesClearReject wad (name_before_nul name) out stand found.map)
  one_cleared clear name (Ok made) f e c = tt
  one_cleared clear name (Err s) f e c = λ found is.
      let is_map : map_named wad.large w (name_before_nul name) ≡ Ok found.map = named_there wad (name_before_nul name) files w found is_wad is in
      let k : f ≡ fate.Cleared (record { n = found.map.sectors; bytes = clear_table found.map.sectors }) = cleared_fate s (reject_named w (name_before_nul name)) (map_named wad.large w (name_before_nul name)) found.map f clear is_map e in
      let d : IsMade w new (record { name = name; table = clear_table found.map.sectors }) = subst (λ (x : Fate). IfSome (change_by name (Err s) x) (IsMade w new)) k c in
      clear_left name found.map (there_by name (clear_table found.map.sectors) d.0 d.1 found.map is_map)

  -- ---- of each outcome

  all_made : (os : List MapOutcome) → AllByRecursion (λ (c : Change). HasReject new c.name c.table) (changes_of os) → AllByRecursion (λ (c : Change). HasSameMap w new c.name) (changes_of os) → AllByRecursion (λ (o : MapOutcome). IfSome (change_by o.name o.made o.fate) (IsMade w new)) os
  all_made os tables same = changes_each (IsMade w new) os (both (λ (c : Change). HasReject new c.name c.table) (λ (c : Change). HasSameMap w new c.name) (changes_of os) tables same)

  abbrev IsMadeSo : MapOutcome → Type 0
  IsMadeSo o = ComesOf w wad.large method choice o × IfSome (change_by o.name o.made o.fate) (IsMade w new)

  made_so : (os : List MapOutcome) → AllByRecursion (ComesOf w wad.large method choice) os → AllByRecursion (λ (c : Change). HasReject new c.name c.table) (changes_of os) → AllByRecursion (λ (c : Change). HasSameMap w new c.name) (changes_of os) → AllByRecursion IsMadeSo os
  made_so os comes tables same = both (ComesOf w wad.large method choice) (λ (o : MapOutcome). IfSome (change_by o.name o.made o.fate) (IsMade w new)) os comes (all_made os tables same)

  all_left : (os : List MapOutcome) → AllByRecursion IsMadeSo os → AllByRecursion (λ (o : MapOutcome). IfOk o.made (IsLeft wad out method files stand o.name)) os
  all_left os h = all_so IsMadeSo (λ (o : MapOutcome). IfOk o.made (IsLeft wad out method files stand o.name)) os (λ o x. one_left o.name o.made o.fate x.0.gets x.1) h

  all_cleared : (os : List MapOutcome) → AllByRecursion IsMadeSo os → choice ≡ refused.Clear → AllByRecursion (λ (o : MapOutcome). IfErr o.made (λ refusal. (found : LocatedMap) → found_of wad (name_before_nul o.name) files ≡ Ok found → LeavesClearReject wad (name_before_nul o.name) out stand found.map)) os
  all_cleared os h clear = all_so IsMadeSo (λ (o : MapOutcome). IfErr o.made (λ refusal. (found : LocatedMap) → found_of wad (name_before_nul o.name) files ≡ Ok found → LeavesClearReject wad (name_before_nul o.name) out stand found.map)) os
      (λ o x. one_cleared clear o.name o.made o.fate x.0.fate x.1) h

-- where a refusal stops all, what goes on is built
goes_on : (choice : Refused) (made : Result MapTable Status) → Stops choice → stop_of_all choice made ≡ None → IsOk made
goes_on refused.Stop (Ok made) stops e = refl
goes_on refused.Stop (Err s) stops e = absurd cc
goes_on choice made stops e = absurd stops

-- ---- which maps were built

not_ok : (made : Result MapTable Status) (s : Status) → made ≡ Err s → IsOk made → ⊥
not_ok (Ok t) s e ok = cc
not_ok (Err t) s e ok = cc

module _ (wad : Source) (files : Files) (w : WadFile) (method : Method) (is_wad : wad_in wad.file files ≡ Ok w) (name : List ℕ) where
  sound_by : (r : Result Map Status) (made : Result MapTable Status) → map_named wad.large w name ≡ r → Gets r method made → IsOk made → IsSoundIn wad name files
  sound_by (Ok m) (Ok t) e g ok = let x = found_named wad name files w m is_wad e in (x.found, x.is_found, subst HasClosedFaces (sym x.is_map) g.is_built.fit)
  sound_by (Ok m) (Err s) e g ok = absurd cc
  sound_by (Err s) made e g ok = absurd (not_ok made s g ok)

  built_by : (made : Result MapTable Status) → Gets (map_named wad.large w name) method made → IsSoundIn wad name files → IsOk made
  built_by made g (found, is, closed) = by made (subst (λ (r : Result Map Status). Gets r method made) (named_there wad name files w found is_wad is) g)
    where
      by : (r : Result MapTable Status) → Gets (Ok found.map) method r → IsOk r
      by (Ok t) h = refl
      by (Err s) h = absurd (no_flaw found.map s closed h)

-- ---- all of it

module _ (words : List (List ℕ)) (wad : Source) (out : List ℕ) (only : Option (List (List ℕ))) (report : Option ReportFile) (workers : ℕ) (method : Method) (choice : Refused) (files stand : Files) (is_asked : asked_of words ≡ Ok (order.All wad out only report workers method choice)) (done : WasDone words files stand)
    (IsRight : List ℕ → MapTable → Type 0) (right : (name : List ℕ) (made : MapTable) → IsLeft wad out method files stand name made → IsRight (name_before_nul name) made) where
  reported_under : (asked : Option ReportFile) (os : List MapOutcome) (ws : List Written) → IfSome asked (λ (r : ReportFile). put_outputs files (report_behind (file_in asked) (outcomes_report (spelling_in asked) os) ws) r.file ≡ Some (outcomes_report r.spelling os))
  reported_under None os ws = tt
  reported_under (Some r) os ws = under_report files ws r.file (outcomes_report r.spelling os)

  shown : (w : WadFile) (maps : List (List ℕ)) (answer : Answer) → wad_in wad.file files ≡ Ok w → maps_in (names_of_lumps w) only ≡ Ok maps → ShowsAll out report wad.large maps method choice w answer → stand ≡ put_outputs files answer.writes
      → done.sink.new.held ≡ option_map (λ held. held ++ answer.line) done.sink.old.held → LeavesRejects wad out only report choice files stand done.sink IsRight
  shown w maps answer e f q left said =
      let x = was_written words wad out only report workers method choice files answer w maps is_asked e f q in
      let stands : stand out ≡ Some x.bytes = ap (λ (fs : Files). fs out) left ∙ x.stands in
      let so = made_so wad out method choice files stand w x.new x.bytes e stands x.short x.read q.outcomes q.are.comes x.tables x.same in
      let lefts = all_left wad out method choice files stand w x.new x.bytes e stands x.short x.read q.outcomes so in
      record {
        w = w;
        was = e;
        maps = maps;
        asked = f;
        outcomes = q.outcomes;
        each = q.are.each;
        said = said ∙ ap (λ (a : Answer). option_map (λ held. held ++ a.line) done.sink.old.held) q.is;
        reported = subst (λ (fs : Files). IfSome report (λ (r : ReportFile). fs r.file ≡ Some (outcomes_report r.spelling q.outcomes))) (sym (left ∙ ap (λ (a : Answer). put_outputs files a.writes) q.is)) (reported_under report q.outcomes (wad_output out q.bytes ∷ []));
        built = all_so (ComesOf w wad.large method choice) (λ (o : MapOutcome). IsOk o.made ↔ IsSoundIn wad (name_before_nul o.name) files) q.outcomes
            (λ o g. (sound_by wad files w method e (name_before_nul o.name) (map_named wad.large w (name_before_nul o.name)) o.made refl g.gets, built_by wad files w method e (name_before_nul o.name) o.made g.gets)) q.are.comes;
        right = all_so (λ (o : MapOutcome). IfOk o.made (IsLeft wad out method files stand o.name)) (λ (o : MapOutcome). IfOk o.made (IsRight (name_before_nul o.name))) q.outcomes
            (λ o h. IfOk-weaker o.made (IsLeft wad out method files stand o.name) (IsRight (name_before_nul o.name)) (right o.name) h) lefts;
        cleared = all_cleared wad out method choice files stand w x.new x.bytes e stands x.short x.read q.outcomes so;
        unstopped = λ stops. all_so (λ (o : MapOutcome). stop_of_all choice o.made ≡ None) (λ (o : MapOutcome). IsOk o.made) q.outcomes (λ o g. goes_on choice o.made stops g) q.are.goes_on;
      }

  of_maps : (w : WadFile) (r : Result (List (List ℕ)) Status) (answer : Answer) → wad_in wad.file files ≡ Ok w → maps_in (names_of_lumps w) only ≡ r → OnRead r (λ maps. MapsCall out report wad.large maps method choice w) (Ok answer) → stand ≡ put_outputs files answer.writes
      → done.sink.new.held ≡ option_map (λ held. held ++ answer.line) done.sink.old.held → LeavesRejects wad out only report choice files stand done.sink IsRight
  of_maps w (Ok maps) answer e f q left said = shown w maps answer e f q left said
  of_maps w (Err s) answer e f q left said = absurd cc

  of_wad_read : (r : Result WadFile Status) (answer : Answer) → wad_in wad.file files ≡ r → OnRead r (AllCalls out wad.large only report method choice) (Ok answer) → stand ≡ put_outputs files answer.writes
      → done.sink.new.held ≡ option_map (λ held. held ++ answer.line) done.sink.old.held → LeavesRejects wad out only report choice files stand done.sink IsRight
  of_wad_read (Ok w) answer e q left said = of_maps w (maps_in (names_of_lumps w) only) answer e refl q left said
  of_wad_read (Err s) answer e q left said = absurd cc

  rejects : LeavesRejects wad out only report choice files stand done.sink IsRight
  rejects =
      let e = was_answered words files stand done in
      of_wad_read (wad_in wad.file files) e.answer refl (subst (λ r. AnswersOrder r files done.heard (Ok e.answer)) is_asked e.called) e.stands e.said

right_of : (wad : Source) (out : List ℕ) (method : Method) (files stand : Files) (name : List ℕ) (made : MapTable) → IsLeft wad out method files stand name made → LeavesRightReject wad (name_before_nul name) out method files stand
right_of wad out method files stand name made h = leaves_right wad (name_before_nul name) out method files stand h.found h.new h.is_found h.is_new h.same (built_with made h.cert) h.is_built h.reads

pub all_is_right : AllIsRight
all_is_right words wad out only report workers method choice files stand is_asked done =
    rejects words wad out only report workers method choice files stand is_asked done (λ name made. LeavesRightReject wad name out method files stand) (right_of wad out method files stand)

pub all_is_exact : AllIsExact
all_is_exact words wad out only report workers choice files stand is_asked done =
    rejects words wad out only report workers how.Exact choice files stand is_asked done (λ name made. LeavesExactTable wad name out files stand × (made.listed ≡ []))
    (λ name made h. (leaves_exact wad (name_before_nul name) out files stand (right_of wad out how.Exact files stand name made h), h.is_built.by_method.none_listed))
