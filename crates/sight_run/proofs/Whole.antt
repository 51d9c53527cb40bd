-- What the order `all` reads, and what it can be refused with.
use Rattle.std.proofs.Common.{◌≡◌, ℕ, List, Option, Some, None, Result, Ok, Err, refl, sym, ap, subst, ◌∙◌}
use Rattle.std.specs.Prelude.{IfErr, IfOk, ⊤}
use Rattle.sight_names.specs.declared.limits.TheConstants.{MOST_BYTES}
use Rattle.sight_names.specs.declared.faults.MapFault.{MapFault}
use Rattle.sight_names.specs.declared.faults.WadFault.{WadFault}
use Rattle.sight_names.specs.declared.faults.WadFault.TheVariants as wad
use Rattle.sight_names.specs.declared.names.Method.{Method}
use Rattle.shelf_io.specs.Shelf.{Files, SameCounts, ShelfState, content_of}
use Rattle.wad_dir.specs.Wad.{WadFile, wad_of}
use Rattle.wad_dir.specs.AllMaps.All.{HasInOrder}
use Rattle.wad_dir.specs.AllMaps.Asked.{asked_maps_of}
use Rattle.wad_dir.specs.AllMaps.Maps.{maps_in_names}
use Rattle.wad_dir.proofs.AllMaps.AskedMaps.{asked_in_order}
use Rattle.refused_maps.specs.declared.Refused.{Refused}
use Rattle.order_words.specs.declared.order.Order.TheVariants as order
use Rattle.order_words.specs.declared.order.ReportFile.{ReportFile}
use Rattle.order_words.specs.declared.order.Source.{Source}
use Rattle.map_answers.specs.declared.sight_status.status.Bound.TheVariants as bound
use Rattle.map_answers.specs.declared.sight_status.status.Role.TheVariants as role
use Rattle.map_answers.specs.declared.sight_status.status.Status.{Status}
use Rattle.map_answers.specs.declared.sight_status.status.Status.TheVariants as status
use Rattle.map_answers.specs.SightStatus.Answer.{Answer, GivesCalled, IsTheAnswer, MakesAnswer, ◌>>=◌}
use Rattle.map_answers.specs.SightStatus.Status.{IsOfBytes}
use Rattle.map_answers.specs.Input.{of_wad}
use Rattle.sight_run.specs.All.{OnRead, all_roles, maps_in, of_asked, wad_in}
use Rattle.sight_run.specs.Asked.{IsOfNames}
use Rattle.sight_run.specs.Obeys.{WritesEach}
use Rattle.sight_run.specs.Reading.{of_fetch}
use Rattle.sight_run.specs.declared.reply.Reply.{Reply}
use Rattle.sight_run.specs.Reply.{roles_of, writes}
use Rattle.sight_run.specs.Run.{Cause, IsOfAll, IsOfOrder, IsOfStop, IsOfWhole, RefusalCause}
use Rattle.sight_run.specs.Words.{file_in}
use Rattle.sight_run.proofs.Round.{same_ok}

-- ---- the WAD in a file

pub wad_read : (wad : List ℕ) (files : Files) (bytes : List ℕ) (w : WadFile) → of_fetch (content_of (files wad) MOST_BYTES) ≡ Ok bytes → of_wad (wad_of bytes) ≡ Ok w → wad_in wad files ≡ Ok w
unfolding wad_in
wad_read wad files bytes w e f = ap (λ (r : Result (List ℕ) Status). r >>= (λ (b : List ℕ). of_wad (wad_of b))) e ∙ f

-- the file can't be read
pub wad_unfetched : {V : Type 0} (view : V → List ℕ) (wad : List ℕ) (files : Files) (s : Status) → MakesAnswer view (Err s) (of_fetch (content_of (files wad) MOST_BYTES)) → MakesAnswer {V = WadFile} (λ w. w) (Err s) (wad_in wad files)
unfolding wad_in
wad_unfetched view wad files (status.Memory _) made = tt
wad_unfetched view wad files (status.ReadFault k) made = tt
wad_unfetched view wad files s made = ap (λ (r : Result (List ℕ) Status). r >>= (λ (b : List ℕ). of_wad (wad_of b))) made

-- its bytes are no WAD
pub wad_refused : {V : Type 0} (view : V → WadFile) (wad : List ℕ) (files : Files) (bytes : List ℕ) (s : Status) → of_fetch (content_of (files wad) MOST_BYTES) ≡ Ok bytes → MakesAnswer view (Err s) (of_wad (wad_of bytes)) → MakesAnswer view (Err s) (wad_in wad files)
unfolding wad_in
wad_refused view wad files bytes s e made = subst (λ (r : Result (List ℕ) Status). MakesAnswer view (Err s) (r >>= (λ (b : List ℕ). of_wad (wad_of b)))) (sym e) made

-- ---- an answer by what was read

pub gives_unread : {V D : Type 0} (view : V → D) (said : Result D Status) (Called : D → Result Answer Status → Type 0) (s : Status) → MakesAnswer view (Err s) said → GivesCalled ⊤ (OnRead said Called) (Err s)
gives_unread view said Called (status.Memory _) made = tt
gives_unread view said Called (status.ReadFault k) made = tt
gives_unread {V} {D} view said Called s made = subst (λ (r : Result D Status). IsTheAnswer ⊤ (OnRead r Called) (Err s)) (sym made) (record { called = refl; only = λ sole other q. q })

pub gives_read : {D : Type 0} (said : Result D Status) (read : D) (Called : D → Result Answer Status → Type 0) (r : Result Answer Status) → said ≡ Ok read → GivesCalled ⊤ (Called read) r → GivesCalled ⊤ (OnRead said Called) r
gives_read {D} said read Called r e h = subst (λ (x : Result D Status). GivesCalled ⊤ (OnRead x Called) r) (sym e) h

-- ---- the maps that are to be built

pub was_asked : (r : Result (List (List ℕ)) MapFault) (maps : List (List ℕ)) → of_asked r ≡ Ok maps → r ≡ Ok maps
was_asked (Ok found) maps h = ap (λ (ms : List (List ℕ)). Ok ms) (same_ok found maps h)
was_asked (Err fault) maps h = absurd cc

-- they are some of all maps, in order
pub asked_are_maps : (names : List (List ℕ)) (only : Option (List (List ℕ))) (maps : List (List ℕ)) → maps_in names only ≡ Ok maps → HasInOrder (maps_in_names names) maps
asked_are_maps names only maps h = asked_in_order names only maps (was_asked (asked_maps_of names only) maps h)

-- ---- refusals and roles

-- a status that the reading of a directory gives
abbrev IsOfDirectory : Status → Type 0
IsOfDirectory (status.NotWad fault) = Unit {0}
IsOfDirectory (status.Limit bound.Lumps) = Unit {0}
IsOfDirectory (status.Memory _) = Unit {0}
IsOfDirectory other = ⊥

of_directory : (said : Result WadFile WadFault) (s : Status) → of_wad said ≡ Err s → IsOfDirectory s
of_directory (Ok w) s e = absurd cc
of_directory (Err wad.TooManyLumps) s e = let q : status.Limit bound.Lumps ≡ s = cc in subst IsOfDirectory q tt
of_directory (Err (wad.Memory _)) s e = let q : status.Memory tt ≡ s = cc in subst IsOfDirectory q tt
of_directory (Err fault) s e = let q : status.NotWad fault ≡ s = cc in subst IsOfDirectory q tt

by_directory : (s : Status) → IsOfBytes s → IsOfDirectory s → IsOfWhole s
by_directory (status.NotWad fault) of h = of
by_directory (status.Limit bound.Lumps) of h = tt
by_directory (status.Memory _) of h = tt
by_directory s of h = absurd h

pub directory_refused : {V : Type 0} (view : V → WadFile) (said : Result WadFile WadFault) (s : Status) → IsOfBytes s → MakesAnswer view (Err s) (of_wad said) → IsOfWhole s
directory_refused view said (status.Memory _) of made = tt
directory_refused view said (status.ReadFault k) of made = absurd of
directory_refused view said s of made = by_directory s of (of_directory said s made)

-- one that is none of a name's
pub of_whole : (only : Option (List (List ℕ))) (choice : Refused) (s : Status) → IsOfWhole s → IsOfAll only choice s
of_whole only choice (status.NoFile role.Wad) h = tt
of_whole only choice (status.ReadFault role.Wad) h = tt
of_whole only choice (status.NotWad fault) h = h
of_whole only choice (status.Limit bound.WadBytes) h = tt
of_whole only choice (status.Limit bound.Lumps) h = tt
of_whole only choice (status.Limit bound.OutputBytes) h = tt
of_whole only choice (status.Memory _) h = tt
of_whole only choice s h = absurd h

-- one of a name
pub of_names : (only : Option (List (List ℕ))) (choice : Refused) (s : Status) → IsOfNames only s → IsOfAll only choice s
of_names only choice (status.NoMap fault) h = h
of_names only choice (status.Memory _) h = tt
of_names only choice s h = absurd h

-- .. which the shelf doesn't explain
pub names_cause : (only : Option (List (List ℕ))) (old new : ShelfState) (s : Status) → IsOfNames only s → SameCounts old new → RefusalCause old new s
names_cause only old new (status.NoMap fault) h same = same
names_cause only old new (status.Memory _) h same = tt
names_cause only old new s h same = absurd h

-- one that comes once the maps are known
stop_of_all : (only : Option (List (List ℕ))) (choice : Refused) (s : Status) → IsOfStop choice s → IsOfAll only choice s
stop_of_all only choice (status.BadLump fault) h = h
stop_of_all only choice (status.BadText fault) h = h
stop_of_all only choice (status.BadMap flaw) h = h
stop_of_all only choice (status.Limit bound.Sectors) h = h
stop_of_all only choice (status.Limit bound.Lines) h = h
stop_of_all only choice (status.Limit bound.Points) h = h
stop_of_all only choice (status.Limit bound.Vertices) h = h
stop_of_all only choice (status.Limit bound.Sides) h = h
stop_of_all only choice (status.Limit bound.Lumps) h = tt
stop_of_all only choice (status.Limit bound.OutputBytes) h = tt
stop_of_all only choice (status.Memory _) h = tt
stop_of_all only choice s h = absurd h

pub of_stop : {V : Type 0} (only : Option (List (List ℕ))) (choice : Refused) (r : Result V Status) → IfErr r (IsOfStop choice) → IfErr r (IsOfAll only choice)
of_stop only choice (Ok v) h = tt
of_stop only choice (Err s) h = stop_of_all only choice s h

-- .. which the shelf doesn't explain either
unexplained : (choice : Refused) (old new : ShelfState) (s : Status) → IsOfStop choice s → SameCounts old new → RefusalCause old new s
unexplained choice old new (status.BadLump fault) h same = same
unexplained choice old new (status.BadText fault) h same = same
unexplained choice old new (status.BadMap flaw) h same = same
unexplained choice old new (status.Limit bound) h same = same
unexplained choice old new (status.Memory _) h same = tt
unexplained choice old new s h same = absurd h

pub stop_cause : {V : Type 0} (choice : Refused) (old new : ShelfState) (r : Result V Status) → IfErr r (IsOfStop choice) → SameCounts old new → Cause old new r
stop_cause choice old new (Ok v) h same = same
stop_cause choice old new (Err s) h same = unexplained choice old new s h same

of_order : (wad : Source) (out : List ℕ) (only : Option (List (List ℕ))) (report : Option ReportFile) (workers : ℕ) (method : Method) (choice : Refused) (s : Status) → IsOfAll only choice s → IsOfOrder (order.All wad out only report workers method choice) s
of_order wad out only report workers method choice (status.NoFile role.Wad) h = tt
of_order wad out only report workers method choice (status.ReadFault role.Wad) h = tt
of_order wad out only report workers method choice (status.NotWad fault) h = tt
of_order wad out only report workers method choice (status.NoMap fault) h = h
of_order wad out only report workers method choice (status.BadLump fault) h = h.0
of_order wad out only report workers method choice (status.BadText fault) h = h.0
of_order wad out only report workers method choice (status.BadMap flaw) h = h
of_order wad out only report workers method choice (status.Limit bound.WadBytes) h = tt
of_order wad out only report workers method choice (status.Limit bound.Lumps) h = tt
of_order wad out only report workers method choice (status.Limit bound.OutputBytes) h = tt
of_order wad out only report workers method choice (status.Limit bound.Sectors) h = h
of_order wad out only report workers method choice (status.Limit bound.Lines) h = h
of_order wad out only report workers method choice (status.Limit bound.Points) h = h
of_order wad out only report workers method choice (status.Limit bound.Vertices) h = h
of_order wad out only report workers method choice (status.Limit bound.Sides) h = h
of_order wad out only report workers method choice (status.Memory _) h = tt
of_order wad out only report workers method choice s h = absurd h

pub all_refusals : {V : Type 0} (wad : Source) (out : List ℕ) (only : Option (List (List ℕ))) (report : Option ReportFile) (workers : ℕ) (method : Method) (choice : Refused) (r : Result V Status) → IfErr r (IsOfAll only choice) → IfErr r (IsOfOrder (order.All wad out only report workers method choice))
all_refusals wad out only report workers method choice (Ok v) h = tt
all_refusals wad out only report workers method choice (Err s) h = of_order wad out only report workers method choice s h

all_written : (wad : Source) (out : List ℕ) (only : Option (List (List ℕ))) (report : Option ReportFile) (workers : ℕ) (method : Method) (choice : Refused) → WritesEach (order.All wad out only report workers method choice) (all_roles (file_in report))
all_written wad out only None workers method choice = (tt, tt)
all_written wad out only (Some name) workers method choice = (tt, (tt, tt))

pub each_written : (wad : Source) (out : List ℕ) (only : Option (List (List ℕ))) (report : Option ReportFile) (workers : ℕ) (method : Method) (choice : Refused) (r : Result Reply Status) → IfOk r (λ (reply : Reply). roles_of (writes reply) ≡ all_roles (file_in report))
    → IfOk r (λ (reply : Reply). WritesEach (order.All wad out only report workers method choice) (roles_of (writes reply)))
each_written wad out only report workers method choice (Ok reply) h = subst (WritesEach (order.All wad out only report workers method choice)) (sym h) (all_written wad out only report workers method choice)
each_written wad out only report workers method choice (Err s) h = tt
