-- The maps of a WAD that are asked for, found step by step, and what is said of them.
use Rattle.std.proofs.Common.{◌≡◌, ℕ, Bool, true, List, Option, Some, None, Result, Ok, Err, sym, ap, subst, ◌∙◌}
use Rattle.std.specs.Prelude.{IfErr, IfOk, ⊤, string_bytes}
use Rattle.std.specs.Result.{IsErr}
use Rattle.shelf_io.specs.Shelf.{Files}
use Rattle.wad_dir.specs.Wad.{WadFile, names_of_lumps}
use Rattle.order_words.specs.declared.order.Order.{Order}
use Rattle.order_words.specs.declared.order.Order.TheVariants as order
use Rattle.order_words.specs.declared.order.ReportFile.{ReportFile}
use Rattle.order_words.specs.declared.order.Source.{Source}
use Rattle.row_spelling.specs.declared.Spelling.TheVariants as spelling
use Rattle.map_answers.specs.declared.sight_status.status.Bound.TheVariants as bound
use Rattle.map_answers.specs.declared.sight_status.status.Role.TheVariants as role
use Rattle.map_answers.specs.declared.sight_status.status.Status.{Status}
use Rattle.map_answers.specs.declared.sight_status.status.Status.TheVariants as status
use Rattle.map_answers.specs.SightStatus.Answer.{Answer, GivesCalled, IsTheAnswer, MakesAnswer, ◌>>=◌}
use Rattle.map_answers.specs.SightStatus.Status.{IsOfBytes}
use Rattle.table_verdicts.specs.declared.verifying.WadVerdict.{WadVerdict}
use Rattle.table_verdicts.specs.Tallies.{all_right, tally_line}
use Rattle.table_verdicts.specs.Verdicts.{ShowsVerdicts}
use Rattle.sight_run.specs.declared.asked.ReadMaps.{ReadMaps}
use Rattle.sight_run.specs.All.{OnRead, maps_in, wad_in}
use Rattle.sight_run.specs.Asked.{AskedMaps, IsOfNames, asked_in}
use Rattle.sight_run.specs.Build.{report_roles, report_writes}
use Rattle.sight_run.specs.Obeys.{WritesEach}
use Rattle.sight_run.specs.declared.reply.Reply.{Reply}
use Rattle.sight_run.specs.Reply.{asked_seen, roles_of, writes}
use Rattle.sight_run.specs.Run.{EndsRight, IsOfAsked, IsOfOrder, IsOfReading, IsOfWhole}
use Rattle.sight_run.specs.Verify.{ShowsVerify}
use Rattle.sight_run.specs.Words.{file_in, spelling_in}
use Rattle.sight_run.proofs.Whole.{gives_unread}

-- ---- the maps

-- a step is refused
refused_on : {V W D E : Type 0} (view : V → D) (other : W → E) (said : Result D Status) (f : D → Result E Status) (s : Status) → MakesAnswer view (Err s) said → MakesAnswer other (Err s) (said >>= f)
refused_on view other said f (status.Memory _) made = tt
refused_on view other said f (status.ReadFault k) made = tt
refused_on {V} {W} {D} {E} view other said f s made = ap (λ (r : Result D Status). r >>= f) made

abbrev maps_then : Option (List (List ℕ)) → WadFile → Result AskedMaps Status
maps_then only w = maps_in (names_of_lumps w) only >>= (λ (maps : List (List ℕ)). Ok (record { wad = w; maps = maps }))

-- the WAD can't be read
pub wad_unread : {V : Type 0} (view : V → WadFile) (wad : List ℕ) (only : Option (List (List ℕ))) (files : Files) (s : Status) → MakesAnswer view (Err s) (wad_in wad files) → MakesAnswer asked_seen (Err s) (asked_in wad only files)
unfolding asked_in
wad_unread {V} view wad only files s made = refused_on {V = V} {W = ReadMaps} view asked_seen (wad_in wad files) (maps_then only) s made

-- a name is none of a map's
pub maps_unread : {V : Type 0} (view : V → List (List ℕ)) (wad : List ℕ) (only : Option (List (List ℕ))) (files : Files) (w : WadFile) (s : Status) → wad_in wad files ≡ Ok w → MakesAnswer view (Err s) (maps_in (names_of_lumps w) only) → MakesAnswer asked_seen (Err s) (asked_in wad only files)
unfolding asked_in
maps_unread {V} view wad only files w s read made =
    subst (λ (r : Result WadFile Status). MakesAnswer asked_seen (Err s) (r >>= maps_then only)) (sym read)
    (refused_on {V = V} {W = ReadMaps} view asked_seen (maps_in (names_of_lumps w) only) (λ (maps : List (List ℕ)). Ok (record { wad = w; maps = maps })) s made)

pub maps_read : (wad : List ℕ) (only : Option (List (List ℕ))) (files : Files) (w : WadFile) (maps : List (List ℕ)) → wad_in wad files ≡ Ok w → maps_in (names_of_lumps w) only ≡ Ok maps → asked_in wad only files ≡ Ok (record { wad = w; maps = maps })
unfolding asked_in
maps_read wad only files w maps read are =
    ap (λ (r : Result WadFile Status). r >>= maps_then only) read ∙ ap (λ (r : Result (List (List ℕ)) Status). r >>= (λ (ms : List (List ℕ)). Ok (record { wad = w; maps = ms }))) are

-- ---- refusals

pub unfetched_asked : (only : Option (List (List ℕ))) (s : Status) → IsOfReading s → IsOfWhole s → IsOfAsked only s
unfetched_asked only (status.NoMap fault) of h = absurd h
unfetched_asked only (status.Limit bound.OutputBytes) of h = absurd of
unfetched_asked only s of h = h

pub unread_asked : (only : Option (List (List ℕ))) (s : Status) → IsOfBytes s → IsOfWhole s → IsOfAsked only s
unread_asked only (status.NoMap fault) of h = absurd h
unread_asked only (status.Limit bound.OutputBytes) of h = absurd of
unread_asked only s of h = h

pub names_asked : (only : Option (List (List ℕ))) (s : Status) → IsOfNames only s → IsOfAsked only s
names_asked only (status.NoMap fault) h = h
names_asked only (status.Memory _) h = tt
names_asked only s h = absurd h

-- ---- the answer

one_alone : (Sole : Type 0) (Called : Result Answer Status → Type 0) (r : Result Answer Status) → GivesCalled ⊤ Called r → GivesCalled Sole Called r
one_alone Sole Called (Err (status.Memory _)) h = tt
one_alone Sole Called (Err (status.ReadFault k)) h = tt
one_alone Sole Called r h = record { called = h.called; only = λ sole. h.only tt }

-- the maps can't be read
pub verify_unread : {V : Type 0} (view : V → AskedMaps) (said : Result AskedMaps Status) (Called : AskedMaps → Result Answer Status → Type 0) (s : Status) → MakesAnswer view (Err s) said → GivesCalled (IsErr said) (OnRead said Called) (Err s)
verify_unread {V} view said Called s made = one_alone (IsErr said) (OnRead said Called) (Err s) (gives_unread {V = V} {D = AskedMaps} view said Called s made)

no_err : (asked : AskedMaps) → IsErr {T = AskedMaps} {E = Status} (Ok asked) → ⊥
no_err asked h = cc

pub verify_read : (said : Result AskedMaps Status) (asked : AskedMaps) (Called : AskedMaps → Result Answer Status → Type 0) (answer : Answer) → said ≡ Ok asked → Called asked (Ok answer) → IsTheAnswer (IsErr said) (OnRead said Called) (Ok answer)
verify_read said asked Called answer read called =
    subst (λ (r : Result AskedMaps Status). IsTheAnswer (IsErr r) (OnRead r Called) (Ok answer)) (sym read) (record { called = called; only = λ err. absurd (no_err asked err) })

-- what is said of the maps is what is answered
pub verify_shows : (reported : Option ReportFile) (large : Bool) (asked : AskedMaps) (given : WadVerdict) (answer : Answer) → ShowsVerdicts asked.wad large asked.maps (spelling_in reported) given
    → answer ≡ record { writes = report_writes (file_in reported) (string_bytes given.report); line = tally_line given.tally; right = all_right given.tally } → ShowsVerify reported large asked answer
verify_shows reported large asked given answer h is = record {
  verdicts = h.verdicts;
  are = h.are;
  is = is ∙ (λ i. record { writes = report_writes (file_in reported) (h.report i); line = tally_line (h.tally i); right = all_right (h.tally i) });
}

-- ---- by the order

of_order : (wad : Source) (only : Option (List (List ℕ))) (report : Option ReportFile) (workers : ℕ) (s : Status) → IsOfAsked only s → IsOfOrder (order.Verify wad only report workers) s
of_order wad only report workers (status.NoFile role.Wad) h = tt
of_order wad only report workers (status.ReadFault role.Wad) h = tt
of_order wad only report workers (status.NotWad fault) h = tt
of_order wad only report workers (status.NoMap fault) h = h
of_order wad only report workers (status.Limit bound.WadBytes) h = tt
of_order wad only report workers (status.Limit bound.Lumps) h = tt
of_order wad only report workers (status.Memory _) h = tt
of_order wad only report workers s h = absurd h

pub verify_refusals : {V : Type 0} (wad : Source) (only : Option (List (List ℕ))) (report : Option ReportFile) (workers : ℕ) (r : Result V Status) → IfErr r (IsOfAsked only) → IfErr r (IsOfOrder (order.Verify wad only report workers))
verify_refusals wad only report workers (Ok v) h = tt
verify_refusals wad only report workers (Err s) h = of_order wad only report workers s h

report_written : (wad : Source) (only : Option (List (List ℕ))) (report : Option ReportFile) (workers : ℕ) → WritesEach (order.Verify wad only report workers) (report_roles (file_in report))
report_written wad only None workers = tt
report_written wad only (Some name) workers = (tt, tt)

pub verify_written : (wad : Source) (only : Option (List (List ℕ))) (report : Option ReportFile) (workers : ℕ) (r : Result Reply Status) → IfOk r (λ (reply : Reply). roles_of (writes reply) ≡ report_roles (file_in report))
    → IfOk r (λ (reply : Reply). WritesEach (order.Verify wad only report workers) (roles_of (writes reply)))
verify_written wad only report workers (Ok reply) h = subst (WritesEach (order.Verify wad only report workers)) (sym h) (report_written wad only report workers)
verify_written wad only report workers (Err s) h = tt

-- an order that judges nothing, or whose verdict is a refusal
pub ends_right : (asked : Order) (r : Result Reply Status) → IfOk r (λ (reply : Reply). reply.right ≡ true) → IfOk r (λ (reply : Reply). EndsRight asked reply.right)
ends_right asked (Err s) h = tt
ends_right (order.Verify wad only report workers) (Ok reply) h = tt
ends_right (order.Audit wad name (Some report)) (Ok reply) h = tt
ends_right (order.Check wad name cert spelling.Text) (Ok reply) h = h
ends_right (order.Check wad name cert spelling.Json) (Ok reply) h = tt
ends_right asked (Ok reply) h = h
