-- What is listed of the maps that are asked for, and what the order `maps` can end with.
use Rattle.std.proofs.Common.{◌≡◌, ℕ, Bool, true, List, Option, Some, None, Result, Ok, Err, sym, ap, subst, ◌∙◌}
use Rattle.std.specs.Prelude.{IfErr, IfOk, ⊤, string_bytes}
use Rattle.order_words.specs.declared.order.Order.TheVariants as order
use Rattle.order_words.specs.declared.order.ReportFile.{ReportFile}
use Rattle.order_words.specs.declared.order.Source.{Source}
use Rattle.map_answers.specs.declared.sight_status.status.Bound.TheVariants as bound
use Rattle.map_answers.specs.declared.sight_status.status.Role.TheVariants as role
use Rattle.map_answers.specs.declared.sight_status.status.Status.{Status}
use Rattle.map_answers.specs.declared.sight_status.status.Status.TheVariants as status
use Rattle.map_answers.specs.SightStatus.Answer.{Answer, GivesCalled, IsTheAnswer}
use Rattle.table_verdicts.specs.declared.map_list.listing.MapList.{MapList}
use Rattle.table_verdicts.specs.MapList.Listing.{ShowsList}
use Rattle.table_verdicts.specs.MapList.Totals.{list_line}
use Rattle.sight_run.specs.All.{OnRead}
use Rattle.sight_run.specs.Asked.{AskedMaps}
use Rattle.sight_run.specs.Build.{report_roles, report_writes}
use Rattle.sight_run.specs.Maps.{MapsListed, asked_answer}
use Rattle.sight_run.specs.Obeys.{WritesEach}
use Rattle.sight_run.specs.declared.reply.Reply.{Reply}
use Rattle.sight_run.specs.Reply.{roles_of, writes}
use Rattle.sight_run.specs.Run.{IsOfAsked, IsOfOrder}
use Rattle.sight_run.specs.Words.{file_in, spelling_in}
use Rattle.sight_run.proofs.Whole.{gives_read}

-- what is listed of the maps is what is answered
pub list_shows : (reported : Option ReportFile) (large : Bool) (asked : AskedMaps) (list : MapList) (line : List ℕ) (answer : Answer)
    → ShowsList asked.wad large asked.maps (spelling_in reported) list → line ≡ list_line list.tally → answer ≡ record { writes = report_writes (file_in reported) (string_bytes list.report); line = line; right = true }
    → answer ≡ asked_answer reported large asked
list_shows reported large asked list line answer shows told is =
    let put = told ∙ ap list_line shows.tally in
    is ∙ (λ i. record { writes = report_writes (file_in reported) (shows.report i); line = put i; right = true })

-- and no other answer is called for
list_answers : (reported : Option ReportFile) (large : Bool) (asked : AskedMaps) (answer : Answer) → answer ≡ asked_answer reported large asked → IsTheAnswer ⊤ (MapsListed reported large asked) (Ok answer)
list_answers reported large asked answer is = record { called = ap (λ (a : Answer). Ok a) is; only = λ sole other called. called ∙ sym (ap (λ (a : Answer). Ok a) is) }

-- .. of a file that was read
pub list_read : (said : Result AskedMaps Status) (asked : AskedMaps) (reported : Option ReportFile) (large : Bool) (answer : Answer) → said ≡ Ok asked → answer ≡ asked_answer reported large asked → GivesCalled ⊤ (OnRead said (MapsListed reported large)) (Ok answer)
list_read said asked reported large answer e is = gives_read {D = AskedMaps} said asked (MapsListed reported large) (Ok answer) e (list_answers reported large asked answer is)

-- ---- by the order

of_order : (wad : Source) (only : Option (List (List ℕ))) (report : Option ReportFile) (s : Status) → IsOfAsked only s → IsOfOrder (order.Maps wad only report) s
of_order wad only report (status.NoFile role.Wad) h = tt
of_order wad only report (status.ReadFault role.Wad) h = tt
of_order wad only report (status.NotWad fault) h = tt
of_order wad only report (status.NoMap fault) h = h
of_order wad only report (status.Limit bound.WadBytes) h = tt
of_order wad only report (status.Limit bound.Lumps) h = tt
of_order wad only report (status.Memory _) h = tt
of_order wad only report s h = absurd h

pub maps_refusals : {V : Type 0} (wad : Source) (only : Option (List (List ℕ))) (report : Option ReportFile) (r : Result V Status) → IfErr r (IsOfAsked only) → IfErr r (IsOfOrder (order.Maps wad only report))
maps_refusals wad only report (Ok v) h = tt
maps_refusals wad only report (Err s) h = of_order wad only report s h

report_written : (wad : Source) (only : Option (List (List ℕ))) (report : Option ReportFile) → WritesEach (order.Maps wad only report) (report_roles (file_in report))
report_written wad only None = tt
report_written wad only (Some name) = (tt, tt)

pub maps_written : (wad : Source) (only : Option (List (List ℕ))) (report : Option ReportFile) (r : Result Reply Status) → IfOk r (λ (reply : Reply). roles_of (writes reply) ≡ report_roles (file_in report))
    → IfOk r (λ (reply : Reply). WritesEach (order.Maps wad only report) (roles_of (writes reply)))
maps_written wad only report (Ok reply) h = subst (WritesEach (order.Maps wad only report)) (sym h) (report_written wad only report)
maps_written wad only report (Err s) h = tt
