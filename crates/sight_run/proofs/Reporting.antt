-- What an audit with a report ends with.
use Rattle.std.proofs.Common.{◌≡◌, ℕ, Bool, true, false, List, [], ◌∷◌, Option, None, Some, Result, Ok, Err, refl, sym, subst}
use Rattle.std.specs.Prelude.{IfErr, IfOk, ⊤, string_bytes}
use Rattle.std.specs.Result.{IsErr}
use Rattle.order_words.specs.declared.order.Order.TheVariants as order
use Rattle.order_words.specs.declared.order.ReportFile.{ReportFile}
use Rattle.order_words.specs.declared.order.Source.{Source}
use Rattle.sight_names.specs.Map.{Map}
use Rattle.map_answers.specs.declared.sight_status.status.Flaw.{Flaw}
use Rattle.map_answers.specs.declared.sight_status.status.Role.TheVariants as role
use Rattle.map_answers.specs.declared.sight_status.status.Status.{Status}
use Rattle.map_answers.specs.declared.sight_status.status.Status.TheVariants as status
use Rattle.map_answers.specs.Audit.{AuditCalls}
use Rattle.map_answers.specs.Input.{LocatedMap}
use Rattle.map_answers.specs.SightStatus.Answer.{Answer, GivesCalled, only_line}
use Rattle.map_answers.specs.SightStatus.Texts.{text_of}
use Rattle.sight_run.specs.Audit.{ReportCalls, ShowsAudit, TellsAudit}
use Rattle.shelf_io.specs.Shelf.{Files}
use Rattle.map_answers.specs.SightStatus.Status.{IsProper}
use Rattle.sight_run.specs.Heard.{ListenersHeard}
use Rattle.sight_run.specs.Obeys.{CallsOn, HasOneOn, IsOfLine, WritesEach}
use Rattle.sight_run.specs.declared.reply.Reply.{Reply}
use Rattle.sight_run.specs.declared.reply.Told.{Told}
use Rattle.sight_run.specs.Reply.{replied, reply_seen, roles_of, writes}
use Rattle.sight_run.specs.Run.{EndsRight, IsOfOrder, IsPastReading}

-- the line of an audit that accepts the map, and of one that refuses it
pub tells_sound : (m : Map) (line said : List ℕ) → line ≡ said → GivesCalled ⊤ (AuditCalls m) (Ok (only_line said)) → TellsAudit m line true
tells_sound m line said e h = record { said = Ok (only_line said); called = h.called; line_is = e; right_is = refl }

tells_flaw : (m : Map) (which : Flaw) (line : List ℕ) (right : Bool) → GivesCalled ⊤ (AuditCalls m) (Err (status.BadMap which)) → line ≡ text_of (status.BadMap which) → right ≡ false → TellsAudit m line right
tells_flaw m which line right h is not_right = record { said = Err (status.BadMap which); called = h.called; line_is = is; right_is = not_right }

pub flaw_told : (m : Map) (which : Flaw) → GivesCalled ⊤ (AuditCalls m) (Err (status.BadMap which)) → (r : Result Told Status) → IfOk r (λ (t : Told). string_bytes t.line ≡ text_of (status.BadMap which)) → IfOk r (λ (t : Told). t.right ≡ false)
    → IfOk r (λ (t : Told). TellsAudit m (string_bytes t.line) t.right)
flaw_told m which h (Ok t) is not_right = tells_flaw m which (string_bytes t.line) t.right h is not_right
flaw_told m which h (Err s) is not_right = tt

-- nothing but want of memory refuses
only_memory : {V : Type 0} (P : Status → Type 0) (r : Result V Status) → P (status.Memory tt) → IfErr r (λ (s : Status). s ≡ status.Memory tt) → IfErr r P
only_memory P (Ok v) p h = tt
only_memory P (Err s) p h = subst P (sym h) p

found_is_ok : (found : LocatedMap) → IsErr {T = LocatedMap} {E = Status} (Ok found) → ⊥
found_is_ok found h = cc

gives_reported : (out : ReportFile) (found : LocatedMap) (r : Result Reply Status) → IfOk r (λ (reply : Reply). ShowsAudit out found.map (replied reply)) → IfErr r (λ (s : Status). s ≡ status.Memory tt)
    → GivesCalled (IsErr {T = LocatedMap} {E = Status} (Ok found)) (ReportCalls out found.map) (reply_seen r)
gives_reported out found (Ok reply) shows e = record { called = shows; only = λ err. absurd (found_is_ok found err) }
gives_reported out found (Err s) shows e = subst (λ (x : Status). GivesCalled (IsErr {T = LocatedMap} {E = Status} (Ok found)) (ReportCalls out found.map) (Err x)) (sym e) tt

report_written : (wad : Source) (name : List ℕ) (report : ReportFile) (r : Result Reply Status) → IfOk r (λ (reply : Reply). roles_of (writes reply) ≡ role.Report ∷ [])
    → IfOk r (λ (reply : Reply). WritesEach (order.Audit wad name (Some report)) (roles_of (writes reply)))
report_written wad name report (Ok reply) h = subst (WritesEach (order.Audit wad name (Some report))) (sym h) (tt, tt)
report_written wad name report (Err s) h = tt

-- the report tells more than whether all is right
any_right : (wad : Source) (name : List ℕ) (report : ReportFile) (r : Result Reply Status) → IfOk r (λ (reply : Reply). EndsRight (order.Audit wad name (Some report)) reply.right)
any_right wad name report (Ok reply) = tt
any_right wad name report (Err s) = tt

-- all that is owed of an audit of a map that was found
abbrev pub IsReported : Source → List ℕ → Option ReportFile → LocatedMap → Result Reply Status → Type 0
IsReported wad name report found r = record {
  called : (files : Files) (heard : ListenersHeard) → GivesCalled (HasOneOn (order.Audit wad name report) (Ok found)) (CallsOn (order.Audit wad name report) files heard found) (reply_seen r);
  refusals : IfErr r (IsOfOrder (order.Audit wad name report));
  past : IfErr r IsPastReading;
  proper : IfErr r IsProper;
  roles : IfOk r (λ (reply : Reply). WritesEach (order.Audit wad name report) (roles_of (writes reply)));
  right : IfOk r (λ (reply : Reply). EndsRight (order.Audit wad name report) reply.right);
}

pub reported : (wad : Source) (name : List ℕ) (report : ReportFile) (found : LocatedMap) (r : Result Reply Status) → IfOk r (λ (reply : Reply). ShowsAudit report found.map (replied reply)) → IfErr r (λ (s : Status). s ≡ status.Memory tt)
    → IfOk r (λ (reply : Reply). roles_of (writes reply) ≡ role.Report ∷ []) → IsReported wad name (Some report) found r
reported wad name report found r shows memory roles = record {
  called = λ files heard. gives_reported report found r shows memory;
  refusals = only_memory (IsOfOrder (order.Audit wad name (Some report))) r tt memory;
  past = only_memory IsPastReading r tt memory;
  proper = only_memory IsProper r tt memory;
  roles = report_written wad name report r roles;
  right = any_right wad name report r;
}

-- .. and of its line, where no report is asked for
pub line_audit : (wad : Source) (name : List ℕ) (report : Option ReportFile) (found : LocatedMap) (said : Result Answer Status) → IsOfLine (order.Audit wad name report) → GivesCalled ⊤ (AuditCalls found.map) said
    → (files : Files) (heard : ListenersHeard) → GivesCalled (HasOneOn (order.Audit wad name report) (Ok found)) (CallsOn (order.Audit wad name report) files heard found) said
line_audit wad name None found said line h files heard = h
line_audit wad name (Some report) found said line h files heard = absurd line
