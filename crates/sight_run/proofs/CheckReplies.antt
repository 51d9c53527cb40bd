-- What the order `check` replies, of what was found.
use Rattle.std.proofs.Common.{◌≡◌, ◌∙◌, ℕ, Bool, true, List, [], Result, Ok, Err, refl, sym, ap, subst}
use Rattle.std.specs.Prelude.{IfErr, IfOk, ⊤}
use Rattle.shelf_io.specs.Shelf.{ShelfState}
use Rattle.cert_checker.specs.declared.verdict.Totals.{Totals}
use Rattle.order_words.specs.declared.order.Order.TheVariants as order
use Rattle.order_words.specs.declared.order.Source.{Source}
use Rattle.row_spelling.specs.declared.Spelling.{Spelling}
use Rattle.row_spelling.specs.declared.Spelling.TheVariants as spelling
use Rattle.sight_names.specs.declared.faults.CertFault.TheVariants as cert_fault
use Rattle.sight_names.specs.declared.faults.TableFault.TheVariants as table_fault
use Rattle.map_answers.specs.declared.sight_status.status.Bound.TheVariants as bound
use Rattle.map_answers.specs.declared.sight_status.status.Flaw.TheVariants as flaw
use Rattle.map_answers.specs.declared.sight_status.status.Role.TheVariants as role
use Rattle.map_answers.specs.declared.sight_status.status.Why.{Why}
use Rattle.map_answers.specs.declared.sight_status.status.Why.TheVariants as why
use Rattle.map_answers.specs.declared.sight_status.status.Status.{Status}
use Rattle.map_answers.specs.declared.sight_status.status.Status.TheVariants as status
use Rattle.map_answers.specs.SightStatus.Answer.{Answer, GivesCalled, Written}
use Rattle.map_answers.specs.SightStatus.Status.{IsProper}
use Rattle.sight_run.specs.declared.reply.Reply.{Reply}
use Rattle.sight_run.specs.Check.{IsToldRight, told_as}
use Rattle.sight_run.specs.Reply.{RepliesAs, reply_seen, writes}
use Rattle.sight_run.specs.Run.{Cause, IsOfCheck, IsOfFinding, IsOfOrder, IsUnstored}

-- ---- what is told

abbrev finding_seen : Result Answer Status → Result Totals Status
finding_seen (Ok answer) = Err status.Done
finding_seen (Err s) = Err s

-- a refusal is told of the same refusal
told_refusal : (spelled : Spelling) (n : ℕ) (found : Result Totals Status) (s : Status) → told_as spelled n found ≡ Err s → found ≡ Err s
told_refusal spelled n (Ok totals) s e = absurd cc
told_refusal spelling.Text n (Err (status.No which)) s e = ap finding_seen e
told_refusal spelling.Json n (Err (status.No which)) s e = absurd cc
told_refusal spelled n (Err refusal) s e = ap finding_seen e

-- no refusal is a no where JSON tells it
no_is_object : (n : ℕ) (found : Result Totals Status) (which : Why) → told_as spelling.Json n found ≡ Err (status.No which) → ⊥
no_is_object n (Ok totals) which e = cc
no_is_object n (Err (status.No other)) which e = cc
no_is_object n (Err refusal) which e = cc

abbrev writes_in : Result Answer Status → List Written
writes_in (Ok answer) = answer.writes
writes_in (Err s) = []

no_writes : (spelled : Spelling) (n : ℕ) (found : Result Totals Status) → writes_in (told_as spelled n found) ≡ []
no_writes spelled n (Ok totals) = refl
no_writes spelling.Text n (Err (status.No which)) = refl
no_writes spelling.Json n (Err (status.No which)) = refl
no_writes spelled n (Err refusal) = refl

abbrev right_in : Result Answer Status → Bool
right_in (Ok answer) = answer.right
right_in (Err s) = true

words_right : (n : ℕ) (found : Result Totals Status) → right_in (told_as spelling.Text n found) ≡ true
words_right n (Ok totals) = refl
words_right n (Err (status.No which)) = refl
words_right n (Err refusal) = refl

-- ---- the reply

module _ (spelled : Spelling) (n : ℕ) (found : Result Totals Status) where
  pub gives_reply : (Called : Result Answer Status → Type 0) (r : Result Reply Status) → RepliesAs (told_as spelled n found) r → GivesCalled ⊤ Called (told_as spelled n found) → GivesCalled ⊤ Called (reply_seen r)
  gives_reply Called (Ok reply) e h = subst (λ (x : Result Answer Status). GivesCalled ⊤ Called x) e h
  gives_reply Called (Err (status.Memory _)) e h = tt
  gives_reply Called (Err (status.ReadFault k)) e h = tt
  gives_reply Called (Err s) e h = subst (λ (x : Result Answer Status). GivesCalled ⊤ Called x) e h

  pub reply_writes : (r : Result Reply Status) → RepliesAs (told_as spelled n found) r → IfOk r (λ (reply : Reply). writes reply ≡ [])
  reply_writes (Ok reply) e = sym (ap writes_in e) ∙ no_writes spelled n found
  reply_writes (Err s) e = tt

-- what was done asked the shelf for what was found
done_cause : (spelled : Spelling) (n : ℕ) (found : Result Totals Status) (old new : ShelfState) (reply : Reply) (answer : Answer) → told_as spelled n found ≡ Ok answer → Cause old new found → Cause {V = Reply} old new (Ok reply)
done_cause spelled n (Ok totals) old new reply answer e h = h
done_cause spelled n (Err (status.No which)) old new reply answer e h = h
done_cause spelled n (Err refusal) old new reply answer e h = absurd cc

pub reply_cause : (spelled : Spelling) (n : ℕ) (found : Result Totals Status) (old new : ShelfState) (r : Result Reply Status) → RepliesAs (told_as spelled n found) r → Cause old new found → Cause old new r
reply_cause spelled n found old new (Ok reply) e h = done_cause spelled n found old new reply _ e h
reply_cause spelled n found old new (Err (status.Memory _)) e h = tt
reply_cause spelled n found old new (Err s) e h = subst (λ (x : Result Totals Status). Cause old new x) (told_refusal spelled n found _ e) h

of_finding : (spelled : Spelling) (n : ℕ) (found : Result Totals Status) (s : Status) → told_as spelled n found ≡ Err s → IfErr found IsOfFinding → IsOfFinding s
of_finding spelled n found s e h = subst (λ (x : Result Totals Status). IfErr x IsOfFinding) (told_refusal spelled n found s e) h

pub reply_refusals : (spelled : Spelling) (n : ℕ) (found : Result Totals Status) (r : Result Reply Status) → RepliesAs (told_as spelled n found) r → IfErr found IsOfFinding → IfErr r (IsOfCheck spelled)
reply_refusals spelled n found (Ok reply) e h = tt
reply_refusals spelling.Text n found (Err (status.Memory _)) e h = tt
reply_refusals spelling.Text n found (Err s) e h = of_finding spelling.Text n found _ e h
reply_refusals spelling.Json n found (Err (status.Memory _)) e h = tt
reply_refusals spelling.Json n found (Err (status.No which)) e h = no_is_object n found which e
reply_refusals spelling.Json n found (Err s) e h = of_finding spelling.Json n found _ e h

pub reply_right : (spelled : Spelling) (n : ℕ) (found : Result Totals Status) (r : Result Reply Status) → RepliesAs (told_as spelled n found) r → IfOk r (λ (reply : Reply). IsToldRight spelled reply.right)
reply_right spelling.Text n found (Ok reply) e = sym (ap right_in e) ∙ words_right n found
reply_right spelling.Json n found (Ok reply) e = tt
reply_right spelled n found (Err s) e = tt

-- ---- by the order

-- what is found that is no verdict
abbrev IsOfRead : Status → Type 0
IsOfRead (status.No which) = ⊥
IsOfRead other = IsOfFinding other

read_refusal : (wad : Source) (name cert : List ℕ) (spelled : Spelling) (s : Status) → IsOfRead s → IsOfOrder (order.Check wad name cert spelled) s
read_refusal wad name cert spelled (status.NoFile role.Cert) h = tt
read_refusal wad name cert spelled (status.ReadFault role.Cert) h = tt
read_refusal wad name cert spelled (status.Limit bound.CertBytes) h = tt
read_refusal wad name cert spelled (status.BadMap (flaw.Line f)) h = tt
read_refusal wad name cert spelled (status.Memory _) h = tt
read_refusal wad name cert spelled s h = absurd h

order_refusal : (wad : Source) (name cert : List ℕ) (spelled : Spelling) (s : Status) → IsOfCheck spelled s → IsOfOrder (order.Check wad name cert spelled) s
order_refusal wad name cert spelling.Text (status.No (why.Table f)) h = tt
order_refusal wad name cert spelling.Text (status.No (why.Cert f)) h = tt
order_refusal wad name cert spelling.Text (status.No (why.Check f)) h = tt
order_refusal wad name cert spelling.Text (status.No (why.Group triangle)) h = tt
order_refusal wad name cert spelling.Text (status.No (why.Unused group)) h = tt
order_refusal wad name cert spelling.Text (status.No which) h = absurd h
order_refusal wad name cert spelling.Json (status.No which) h = absurd h
order_refusal wad name cert spelling.Text s h = read_refusal wad name cert spelling.Text s h
order_refusal wad name cert spelling.Json s h = read_refusal wad name cert spelling.Json s h

pub check_refusals : (wad : Source) (name cert : List ℕ) (spelled : Spelling) (r : Result Reply Status) → IfErr r (IsOfCheck spelled) → IfErr r (IsOfOrder (order.Check wad name cert spelled))
check_refusals wad name cert spelled (Ok reply) h = tt
check_refusals wad name cert spelled (Err s) h = order_refusal wad name cert spelled s h

-- no status of it comes once something is stored, and none holds what there is another status for
unstored_finding : (s : Status) → IsOfFinding s → IsUnstored s
unstored_finding status.Done h = absurd h
unstored_finding status.NotRight h = absurd h
unstored_finding (status.WriteFault k) h = absurd h
unstored_finding s h = tt

proper_finding : (s : Status) → IsOfFinding s → IsProper s
proper_finding (status.No (why.Ray f)) h = absurd h
proper_finding (status.No (why.Trace f)) h = absurd h
proper_finding (status.No (why.Table (table_fault.Memory _))) h = absurd h
proper_finding (status.No (why.Cert (cert_fault.Memory _))) h = absurd h
proper_finding (status.No which) h = tt
proper_finding (status.NotWad f) h = absurd h
proper_finding (status.BadLump f) h = absurd h
proper_finding (status.BadText f) h = absurd h
proper_finding s h = tt

found_in : (spelled : Spelling) (s : Status) → IsOfCheck spelled s → IsOfFinding s
found_in spelling.Text s h = h
found_in spelling.Json (status.No which) h = absurd h
found_in spelling.Json s h = h

pub check_early : (spelled : Spelling) (r : Result Reply Status) → IfErr r (IsOfCheck spelled) → IfErr r IsUnstored
check_early spelled (Ok reply) h = tt
check_early spelled (Err s) h = unstored_finding s (found_in spelled s h)

pub check_proper : (spelled : Spelling) (r : Result Reply Status) → IfErr r (IsOfCheck spelled) → IfErr r IsProper
check_proper spelled (Ok reply) h = tt
check_proper spelled (Err s) h = proper_finding s (found_in spelled s h)
