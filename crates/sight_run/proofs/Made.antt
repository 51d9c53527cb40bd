-- What `grid` answers, told on from the reply to the line that is put.
use Rattle.std.proofs.Common.{◌≡◌, ◌⊎◌, inl, inr, ℕ, Bool, true, false, List, [], ◌++◌, Result, Ok, Err, sym, subst}
use Rattle.std.specs.Prelude.{IfErr, IfOk, string_bytes, ⊤}
use Rattle.std.specs.Option.{option_map}
use Rattle.sight_names.specs.declared.names.Method.{Method}
use Rattle.shelf_io.specs.Shelf.{ShelfState}
use Rattle.shelf_io.specs.Sink.{SinkState}
use Rattle.order_words.specs.declared.order.Order.{Order}
use Rattle.order_words.specs.declared.order.Order.TheVariants as order
use Rattle.map_answers.specs.declared.sight_status.status.Role.{Role}
use Rattle.map_answers.specs.declared.sight_status.status.Role.TheVariants as role
use Rattle.map_answers.specs.declared.sight_status.status.Status.{Status}
use Rattle.map_answers.specs.declared.sight_status.status.Status.TheVariants as status
use Rattle.map_answers.specs.SightStatus.Answer.{Answer, GivesCalled, MakesAnswer, only_line, status_of}
use Rattle.map_answers.specs.SightStatus.Say.{Refused, IsSaidLine, SaidIfMade}
use Rattle.map_answers.specs.SightStatus.Status.{IsOfWords, done_as}
use Rattle.map_answers.specs.SightStatus.Texts.{text_of}
use Rattle.sight_run.specs.declared.reply.Reply.{Reply}
use Rattle.sight_run.specs.Grid.{GridCalls, IsOfGrid}
use Rattle.sight_run.specs.Made.{GridSays, IsLineMade, IsMadeBy, PutsMade}
use Rattle.sight_run.specs.Reply.{IsWriteFaultOf, reply_line, reply_seen, writes}
use Rattle.sight_run.specs.Run.{RefusalCause, WordsSay}

-- ---- by the order

-- the reply has no output, so its line is all that is answered
pub grid_says : (n : ℕ) (hexen : Bool) (method : Method) (r : Result Reply Status) → GivesCalled ⊤ (GridCalls n hexen method) (reply_seen r) → IfOk r (λ reply. writes reply ≡ []) → IfErr r IsOfGrid → IfOk r (λ reply. reply.right ≡ true) → GridSays n hexen method (status_of (reply_seen r)) (reply_line r)
grid_says n hexen method (Ok reply) h none of right =
    let line = string_bytes reply.line in
    let called : GridCalls n hexen method (Ok (only_line line)) = subst (λ (a : Answer). GridCalls n hexen method (Ok a)) (λ i. record { writes = none i; line = line; right = right i }) h.called in
    subst (λ (b : Bool). GridSays n hexen method (done_as b) line) (sym right) called
grid_says n hexen method (Err status.Done) h none of right = absurd of
grid_says n hexen method (Err (status.Memory _)) h none of right = tt
grid_says n hexen method (Err (status.WriteFault k)) h none of right = tt
grid_says n hexen method (Err (status.ReadFault k)) h none of right = absurd of
grid_says n hexen method (Err s) h none of right = h.called

-- an order whose output can't be stored has made one
pub broken_made : (asked : Order) (roles : List Role) (s : Status) (line : List ℕ) → IsWriteFaultOf roles s → IsMadeBy asked s line
broken_made (order.Grid n workers method hexen) roles (status.WriteFault k) line h = tt
broken_made (order.Grid n workers method hexen) roles s line h = absurd h
broken_made asked roles s line h = tt

starved_by : (asked : Order) (line : List ℕ) → IsMadeBy asked (status.Memory tt) line
starved_by (order.Grid n workers method hexen) line = tt
starved_by asked line = tt

unput_by : (asked : Order) (line : List ℕ) → IsMadeBy asked (status.WriteFault role.Text) line
unput_by (order.Grid n workers method hexen) line = tt
unput_by asked line = tt

-- ---- by the words

pub asked_made : (said : Result Order Status) (asked : Order) (s : Status) (line : List ℕ) → said ≡ Ok asked → IsMadeBy asked s line → IsLineMade said s line
asked_made said asked s line e h = subst (λ (r : Result Order Status). IsLineMade r s line) (sym e) h

pub unasked_made : (said : Result Order Status) (s : Status) (line : List ℕ) → IsOfWords s → MakesAnswer {V = Order} (λ o. o) (Err s) said → IsLineMade said s line
unasked_made (Err refusal) s line of made = tt
unasked_made (Ok asked) (status.Memory _) line of made = starved_by asked line
unasked_made (Ok asked) status.Usage line of made = absurd cc
unasked_made (Ok asked) status.SameName line of made = absurd cc
unasked_made (Ok asked) s line of made = absurd of

starved : (said : Result Order Status) (line : List ℕ) → IsLineMade said (status.Memory tt) line
starved (Ok asked) line = starved_by asked line
starved (Err refusal) line = tt

unput : (said : Result Order Status) (line : List ℕ) → IsLineMade said (status.WriteFault role.Text) line
unput (Ok asked) line = unput_by asked line
unput (Err refusal) line = tt

-- with this status no line is the one called for
lineless : (said : Result Order Status) (one other : List ℕ) → IsLineMade said status.NotRight one → IsLineMade said status.NotRight other
lineless (Ok (order.Grid n workers method hexen)) one other h = h
lineless (Ok asked) one other h = tt
lineless (Err refusal) one other h = tt

-- ---- at the end of a run

-- the status of a run that had a line to put: that one, or the sink is at fault
put_done : (said : Result Order Status) (o n : SinkState) (right : Bool) (line : List ℕ) → IsLineMade said (done_as right) line → n.held ≡ option_map (λ held. held ++ line) o.held → PutsMade said o n (done_as right)
put_done said o n true line h held = (line, h, held)
put_done said o n false line h held = lineless said line [] h

pub made_done : (said : Result Order Status) (o n : SinkState) (right : Bool) (r : Status) (line : List ℕ) → IsLineMade said (done_as right) line → IsSaidLine (done_as right) r o n line → PutsMade said o n r
made_done said o n right r line h (inl w) = subst (λ (t : Status). PutsMade said o n t) (sym w.status) (put_done said o n right line h w.held)
made_done said o n right r line h (inr w) = subst (λ (t : Status). PutsMade said o n t) (sym w.status) (unput said (text_of (status.WriteFault role.Text)))

-- .. or there was no memory for the line
abbrev EndsAs : Status → Status → Type 0
EndsAs s r = (r ≡ s) ⊎ ((r ≡ status.Memory tt) ⊎ (r ≡ status.WriteFault role.Text))

of_said : (s r : Status) (o n : SinkState) (line : List ℕ) → IsSaidLine s r o n line → EndsAs s r
of_said s r o n line (inl w) = inl w.status
of_said s r o n line (inr w) = inr (inr w.status)

of_made : (s r : Status) (o n : SinkState) → SaidIfMade s r o n → EndsAs s r
of_made s r o n (inl h) = of_said s r o n (text_of s) h
of_made s r o n (inr w) = inr (inl w.status)

of_refused : (s r : Status) (o n : SinkState) → Refused s r o n → EndsAs s r
of_refused (status.Memory _) r o n h = inl h.status
of_refused (status.WriteFault k) r o n h = of_said (status.WriteFault k) r o n (text_of (status.WriteFault k)) h
of_refused s r o n h = of_made s r o n h

starved_words : (said : Result Order Status) → WordsSay said (status.Memory tt)
starved_words (Ok asked) = tt
starved_words (Err refusal) = tt

unput_words : (said : Result Order Status) → WordsSay said (status.WriteFault role.Text)
unput_words (Ok asked) = tt
unput_words (Err refusal) = tt

-- the words say the same of a refusal whose line was put
pub words_refused : (said : Result Order Status) (o n : SinkState) (s r : Status) → WordsSay said s → Refused s r o n → WordsSay said r
words_refused said o n s r h put = elim (of_refused s r o n put) as (λ _. WordsSay said r) [
  | inl e ↦ subst (WordsSay said) (sym e) h
  | inr (inl e) ↦ subst (WordsSay said) (sym e) (starved_words said)
  | inr (inr e) ↦ subst (WordsSay said) (sym e) (unput_words said)
]

puts_refusal : (said : Result Order Status) (before after : ShelfState) (o n : SinkState) (s : Status) → RefusalCause before after s → IsLineMade said s (text_of s) → PutsMade said o n s
puts_refusal said before after o n status.Done cause h = absurd cause
puts_refusal said before after o n s cause h = h

pub made_refused : (said : Result Order Status) (before after : ShelfState) (o n : SinkState) (s r : Status) → RefusalCause before after s → IsLineMade said s (text_of s) → Refused s r o n → PutsMade said o n r
made_refused said before after o n s r cause h put = elim (of_refused s r o n put) as (λ _. PutsMade said o n r) [
  | inl e ↦ subst (λ (t : Status). PutsMade said o n t) (sym e) (puts_refusal said before after o n s cause h)
  | inr (inl e) ↦ subst (λ (t : Status). PutsMade said o n t) (sym e) (starved said (text_of (status.Memory tt)))
  | inr (inr e) ↦ subst (λ (t : Status). PutsMade said o n t) (sym e) (unput said (text_of (status.WriteFault role.Text)))
]
