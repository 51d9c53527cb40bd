-- How `build`, `all`, `why` and the picture of a pair end where no count of faults rose.
use Rattle.std.proofs.Common.{◌≡◌, ◌⊎◌, inl, inr, ℕ, Bool, true, List, Option, Result, Ok, Err, refl, sym, ap, subst}
use Rattle.sight_names.specs.declared.names.Ask.{Ask}
use Rattle.sight_names.specs.declared.names.Method.{Method}
use Rattle.sight_names.specs.declared.names.Pair.{Pair}
use Rattle.sight_names.specs.Groups.{HasClosedFaces}
use Rattle.sight_names.specs.Map.{Map}
use Rattle.map_audit.proofs.AuditLemmas.{not_sound}
use Rattle.shelf_io.specs.Shelf.{Files, ShelfState}
use Rattle.shelf_io.specs.Sink.{SinkState}
use Rattle.wad_dir.specs.Wad.{WadFile}
use Rattle.map_answers.specs.declared.sight_status.status.Bound.TheVariants as bound
use Rattle.map_answers.specs.declared.sight_status.status.Flaw.TheVariants as flaw
use Rattle.map_answers.specs.declared.sight_status.status.Role.TheVariants as role
use Rattle.map_answers.specs.declared.sight_status.status.Status.{Status}
use Rattle.map_answers.specs.declared.sight_status.status.Status.TheVariants as status
use Rattle.map_answers.specs.declared.sight_status.status.Why.TheVariants as why
use Rattle.map_answers.specs.SightStatus.Answer.{Answer, only_line}
use Rattle.map_answers.specs.Input.{LocatedMap, OnFound}
use Rattle.order_words.specs.declared.order.View.TheVariants as view
use Rattle.pair_answer.specs.declared.answer.PairAnswer.{PairAnswer}
use Rattle.pair_answer.specs.declared.answer.PairAnswer.TheVariants as answer
use Rattle.pair_answer.specs.Answer.{IsAnswerFor}
use Rattle.pair_answer.specs.WhyAnswers.Lines.{blind_line, listed_line, sight_line_by, touch_line}
use Rattle.pair_answer.specs.WhyAnswers.Why.{WhyCalls, said_of_answer}
use Rattle.draw_answers.specs.Pair.{DrawPairCalls}
use Rattle.map_picture.specs.Picture.{NamedParts}
use Rattle.sight_run.specs.Draw.{DrawCalls, named_in}
use Rattle.sight_run.specs.All.{AllCalls, MapsCall, OnRead}
use Rattle.sight_run.specs.Build.{BuildCalls}
use Rattle.sight_run.specs.Heard.{ListenersHeard}
use Rattle.order_words.specs.declared.order.ReportFile.{ReportFile}
use Rattle.refused_maps.specs.declared.Refused.{Refused}
use Rattle.run_laws.specs.Laws.{AllIsDone, BuildIsDone, DrawnPairIsDone, EndsAll, EndsBuild, EndsPair, WhyIsDone}
use Rattle.sight_run.specs.Obeys.{AnswersOrder, IsAnswer}
use Rattle.sight_run.specs.Run.{NothingRose, RunEnds, StatusCause}
use Rattle.math_base.proofs.Bools.{not_both_values}

-- each answer that is called for judges nothing that isn't right
AreRight : (List (List ℕ)) → Files → ListenersHeard → Type 0
AreRight words files heard = (answer : Answer) → IsAnswer words files heard (Ok answer) → answer.right ≡ true

-- each status but Done and Memory is then a refusal that is called for
Refuses : (List (List ℕ)) → Files → ListenersHeard → Status → Type 0
Refuses words files heard s = (s ≡ status.Done) ⊎ ((s ≡ status.Memory tt) ⊎ IsAnswer words files heard (Err s))

refuses : (words : List (List ℕ)) (files : Files) (heard : ListenersHeard) (before after : ShelfState) (o n : SinkState) (s : Status) → AreRight words files heard → NothingRose before after o n → RunEnds words files heard before after o n s → StatusCause before after o n s → Refuses words files heard s
unfolding Refuses AreRight
refuses words files heard before after o n status.Done are quiet ends cause = inl refl
refuses words files heard before after o n status.NotRight are quiet ends cause = absurd (not_both_values ends.ends.answer.right (are ends.ends.answer ends.ends.called.called) ends.ends.right_is)
refuses words files heard before after o n (status.Memory _) are quiet ends cause = inr (inl refl)
refuses words files heard before after o n (status.ReadFault k) are quiet ends cause = absurd (quiet.shelf.reads cause.0)
refuses words files heard before after o n (status.WriteFault role.Text) are quiet ends cause = absurd (quiet.puts cause)
refuses words files heard before after o n (status.WriteFault role.Wad) are quiet ends cause = absurd (quiet.shelf.writes cause.0)
refuses words files heard before after o n (status.WriteFault role.Cert) are quiet ends cause = absurd (quiet.shelf.writes cause.0)
refuses words files heard before after o n (status.WriteFault role.Report) are quiet ends cause = absurd (quiet.shelf.writes cause.0)
refuses words files heard before after o n (status.WriteFault role.Picture) are quiet ends cause = absurd (quiet.shelf.writes cause.0)
refuses words files heard before after o n (status.No k) are quiet ends cause = inr (inr ends.ends.0.called)
refuses words files heard before after o n status.Usage are quiet ends cause = inr (inr ends.ends.0.called)
refuses words files heard before after o n (status.NoFile k) are quiet ends cause = inr (inr ends.ends.0.called)
refuses words files heard before after o n (status.NotWad k) are quiet ends cause = inr (inr ends.ends.0.called)
refuses words files heard before after o n (status.NoMap k) are quiet ends cause = inr (inr ends.ends.0.called)
refuses words files heard before after o n (status.BadLump k) are quiet ends cause = inr (inr ends.ends.0.called)
refuses words files heard before after o n (status.BadText k) are quiet ends cause = inr (inr ends.ends.0.called)
refuses words files heard before after o n (status.Limit k) are quiet ends cause = inr (inr ends.ends.0.called)
refuses words files heard before after o n (status.BadMap k) are quiet ends cause = inr (inr ends.ends.0.called)
refuses words files heard before after o n status.SameName are quiet ends cause = inr (inr ends.ends.0.called)

-- ---- build

module _ (name out : List ℕ) (asked report : Option (List ℕ)) (method : Method) (heard : ListenersHeard) (found : LocatedMap) where
  of_sound : HasClosedFaces found.map → (s : Status) → BuildCalls name out asked report method heard found (Err s) → EndsBuild method found s
  of_sound sound (status.BadMap (flaw.Line fault)) q = absurd (not_sound found.map fault q sound.ends)
  of_sound sound (status.BadMap (flaw.Open side)) q = absurd (q.1.against (sound.closed side))
  of_sound sound (status.Limit k) q = q
  of_sound sound s q = absurd q

  build_right : (answer : Answer) → BuildCalls name out asked report method heard found (Ok answer) → answer.right ≡ true
  build_right answer q = ap (λ (a : Answer). a.right) q.is

pub build_is_done : BuildIsDone
unfolding Refuses AreRight
build_is_done words wad name out asked report workers method went found is_asked is_found sound well = elim (refuses words went.files went.heard went.before went.after went.sink.old went.sink.new went.status (λ answer q. build_right name out asked report method went.heard found answer (subst (λ (r : Result LocatedMap Status). OnFound r (BuildCalls name out asked report method went.heard) (Ok answer)) is_found (subst (λ r. AnswersOrder r went.files went.heard (Ok answer)) is_asked q))) well.quiet well.ends well.cause) as (λ _. EndsBuild method found went.status) [
  | inl e ↦ subst (EndsBuild method found) (sym e) tt
  | inr (inl e) ↦ subst (EndsBuild method found) (sym e) tt
  | inr (inr q) ↦ of_sound name out asked report method went.heard found sound went.status
      (subst (λ (r : Result LocatedMap Status). OnFound r (BuildCalls name out asked report method went.heard) (Err went.status)) is_found (subst (λ r. AnswersOrder r went.files went.heard (Err went.status)) is_asked q))
]

-- ---- all

of_wad : (out : List ℕ) (report : Option ReportFile) (large : Bool) (maps : List (List ℕ)) (method : Method) (choice : Refused) (w : WadFile) (s : Status) → MapsCall out report large maps method choice w (Err s) → EndsAll large maps method choice w s
of_wad out report large maps method choice w status.Done q = tt
of_wad out report large maps method choice w (status.Memory _) q = tt
of_wad out report large maps method choice w s q = q

all_right : (out : List ℕ) (report : Option ReportFile) (large : Bool) (maps : List (List ℕ)) (method : Method) (choice : Refused) (w : WadFile) (answer : Answer) → MapsCall out report large maps method choice w (Ok answer) → answer.right ≡ true
all_right out report large maps method choice w answer q = ap (λ (a : Answer). a.right) q.is

pub all_is_done : AllIsDone
unfolding Refuses AreRight
all_is_done words wad out only report workers method choice went w maps is_asked is_wad is_found well = elim (refuses words went.files went.heard went.before went.after went.sink.old went.sink.new went.status (λ answer q. all_right out report wad.large maps method choice w answer (subst (λ (r : Result (List (List ℕ)) Status). OnRead r (λ ms. MapsCall out report wad.large ms method choice w) (Ok answer)) is_found
    (subst (λ (r : Result WadFile Status). OnRead r (AllCalls out wad.large only report method choice) (Ok answer)) is_wad (subst (λ r. AnswersOrder r went.files went.heard (Ok answer)) is_asked q)))) well.quiet well.ends well.cause) as (λ _. EndsAll wad.large maps method choice w went.status) [
      | inl e ↦ subst (EndsAll wad.large maps method choice w) (sym e) tt
      | inr (inl e) ↦ subst (EndsAll wad.large maps method choice w) (sym e) tt
      | inr (inr q) ↦ of_wad out report wad.large maps method choice w went.status
          (subst (λ (r : Result (List (List ℕ)) Status). OnRead r (λ ms. MapsCall out report wad.large ms method choice w) (Err went.status)) is_found
          (subst (λ (r : Result WadFile Status). OnRead r (AllCalls out wad.large only report method choice) (Err went.status)) is_wad (subst (λ r. AnswersOrder r went.files went.heard (Err went.status)) is_asked q)))
    ]

-- ---- two sectors

module _ (m : Map) (ask : Ask) (pair : Pair) where
  same_err : (s t : Status) → ◌≡◌ {A = Result Answer Status} (Err s) (Err t) → s ≡ t
  same_err s t e = cc

  of_answer : (s : Status) (given : PairAnswer) → IsAnswerFor m ask pair given → Err s ≡ said_of_answer pair given → EndsPair m pair s
  of_answer s (answer.Sight ray) h e = absurd cc
  of_answer s answer.Blind h e = absurd cc
  of_answer s answer.Touch h e = absurd cc
  of_answer s answer.Listed h e = absurd cc
  of_answer s (answer.NoSector k) h e = subst (EndsPair m pair) (sym (same_err s (status.No (why.NoSector k)) e)) h

  of_why : HasClosedFaces m → (s : Status) → WhyCalls ask pair m (Err s) → EndsPair m pair s
  of_why sound (status.BadMap (flaw.Line fault)) q = absurd (not_sound m fault q sound.ends)
  of_why sound (status.BadMap (flaw.Open side)) q = absurd (q.1.against (sound.closed side))
  of_why sound s q = of_answer s q.given q.is_answer q.is

  of_picture : (name : NamedParts) (out : List ℕ) → HasClosedFaces m → (s : Status) → DrawPairCalls name out ask pair m (Err s) → EndsPair m pair s
  of_picture name out sound (status.BadMap (flaw.Line fault)) q = absurd (not_sound m fault q sound.ends)
  of_picture name out sound (status.BadMap (flaw.Open side)) q = absurd (q.1.against (sound.closed side))
  of_picture name out sound (status.No (why.NoSector k)) q = q.1.called
  of_picture name out sound s q = absurd q.1.called

  same_ok : (one other : Answer) → ◌≡◌ {A = Result Answer Status} (Ok one) (Ok other) → one ≡ other
  same_ok one other e = cc

  said_right : (said : Answer) (given : PairAnswer) → Ok said ≡ said_of_answer pair given → said.right ≡ true
  said_right said (answer.Sight ray) e = ap (λ (a : Answer). a.right) (same_ok said (only_line (sight_line_by pair ray)) e)
  said_right said answer.Blind e = ap (λ (a : Answer). a.right) (same_ok said (only_line (blind_line pair)) e)
  said_right said answer.Touch e = ap (λ (a : Answer). a.right) (same_ok said (only_line (touch_line pair)) e)
  said_right said answer.Listed e = ap (λ (a : Answer). a.right) (same_ok said (only_line (listed_line pair)) e)
  said_right said (answer.NoSector k) e = absurd cc

  why_right : (answer : Answer) → WhyCalls ask pair m (Ok answer) → answer.right ≡ true
  why_right answer q = said_right answer q.given q.is

  picture_right : (name : NamedParts) (out : List ℕ) (answer : Answer) → DrawPairCalls name out ask pair m (Ok answer) → answer.right ≡ true
  picture_right name out answer q = ap (λ (a : Answer). a.right) q.1.called.is

pub why_is_done : WhyIsDone
unfolding Refuses AreRight
why_is_done words wad name pair ask went found is_asked is_found sound well = elim (refuses words went.files went.heard went.before went.after went.sink.old went.sink.new went.status (λ answer q. why_right found.map ask pair answer (subst (λ (r : Result LocatedMap Status). OnFound r (λ (f : LocatedMap). WhyCalls ask pair f.map) (Ok answer)) is_found (subst (λ r. AnswersOrder r went.files went.heard (Ok answer)) is_asked q))) well.quiet well.ends well.cause) as (λ _. EndsPair found.map pair went.status) [
  | inl e ↦ subst (EndsPair found.map pair) (sym e) tt
  | inr (inl e) ↦ subst (EndsPair found.map pair) (sym e) tt
  | inr (inr q) ↦ of_why found.map ask pair sound went.status
      (subst (λ (r : Result LocatedMap Status). OnFound r (λ (f : LocatedMap). WhyCalls ask pair f.map) (Err went.status)) is_found (subst (λ r. AnswersOrder r went.files went.heard (Err went.status)) is_asked q))
]

pub drawn_pair_is_done : DrawnPairIsDone
unfolding Refuses AreRight
drawn_pair_is_done words wad name out pair ask went found is_asked is_found sound well = elim (refuses words went.files went.heard went.before went.after went.sink.old went.sink.new went.status (λ answer q. picture_right found.map ask pair (named_in found name) out answer (subst (λ (r : Result LocatedMap Status). OnFound r (DrawCalls name out (view.Pair pair ask)) (Ok answer)) is_found (subst (λ r. AnswersOrder r went.files went.heard (Ok answer)) is_asked q))) well.quiet well.ends well.cause) as (λ _. EndsPair found.map pair went.status) [
  | inl e ↦ subst (EndsPair found.map pair) (sym e) tt
  | inr (inl e) ↦ subst (EndsPair found.map pair) (sym e) tt
  | inr (inr q) ↦ of_picture found.map ask pair (named_in found name) out sound went.status
      (subst (λ (r : Result LocatedMap Status). OnFound r (DrawCalls name out (view.Pair pair ask)) (Err went.status)) is_found (subst (λ r. AnswersOrder r went.files went.heard (Err went.status)) is_asked q))
]
