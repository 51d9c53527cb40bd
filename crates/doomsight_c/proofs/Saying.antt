-- What is answered for two sectors, and why nothing is.
use Rattle.std.proofs.Common.{◌≡◌, ◌≢◌, ◌∙◌, Result, Ok, Err, refl, sym, ap, subst}
use Rattle.std.specs.Prelude.{IfErr, IfOk}
use Rattle.sight_names.specs.declared.names.Ask.{Ask}
use Rattle.sight_names.specs.declared.names.Ask.TheVariants.{Full as AskFull}
use Rattle.sight_names.specs.declared.names.Budget.{Budget}
use Rattle.sight_names.specs.declared.names.Budget.TheVariants.{Full}
use Rattle.sight_names.specs.declared.names.Pair.{Pair}
use Rattle.sight_names.specs.Enough.{IsBudgetOf}
use Rattle.sight_names.specs.Found.{Spent}
use Rattle.sight_names.specs.Groups.{HasClosedFaces}
use Rattle.sight_names.specs.Map.{Map, map_of}
use Rattle.map_answers.specs.Sound.{IsAuditRefusal}
use Rattle.map_answers.specs.declared.sight_status.status.Why.TheVariants as why
use Rattle.map_answers.specs.declared.sight_status.status.Status.{Status}
use Rattle.map_answers.specs.declared.sight_status.status.Status.TheVariants as status
use Rattle.map_answers.specs.SightStatus.Answer.{MakesAnswer}
use Rattle.map_answers.specs.SightStatus.Status.{IsOfBytes}
use Rattle.pair_answer.specs.declared.answer.PairAnswer.{PairAnswer}
use Rattle.pair_answer.specs.declared.answer.PairAnswer.TheVariants as answer
use Rattle.pair_answer.specs.Answer.{AnswersPair, IsAnswerFor}
use Rattle.pair_answer.specs.Laws.{AnswerTellsSight}
use Rattle.doomsight_c.specs.declared.answer.DoomsightAnswer.{DoomsightAnswer}
use Rattle.doomsight_c.specs.declared.fault.DoomsightFault.{DoomsightFault}
use Rattle.doomsight_c.specs.Faults.{fault_view}
use Rattle.doomsight_c.specs.Lines.{IsOfLibrary, status_in}
use Rattle.doomsight_c.specs.Said.{DeniesPair, DeniesRead, IsPairAnswered, IsSaid, IsRefusalTold, answer_view, of_sectors}
use Rattle.doomsight_c.proofs.Giving.{IsLibrarys, of_reading}

-- ---- the answer of two sectors

module _ (m : Map) (ask : Ask) (pair : Pair) where
  -- without a bound no walk is cut off, and so no pair is left open
  never_listed : AnswersPair m ask pair answer.Listed → ask ≡ AskFull → ⊥
  never_listed h e =
      let w = h.walked in
      let full : w.budget ≡ Full = subst (λ (a : Ask). IsBudgetOf w.g a w.budget) e w.is_budget in
      let over = h.is.some.4 in
      let cut : Spent h.is.grouped h.is.triangles h.is.labels h.is.some.0 w.budget = over.spent in
      subst (λ (b : Budget). Spent h.is.grouped h.is.triangles h.is.labels h.is.some.0 b) full cut

  module _ (faces : HasClosedFaces m) (tells : (given : PairAnswer) → IsAnswerFor m ask pair given → AnswerTellsSight m pair given) where
    is_answered : (given : PairAnswer) → AnswersPair m ask pair given → AnswerTellsSight m pair given → (ask ≡ AskFull → given ≢ answer.Listed) → (r : Result PairAnswer Status) → r ≡ Ok given → IfOk r (IsPairAnswered m ask pair)
    is_answered given h t sure r e = subst (λ (x : Result PairAnswer Status). IfOk x (IsPairAnswered m ask pair)) (sym e) (record { faces = faces; answers = h; tells = t; sure = sure })

    pub answered : (given : PairAnswer) → IsAnswerFor m ask pair given → (r : Result PairAnswer Status) → r ≡ of_sectors given → IfOk r (IsPairAnswered m ask pair)
    answered (answer.Sight ray) h r e = is_answered (answer.Sight ray) h (tells (answer.Sight ray) h) (λ _ x. cc x) r e
    answered answer.Touch h r e = is_answered answer.Touch h (tells answer.Touch h) (λ _ x. cc x) r e
    answered answer.Blind h r e = is_answered answer.Blind h (tells answer.Blind h) (λ _ x. cc x) r e
    answered answer.Listed h r e = is_answered answer.Listed h (tells answer.Listed h) (λ full _. never_listed h full) r e
    answered (answer.NoSector k) h r e = subst (λ (x : Result PairAnswer Status). IfOk x (IsPairAnswered m ask pair)) (sym e) tt

    pub denied : (given : PairAnswer) → IsAnswerFor m ask pair given → (r : Result PairAnswer Status) → r ≡ of_sectors given → IfErr r (DeniesPair m pair)
    denied (answer.Sight ray) h r e = subst (λ (x : Result PairAnswer Status). IfErr x (DeniesPair m pair)) (sym e) tt
    denied answer.Touch h r e = subst (λ (x : Result PairAnswer Status). IfErr x (DeniesPair m pair)) (sym e) tt
    denied answer.Blind h r e = subst (λ (x : Result PairAnswer Status). IfErr x (DeniesPair m pair)) (sym e) tt
    denied answer.Listed h r e = subst (λ (x : Result PairAnswer Status). IfErr x (DeniesPair m pair)) (sym e) tt
    denied (answer.NoSector k) h r e = subst (λ (x : Result PairAnswer Status). IfErr x (DeniesPair m pair)) (sym e) (faces, h)

  pub said_of : (given : PairAnswer) → IsPairAnswered m ask pair given → (s : DoomsightAnswer) → s ≡ answer_view given → IsSaid (Ok m) ask pair s
  said_of given h s is = record { map = m; is_read = refl; given = given; answered = h; is = is }

-- ---- why there is none

module _ (m : Map) (pair : Pair) where
  pub denied_audit : (s : Status) → IsAuditRefusal m s → DeniesPair m pair s
  denied_audit (status.BadMap flaw) h = h
  denied_audit (status.Memory _) h = tt
  denied_audit other h = absurd h

  pub of_denial : (s : Status) → DeniesPair m pair s → IsOfLibrary s
  of_denial (status.No (why.NoSector k)) h = tt
  of_denial (status.BadMap flaw) h = tt
  of_denial (status.Memory _) h = tt
  of_denial other h = absurd h

denied_by_reading : (read : Result Map Status) (pair : Pair) (s : Status) → IsOfBytes s → MakesAnswer map_of (Err s) read → DeniesRead read pair s
denied_by_reading read pair (status.BadLump f) h made = subst (λ r. DeniesRead r pair (status.BadLump f)) (sym made) refl
denied_by_reading read pair (status.BadText f) h made = subst (λ r. DeniesRead r pair (status.BadText f)) (sym made) refl
denied_by_reading read pair (status.Limit b) h made = subst (λ r. DeniesRead r pair (status.Limit b)) (sym made) refl
denied_by_reading read pair (status.NotWad f) h made = subst (λ r. DeniesRead r pair (status.NotWad f)) (sym made) refl
denied_by_reading read pair (status.NoMap f) h made = subst (λ r. DeniesRead r pair (status.NoMap f)) (sym made) refl
denied_by_reading (Ok m) pair (status.Memory _) h made = tt
denied_by_reading (Err r) pair (status.Memory _) h made = tt
denied_by_reading read pair other h made = absurd h

module _ (tells : (s : Status) → IsOfLibrary s → status_in (fault_view s) ≡ s) (pair : Pair) where
  pub unsaid_read : (read : Result Map Status) → IsLibrarys read → (s : Status) → IsOfBytes s → MakesAnswer map_of (Err s) read → (f : DoomsightFault) → f ≡ fault_view s → IsRefusalTold read pair f
  unsaid_read read lib s h made f is = record {
    refusal = s;
    is = is;
    told = ap status_in is ∙ tells s (of_reading read lib s h made);
    called = denied_by_reading read pair s h made;
  }

  pub unsaid_map : (m : Map) (s : Status) → DeniesPair m pair s → (f : DoomsightFault) → f ≡ fault_view s → IsRefusalTold (Ok m) pair f
  unsaid_map m s h f is = record { refusal = s; is = is; told = ap status_in is ∙ tells s (of_denial m pair s h); called = h }
