-- What is said of an answer: its line is made, and it is what `why` calls for.
use Rattle.std.proofs.Common.{◌≡◌, ℕ, List, Result, Ok, Err, String, ap, sym, ◌∙◌, subst}
use Rattle.std.specs.Prelude.{IfErr}
use Rattle.std.specs.declared.alloc.Global.{Global}
use Rattle.sight_names.specs.declared.names.Ask.{Ask}
use Rattle.sight_names.specs.declared.names.Pair.{Pair}
use Rattle.sight_names.specs.Groups.{HasClosedFaces}
use Rattle.sight_names.specs.Map.{Map}
use Rattle.map_answers.specs.declared.sight_status.status.Flaw.{Flaw}
use Rattle.map_answers.specs.declared.sight_status.status.Flaw.TheVariants as flaw
use Rattle.map_answers.specs.declared.sight_status.status.Status.{Status}
use Rattle.map_answers.specs.declared.sight_status.status.Status.TheVariants as status
use Rattle.map_answers.specs.SightStatus.Answer.{Answer, GivesCalled, line_answer, only_line}
use Rattle.map_answers.specs.Sound.{IsAuditRefusal, IsFlaw}
use Rattle.map_answers.proofs.Flaws.{gives_unsound}
use Rattle.pair_answer.specs.declared.answer.PairAnswer.{PairAnswer}
use Rattle.pair_answer.specs.declared.answer.PairAnswer.TheVariants as answer
use Rattle.pair_answer.specs.Answer.{IsAnswerFor}
use Rattle.pair_answer.specs.WhyAnswers.Why.{IsOfWhyTest, IsSaidIfMade, SaysLine, SaysWhy, WhyCalls, said_of_answer}

-- ---- a line that was made

pub line_said : (pair : Pair) (given : PairAnswer) (text : List ℕ) (r : Result (String Global) Status) → said_of_answer pair given ≡ Ok (only_line text) → SaysLine text r → IsSaidIfMade pair given (line_answer r)
line_said pair given text (Ok line) is h = ap (λ (l : List ℕ). Ok (only_line l)) h ∙ sym is
line_said pair given text (Err s) is h = subst (λ (x : Status). IsSaidIfMade pair given (Err x)) (sym h) tt

pub line_refusal : (text : List ℕ) (r : Result (String Global) Status) → SaysLine text r → IfErr r IsOfWhyTest
line_refusal text (Ok line) h = tt
line_refusal text (Err s) h = subst IsOfWhyTest (sym h) tt

-- ---- what is said is what is called for

not_bad : (pair : Pair) (given : PairAnswer) (f : Flaw) → Err (status.BadMap f) ≡ said_of_answer pair given → ⊥
not_bad pair (answer.Sight ray) f e = cc
not_bad pair answer.Blind f e = cc
not_bad pair answer.Touch f e = cc
not_bad pair answer.Listed f e = cc
not_bad pair (answer.NoSector k) f e = cc

module _ (m : Map) (ask : Ask) (pair : Pair) where
  says : (given : PairAnswer) → HasClosedFaces m → IsAnswerFor m ask pair given → (r : Result Answer Status) → r ≡ said_of_answer pair given → SaysWhy m ask pair r
  says given faces h r is = record { faces = faces; given = given; is_answer = h; is = is }

  pub gives_said : (given : PairAnswer) (r : Result Answer Status) → HasClosedFaces m → IsAnswerFor m ask pair given → IsSaidIfMade pair given r → GivesCalled (¬ HasClosedFaces m) (WhyCalls ask pair m) r
  gives_said given (Ok line) faces h is = record { called = says given faces h (Ok line) is; only = λ sole. absurd (sole faces) }
  gives_said given (Err (status.Memory _)) faces h is = tt
  gives_said given (Err (status.ReadFault k)) faces h is = tt
  gives_said given (Err (status.BadMap f)) faces h is = absurd (not_bad pair given f is)
  gives_said given (Err s) faces h is = record { called = says given faces h (Err s) is; only = λ sole. absurd (sole faces) }

  called_flaw : (which : Flaw) → IsFlaw m (Err (status.BadMap which)) → WhyCalls ask pair m (Err (status.BadMap which))
  called_flaw (flaw.Line fault) h = h
  called_flaw (flaw.Open side) h = h

  each_flaw : ¬ HasClosedFaces m → (other : Result Answer Status) → WhyCalls ask pair m other → IsFlaw m other
  each_flaw flawed (Ok answer) q = absurd (flawed q.faces)
  each_flaw flawed (Err (status.BadMap (flaw.Line fault))) q = q
  each_flaw flawed (Err (status.BadMap (flaw.Open side))) q = q
  each_flaw flawed (Err s) q = absurd (flawed q.faces)

  -- the refusal of the audit
  pub gives_audit : (s : Status) → IsAuditRefusal m s → GivesCalled (¬ HasClosedFaces m) (WhyCalls ask pair m) (Err s)
  gives_audit s h = gives_unsound m (WhyCalls ask pair m) called_flaw each_flaw s h
