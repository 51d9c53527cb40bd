-- The answer without a budget for two sectors that see each other is a ray, or that a face belongs to both.
use Rattle.std.proofs.Common.{ℕ, ◌<◌, inl, inr, subst, arith}
use Rattle.sight_names.specs.declared.names.Ask.TheVariants as ask
use Rattle.sight_names.specs.declared.names.Budget.{Budget}
use Rattle.sight_names.specs.declared.names.Budget.TheVariants.{Full}
use Rattle.sight_names.specs.declared.names.Pair.{Pair}
use Rattle.sight_names.specs.Groups.{IsListedByGroups}
use Rattle.sight_names.specs.Map.{Map}
use Rattle.sight_names.specs.Sees.{Sees}
use Rattle.pair_answer.specs.declared.answer.PairAnswer.{PairAnswer}
use Rattle.pair_answer.specs.declared.answer.PairAnswer.TheVariants as answer
use Rattle.pair_answer.specs.Answer.{AnswersPair, IsAnswerFor, IsMissing}
use Rattle.pair_answer.specs.Laws.{AnswerTellsSight}
use Rattle.table_verdicts.specs.Verdict.{ShowsSightByAnswer}

module _ (m : Map) (pair : Pair) (row : pair.a < m.sectors) (column : pair.b < m.sectors) (sees : Sees m pair.a pair.b) where
  never_listed : AnswersPair m ask.Full pair answer.Listed → ⊥
  never_listed h =
      let listed : IsListedByGroups m Full pair.a pair.b = subst (λ (b : Budget). IsListedByGroups m b pair.a pair.b) h.walked.is_budget h.is in
      listed.some.4.spent

  never_missing : (k : ℕ) → IsMissing m pair k → ⊥
  never_missing k (inl h) = let le = h.1 in omega arith
  never_missing k (inr h) = let le = h.2 in omega arith

  pub shows : (given : PairAnswer) → IsAnswerFor m ask.Full pair given → AnswerTellsSight m pair given → ShowsSightByAnswer given
  shows (answer.Sight ray) h tells = tt
  shows answer.Blind h tells = absurd (tells sees)
  shows answer.Touch h tells = tt
  shows answer.Listed h tells = absurd (never_listed h)
  shows (answer.NoSector k) h tells = absurd (never_missing k h)
