use Rattle.std.proofs.Common.{◌≡◌, ℕ, List, None, length}
use Rattle.sight_names.specs.Plan.{PlanParts}
use Rattle.reject_bits.specs.Parts.{TableParts}
use Rattle.certificates.specs.ExactParts.Left.{IsCountable}
use Rattle.any_judge.specs.ExactJudge.Intake.{IsGoingOn}
use Rattle.any_judge.proofs.exact_judge.intake.Intake.take_all.Given as goal

abbrev pub decreases-rest : goal.decreases-rest
decreases-rest l = length l.rest

abbrev pub invariant-rest : goal.invariant-rest
invariant-rest l = record {
  on : l.self.fault ≡ None;
  countable : IsCountable l.self.reader l.rest;
  taken : (p : PlanParts) (t : TableParts) (bytes : List ℕ) → IsGoingOn p t bytes l.piece l.initial.self → IsGoingOn p t bytes l.rest l.self;
}
