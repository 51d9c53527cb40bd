-- A judge that was fed a whole file, and what is told where it couldn't be.
use Rattle.std.proofs.Common.{◌≡◌, ℕ, List, Option, Some, Result, Err}
use Rattle.sight_names.specs.declared.faults.FetchFault.{FetchFault}
use Rattle.sight_names.specs.declared.faults.FetchFault.TheVariants as fetch
use Rattle.sight_names.specs.Plan.{PlanParts}
use Rattle.shelf_io.specs.Shelf.{Files, content_of}
use Rattle.reject_bits.specs.Parts.{TableParts}
use Rattle.any_judge.specs.declared.judge.Judge.{Judge}
use Rattle.any_judge.specs.Judge.{HasBeenFed, IsFed}
use Rattle.any_judge.specs.CertFile.Fed.{HoldsFile, RefusesAs}
use Rattle.cert_judge.specs.declared.judged.Judged.{Judged}
use Rattle.any_judge.specs.CertFile.Judgement.{IsJudgement, JudgesContent, JudgesFile}

module _ (p : PlanParts) (t : TableParts) where
  module _ (files : Option Files) (name : List ℕ) (j : Judge) (held : HoldsFile p t files name j) where
    pub is_fed : t.n ≡ p.sectors → IsFed j
    is_fed fits = record { plan = p; table = t; bytes = held.bytes; fed = held.fed; fits = fits }

    pub all_judged : (given : Judged) → ((bytes : List ℕ) → HasBeenFed p t bytes j → IsJudgement p t bytes given) → (fs : Files) → files ≡ Some fs → JudgesContent p t given (content_of (fs name) 9223372036854775807)
    all_judged given judged fs e = record { bytes = held.bytes; whole = held.whole fs e; judged = judged held.bytes held.fed }

  pub none_judged : (fault : FetchFault) (content : Result (List ℕ) FetchFault) → RefusesAs fault content → JudgesFile p t (Err fault) content
  none_judged fetch.Absent content h = h
  none_judged fetch.TooLong content h = h
  none_judged fetch.Failed content h = tt
  none_judged (fetch.Memory _) content h = tt
