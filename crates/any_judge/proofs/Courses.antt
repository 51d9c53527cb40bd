-- What bytes begin with, what a call with the next piece may count on, and what is said once more bytes come behind.
use Rattle.std.proofs.Common.{◌≡◌, ℕ, ◌+◌, ◌<◌, ◌≤◌, ◌^◌, List, [], ◌++◌, length, None, Result, Err, refl, sym, ap, subst, append_assoc, arith, ◌∙◌, inl, inr}
use Rattle.std.specs.Prelude.{IfOk}
use Rattle.std.proofs.lemmas.Option.{MatchOption-at_none}
use Rattle.sight_names.specs.declared.faults.CertFault.{CertFault}
use Rattle.sight_names.specs.declared.faults.CertFault.TheVariants as faults
use Rattle.sight_names.specs.declared.names.Memory.{Memory}
use Rattle.sight_names.specs.Plan.{PlanParts}
use Rattle.reject_bits.specs.Parts.{TableParts}
use Rattle.cert_format.specs.declared.cert.Sizes.{Sizes}
use Rattle.cert_format.specs.Grammar.{AreSmall}
use Rattle.cert_format.specs.Sizes.{sizes_of_plan}
use Rattle.cert_format.specs.CertGroups.Reading.{any_at}
use Rattle.certificates.specs.declared.certificate.Certificate.{Certificate}
use Rattle.certificates.specs.CertExact.Reading.{exact_at}
use Rattle.certificates.specs.CertParts.Beginning.{IsListingBegun as IsBegunListing}
use Rattle.certificates.specs.CertParts.Left.{ReaderState as StateOfListing}
use Rattle.certificates.specs.CertParts.Parts.{any_parts_of, reading_any_parts}
use Rattle.certificates.specs.ExactParts.Beginning.{IsExactBegun as IsBegunExact}
use Rattle.certificates.specs.ExactParts.Left.{ReaderState as StateOfExact}
use Rattle.certificates.specs.ExactParts.Parts.{reading_three_parts, three_parts_of}
use Rattle.certificates.specs.Reading.{certificate_at, exact_of, listing_of}
use Rattle.cert_judge.specs.declared.intake.Intake.{Intake as IntakeOfListing}
use Rattle.cert_judge.specs.declared.judged.Judged.TheVariants as judged
use Rattle.cert_judge.specs.Intake.{AreBytes, AreRefusedListing, HasTakenListing, IsGoingOn as IsGoingOnListing}
use Rattle.cert_judge.specs.Judged.{JudgedBy}
use Rattle.cert_judge.specs.Judging.{HasHeard as HasHeardListing}
use Rattle.cert_judge.specs.Version.{Groups as GroupsOfListing}
use Rattle.cert_judge.proofs.Intakes.{fault_read, refused_whole as refused_whole_listing}
use Rattle.any_judge.specs.declared.exact_judge.intake.Intake.{Intake as IntakeOfExact}
use Rattle.any_judge.specs.declared.opening.Asked.{Asked}
use Rattle.any_judge.specs.declared.opening.Asked.TheVariants as asked
use Rattle.any_judge.specs.declared.opening.Opening.{Opening}
use Rattle.any_judge.specs.declared.versed.Versed.TheVariants as versed
use Rattle.any_judge.specs.Course.{IsAsked, IsAskedExact, IsAskedListing, IsOpening}
use Rattle.any_judge.specs.ExactJudge.Heard.{Groups as GroupsOfExact}
use Rattle.any_judge.specs.ExactJudge.Intake.{AreRefusedExact, HasTakenExact, IsGoingOn as IsGoingOnExact}
use Rattle.any_judge.specs.ExactJudge.Judging.{HasHeard as HasHeardExact}
use Rattle.any_judge.specs.Judged.{IsVerdictOf}
use Rattle.any_judge.specs.Version.{BeginsThree}
use Rattle.any_judge.specs.Versed.{AreRefused}
use Rattle.any_judge.proofs.ExactJudge.Intakes.{refused_whole as refused_whole_exact}
use Rattle.any_judge.proofs.Versions.{begins_on, begins_only, reads_exact, reads_listing}

-- ---- what bytes begin with

module _ (p : PlanParts) (t : TableParts) (bytes rest : List ℕ) (fit : AreBytes bytes) (sizes : Sizes) (same : sizes ≡ sizes_of_plan p) (small : AreSmall sizes) where
  -- version and groups were read, and the reader of their parts goes on
  pub listing_goes_on : (groups : GroupsOfListing) (reader : StateOfListing) (k : IntakeOfListing) → IsBegunListing sizes bytes groups reader rest → HasHeardListing p t groups [] k.judging → k.reader ≡ reader → IsGoingOnListing p t bytes rest k
  listing_goes_on groups reader k begun heard is =
      let b = subst (λ (r : StateOfListing). IsBegunListing (sizes_of_plan p) bytes groups r rest) (sym is) (subst (λ (z : Sizes). IsBegunListing z bytes groups reader rest) same begun) in
      record { small = subst AreSmall same small; fit = fit; groups = groups; parts = []; heard = heard; given = b.given; left = b.parts }

  pub exact_goes_on : (groups : GroupsOfExact) (reader : StateOfExact) (k : IntakeOfExact) → IsBegunExact sizes bytes groups reader rest → HasHeardExact p t groups [] k.judging → k.reader ≡ reader → IsGoingOnExact p t bytes rest k
  exact_goes_on groups reader k begun heard is =
      let b = subst (λ (r : StateOfExact). IsBegunExact (sizes_of_plan p) bytes groups r rest) (sym is) (subst (λ (z : Sizes). IsBegunExact z bytes groups reader rest) same begun) in
      record { small = subst AreSmall same small; fit = fit; groups = groups; parts = []; heard = heard; given = b.given; left = b.parts }

module _ (p : PlanParts) (bytes : List ℕ) (f : CertFault) where
  -- the fault of the parts is that of the certificate
  listing_fault : ¬ BeginsThree bytes → reading_any_parts (sizes_of_plan p) bytes ≡ Err f → certificate_at (sizes_of_plan p) bytes ≡ Err f
  listing_fault other e = reads_listing (sizes_of_plan p) bytes other ∙ ap listing_of (fault_read any_parts_of (any_at (sizes_of_plan p) bytes) f e)

  exact_fault : BeginsThree bytes → reading_three_parts (sizes_of_plan p) bytes ≡ Err f → certificate_at (sizes_of_plan p) bytes ≡ Err f
  exact_fault begins e = reads_exact (sizes_of_plan p) bytes begins ∙ ap exact_of (fault_read three_parts_of (exact_at (sizes_of_plan p) bytes) f e)

  pub unread : (t : TableParts) → certificate_at (sizes_of_plan p) bytes ≡ Err f → JudgedBy (certificate_at (sizes_of_plan p) bytes) (IsVerdictOf p t) (judged.Unread f)
  unread t e = subst (λ (r : Result Certificate CertFault). JudgedBy r (IsVerdictOf p t) (judged.Unread f)) (sym e) refl

  pub refused_at_end : (t : TableParts) → AreRefused p bytes f → JudgedBy (certificate_at (sizes_of_plan p) bytes) (IsVerdictOf p t) (judged.Unread f)
  refused_at_end t (inl (other, w)) = unread t (listing_fault other (refused_whole_listing p bytes f w))
  refused_at_end t (inr (begins, w)) = unread t (exact_fault begins (refused_whole_exact p bytes f w))

module _ (p : PlanParts) (t : TableParts) (bytes : List ℕ) where
  pub by_listing : ¬ BeginsThree bytes → (a : Asked) → IsAskedListing p t bytes a → IsAsked p t bytes a
  by_listing other (asked.Cut at) w = listing_fault p bytes (faults.Short at) other w
  by_listing other (asked.Told (versed.Refused f)) w = inl (other, w)
  by_listing other (asked.Told (versed.Listing k)) w = (other, w)
  by_listing other (asked.Told (versed.Exact k)) w = absurd w

  pub by_exact : BeginsThree bytes → (a : Asked) → IsAskedExact p t bytes a → IsAsked p t bytes a
  by_exact begins (asked.Cut at) w = exact_fault p bytes (faults.Short at) begins w
  by_exact begins (asked.Told (versed.Refused f)) w = inr (begins, w)
  by_exact begins (asked.Told (versed.Listing k)) w = absurd w
  by_exact begins (asked.Told (versed.Exact k)) w = (begins, w)

  -- what is said of the bytes of an opening
  pub asked_of : (o : Opening) → IsOpening p t bytes o → (r : Result Asked Memory) → IfOk r (IsAsked o.plan.now o.table.now o.bytes.items) → IfOk r (IsAsked p t bytes)
  asked_of o w r h =
      subst (λ (bs : List ℕ). IfOk r (IsAsked p t bs)) w.bytes_are (subst (λ (u : TableParts). IfOk r (IsAsked p u o.bytes.items)) w.table (subst (λ (q : PlanParts). IfOk r (IsAsked q o.table.now o.bytes.items)) w.plan h))

-- ---- the next piece

module _ (p : PlanParts) (t : TableParts) (bytes piece : List ℕ) (few : length bytes + length piece < 2 ^ 63) where
  pub may_take_listing : (k : IntakeOfListing) → HasTakenListing p t bytes k → k.fault ≡ None → k.reader.given + length piece < 2 ^ 64
  may_take_listing k w none = let on = MatchOption-at_none (IsGoingOnListing p t bytes [] k) (AreRefusedListing p bytes) none w in omega (arith, on.given, few)

  pub may_take_exact : (k : IntakeOfExact) → HasTakenExact p t bytes k → k.fault ≡ None → k.reader.given + length piece < 2 ^ 64
  may_take_exact k w none = let on = MatchOption-at_none (IsGoingOnExact p t bytes [] k) (AreRefusedExact p bytes) none w in omega (arith, on.given, few)

module _ (bytes piece : List ℕ) (enough : 6 ≤ length bytes) where
  -- once the version is told, more bytes don't change it
  pub other_on : ¬ BeginsThree bytes → ¬ BeginsThree (bytes ++ piece)
  other_on other = λ b. other (begins_only bytes piece enough b)

  pub refused_on : (p : PlanParts) (f : CertFault) → AreRefused p bytes f → AreRefused p (bytes ++ piece) f
  refused_on p f (inl (other, w)) = inl (other_on other, λ more. ap (reading_any_parts (sizes_of_plan p)) (append_assoc bytes piece more) ∙ w (piece ++ more))
  refused_on p f (inr (begins, w)) = inr (begins_on bytes piece enough begins, λ more. ap (reading_three_parts (sizes_of_plan p)) (append_assoc bytes piece more) ∙ w (piece ++ more))
