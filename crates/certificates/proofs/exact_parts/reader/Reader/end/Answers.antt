use Rattle.std.proofs.Common.{◌≡◌, ◌≢◌, ◌<◌, ◌⊎◌, ℕ, List, [], length, vec_len, false, Ok, inl, inr, sym, subst, ◌∙◌, arith}
use Rattle.std.proofs.lemmas.Bool.{eqb-true, eqb-false}
use Rattle.cert_format.specs.Reading.{FailsCert}
use Rattle.certificates.specs.declared.exact_parts.awaited.Awaited.{Awaited}
use Rattle.certificates.specs.ExactParts.Left.{TreesLeft, ReaderState, parts_left}
use Rattle.certificates.specs.declared.exact_parts.part.Part.{Part}
use Rattle.certificates.specs.ExactParts.Steps.{Ahead, is_done, first_at}
use Rattle.certificates.proofs.ExactParts.State.{end_fails, done_told, not_read}
use Rattle.certificates.proofs.exact_parts.reader.Reader.end.Goals as goal
use Rattle.certificates.proofs.exact_parts.reader.Reader.end.Goals.{else-is_done-via-then-is_done+else-is_empty, else-is_done-via-else-is_done}

abbrev state : Awaited → TreesLeft → ℕ → List ℕ → ReaderState
state awaited trees given kept = record { awaited = awaited; trees = trees; given = given; kept = kept }

pub returns-then-is_empty-clause-whole : goal.returns-then-is_empty-clause-whole
returns-then-is_empty-clause-whole c =
    let i = c.self.inside in
    let count : vec_len i.kept ≡ length i.kept.items = omega arith in
    let none : vec_len i.kept ≡ 0 = eqb-true _ _ (sym c.is_empty.ensures ∙ c.if-is_empty.true) in
    subst (λ (v : ReaderState). parts_left v [] ≡ Ok []) c.self.view_is (done_told (state i.awaited i.trees i.given i.kept.items) (sym c.is_done.ensures ∙ c.if-is_done.true) c.self.invariant.1 (sym count ∙ none))

pub returns-in-Err-clause-fault : goal.returns-in-Err-clause-fault
returns-in-Err-clause-fault c =
    let i = c.self.inside in
    let count : vec_len i.kept ≡ length i.kept.items = omega arith in
    let owed : (is_done i.awaited i.trees ≡ false) ⊎ (0 < length i.kept.items) = elim c.else-is_done.branch [
      | else-is_done-via-then-is_done+else-is_empty w ↦ inr (let some : vec_len i.kept ≢ 0 = eqb-false _ _ (sym w.is_empty.ensures ∙ w.if-is_empty.false) in omega (arith, some, count))
      | else-is_done-via-else-is_done w ↦ inl (sym c.is_done.ensures ∙ w.if-is_done.false)
    ] in
    let read : FailsCert c.in-Err.fault (first_at i.awaited i.trees i.given i.kept.items) = subst (λ (t : List ℕ). FailsCert c.in-Err.fault (first_at i.awaited i.trees i.given t)) c.as_slice.ensures.value c.in-Err.ensures.read in
    subst (λ (v : ReaderState). FailsCert c.in-Err.fault (parts_left v [])) c.self.view_is (end_fails (state i.awaited i.trees i.given i.kept.items) c.in-Err.fault owed c.self.invariant.0 read)

pub returns-clause-whole : goal.returns-clause-whole
returns-clause-whole c =
    let i = c.self.inside in
    let x : (Part × Ahead) × List ℕ = ((c.in-Ok.field-0.0, (c.take.new.awaited, c.take.new.trees)), c.in-Ok.field-0.1.now) in
    absurd (not_read (state i.awaited i.trees i.given i.kept.items) x c.self.invariant.0 (subst (λ (t : List ℕ). first_at i.awaited i.trees i.given t ≡ Ok x) c.as_slice.ensures.value c.in-Ok.ensures.read))
