use Rattle.std.proofs.Common.{◌≡◌, ◌<◌, ◌⊎◌, ℕ, List, [], length, false, Ok, Err, inl, inr, sym, subst, ◌∙◌, arith}
use Rattle.certificates.specs.declared.cert_parts.awaited.Awaited.{Awaited}
use Rattle.certificates.specs.CertParts.Left.{ReaderState, parts_left}
use Rattle.certificates.specs.CertParts.Steps.{is_done, first_at}
use Rattle.certificates.proofs.CertParts.State.{end_told, done_told, not_read}
use Rattle.certificates.proofs.cert_parts.reader.Reader.end.Goals as goal
use Rattle.certificates.proofs.cert_parts.reader.Reader.end.Goals.{else-is_done-via-then-is_done+else-len-eq0, else-is_done-via-else-is_done}

abbrev state : Awaited → ℕ → List ℕ → ReaderState
state awaited given kept = record { awaited = awaited; given = given; kept = kept }

pub returns-then-len-eq0-clause-whole : goal.returns-then-len-eq0-clause-whole
returns-then-len-eq0-clause-whole c =
    let i = c.self.inside in
    subst (λ (v : ReaderState). parts_left v [] ≡ Ok []) c.self.view_is (done_told (state i.awaited i.given i.kept) (sym c.is_done.ensures ∙ c.if-is_done.true) (sym c.len.ensures ∙ c.if-len-eq0.true))

pub returns-in-Err-clause-fault : goal.returns-in-Err-clause-fault
returns-in-Err-clause-fault c =
    let i = c.self.inside in
    let owed : (is_done i.awaited ≡ false) ⊎ (0 < length i.kept) = elim c.else-is_done.branch [
      | else-is_done-via-then-is_done+else-len-eq0 w ↦ inr (omega (arith, w.len.ensures, w.if-len-eq0.false))
      | else-is_done-via-else-is_done w ↦ inl (sym c.is_done.ensures ∙ w.if-is_done.false)
    ] in
    let read : first_at i.awaited i.given i.kept ≡ Err c.in-Err.fault = subst (λ (t : List ℕ). first_at i.awaited i.given t ≡ Err c.in-Err.fault) c.as_slice.ensures c.in-Err.ensures.read in
    subst (λ (v : ReaderState). parts_left v [] ≡ Err c.in-Err.fault) c.self.view_is (end_told (state i.awaited i.given i.kept) c.in-Err.fault owed read)

pub returns-in-Ok-clause-whole : goal.returns-in-Ok-clause-whole
returns-in-Ok-clause-whole c =
    let i = c.self.inside in
    absurd (not_read (state i.awaited i.given i.kept) c.as_slice.result.now _ c.self.invariant c.as_slice.ensures c.in-Ok.ensures.read)
