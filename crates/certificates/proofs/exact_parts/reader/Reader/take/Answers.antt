use Rattle.std.proofs.Common.{◌≡◌, ◌<◌, ◌+◌, ◌++◌, ℕ, List, [], length, Some, sym, ap, subst, arith}
use Rattle.std.specs.Prelude.{IfOk, IfErr}
use Rattle.cert_format.specs.Reading.{FailsCert}
use Rattle.certificates.specs.declared.exact_parts.awaited.Awaited.{Awaited}
use Rattle.certificates.specs.ExactParts.Left.{TreesLeft, ReaderState, parts_left, put_before}
use Rattle.certificates.specs.ExactParts.Steps.{width_at}
use Rattle.certificates.proofs.ExactParts.First.{some_width}
use Rattle.certificates.proofs.ExactParts.State.{still_settled, taken_told, taken_fault}
use Rattle.certificates.proofs.exact_parts.reader.Reader.take.Goals as goal

abbrev state : Awaited → TreesLeft → ℕ → List ℕ → ReaderState
state awaited trees given kept = record { awaited = awaited; trees = trees; given = given; kept = kept }

pub invariant_of-self : goal.invariant_of-self
invariant_of-self c =
    let i = c.self.inside in
    let n = c.take_record-taken.new in (
      subst (λ (t : List ℕ). length t < width_at n.awaited n.trees t) (sym c.clear.ensures.items) (some_width n.awaited n.trees []),
      still_settled (state i.awaited i.trees i.given i.kept.items) (state n.awaited n.trees c.saturating_add-total.result []) c.args.front.now c.saturating_add-total.result c.self.invariant.1 c.take_record-taken.result c.take_record-taken.ensures.read c.take_record-taken.ensures.err,
    )

pub returns-clause-told : goal.returns-clause-told
returns-clause-told c = λ le.
    let i = c.self.inside in
    let s = state i.awaited i.trees i.given i.kept.items in
    let front = c.args.front.now in
    let n = c.take_record-taken.new in
    let new = state n.awaited n.trees c.saturating_add-total.result c.clear.new.self.items in
    let total : c.saturating_add-total.result ≡ i.given + length front = omega (arith, c.saturating_add-total.ensures, ap (λ (v : ReaderState). v.given) c.self.view_is, le) in
    let wide = subst (λ (v : ReaderState). width_at v.awaited v.trees (v.kept ++ front) ≡ length (v.kept ++ front)) (sym c.self.view_is) c.requires in
    subst (λ (v : ReaderState). IfOk c.take_record-taken.result (λ part. (more : List ℕ) → parts_left v (front ++ more) ≡ put_before (Some part) (parts_left new more))) c.self.view_is
    (taken_told s new front c.saturating_add-total.result c.self.invariant.1 total wide c.take_record-taken.result c.take_record-taken.ensures.read total c.clear.ensures.items)

pub returns-clause-fault : goal.returns-clause-fault
returns-clause-fault c = λ le.
    let i = c.self.inside in
    let s = state i.awaited i.trees i.given i.kept.items in
    let front = c.args.front.now in
    let n = c.take_record-taken.new in
    let new = state n.awaited n.trees c.saturating_add-total.result c.clear.new.self.items in
    let total : c.saturating_add-total.result ≡ i.given + length front = omega (arith, c.saturating_add-total.ensures, ap (λ (v : ReaderState). v.given) c.self.view_is, le) in
    let wide = subst (λ (v : ReaderState). width_at v.awaited v.trees (v.kept ++ front) ≡ length (v.kept ++ front)) (sym c.self.view_is) c.requires in
    subst (λ (v : ReaderState). IfErr c.take_record-taken.result (λ f. (more : List ℕ) → FailsCert f (parts_left v (front ++ more)))) c.self.view_is
    (taken_fault s new front c.saturating_add-total.result c.self.invariant.1 total wide c.take_record-taken.result c.take_record-taken.ensures.read)
