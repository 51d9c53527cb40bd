use Rattle.std.proofs.Common.{◌≡◌, ◌<◌, ◌+◌, ◌++◌, ℕ, List, [], length, refl, sym, ap, subst, arith}
use Rattle.certificates.specs.declared.exact_parts.awaited.Awaited.{Awaited}
use Rattle.certificates.specs.ExactParts.Left.{TreesLeft, ReaderState, parts_left}
use Rattle.certificates.specs.ExactParts.Steps.{width_at}
use Rattle.certificates.proofs.ExactParts.First.{some_width}
use Rattle.certificates.proofs.ExactParts.State.{kept_tells}
use Rattle.certificates.proofs.exact_parts.reader.Reader.keep.Goals as goal

abbrev state : Awaited → TreesLeft → ℕ → List ℕ → ReaderState
state awaited trees given kept = record { awaited = awaited; trees = trees; given = given; kept = kept }

pub invariant_of-self-in-Err : goal.invariant_of-self-in-Err
invariant_of-self-in-Err c =
    let i = c.self.inside in
    (subst (λ (t : List ℕ). length t < width_at i.awaited i.trees t) (sym c.clear.ensures.items) (some_width i.awaited i.trees []), c.self.invariant.1)

pub returns-in-Ok-clause-kept : goal.returns-in-Ok-clause-kept
returns-in-Ok-clause-kept c = λ more le.
    let i = c.self.inside in
    let new = state i.awaited i.trees c.saturating_add-self-inside.result c.extend_from_slice.new.self.items in
    let given : c.saturating_add-self-inside.result ≡ i.given + length c.args.piece.now = omega (arith, c.saturating_add-self-inside.ensures, ap (λ (v : ReaderState). v.given) c.self.view_is, le) in
    subst (λ (v : ReaderState). parts_left v (c.args.piece.now ++ more) ≡ parts_left new more) c.self.view_is (kept_tells (state i.awaited i.trees i.given i.kept.items) new c.args.piece.now more refl refl given c.in-Ok.ensures.items)
