use Rattle.std.proofs.Common.{◌≡◌, ◌++◌, ℕ, List, length, sym, ap, subst, ◌∙◌, arith}
use Rattle.std.proofs.lemmas.List.{append-nil}
use Rattle.certificates.specs.declared.exact_parts.awaited.Awaited.{Awaited}
use Rattle.certificates.specs.ExactParts.Left.{TreesLeft, ReaderState}
use Rattle.certificates.specs.ExactParts.Steps.{width_at}
use Rattle.certificates.proofs.ExactParts.First.{still_cut}
use Rattle.certificates.proofs.ExactParts.State.{front_wide}
use Rattle.certificates.proofs.exact_parts.reader.Reader.next.Goals as goal

abbrev state : Awaited → TreesLeft → ℕ → List ℕ → ReaderState
state awaited trees given kept = record { awaited = awaited; trees = trees; given = given; kept = kept }

-- the width of the record under way, over what is kept
wide : (a : Awaited) (t : TreesLeft) (kept slice piece : List ℕ) (width : ℕ) → width ≡ width_at a t (slice ++ piece) → slice ≡ kept → width ≡ width_at a t (kept ++ piece)
wide a t kept slice piece width w s = w ∙ ap (λ (k : List ℕ). width_at a t (k ++ piece)) s

pub overflow_sub-lacking : goal.overflow_sub-lacking
overflow_sub-lacking c =
    let i = c.self.inside in
    omega (arith, wide i.awaited i.trees i.kept.items c.as_slice.result.now c.args.piece.now c.width_of-width.result c.width_of-width.ensures c.as_slice.ensures.value, c.len.ensures, still_cut i.awaited i.trees i.kept.items c.args.piece.now c.self.invariant.0)

pub returns-then-piece-lacking-clause-rest : goal.returns-then-piece-lacking-clause-rest
returns-then-piece-lacking-clause-rest c = (c.args.piece.now, sym (append-nil c.args.piece.now))

pub take-requires : goal.take-requires
take-requires c =
    let i = c.self.inside in
    let front = c.split_at.result.0.now in
    let w = wide i.awaited i.trees i.kept.items c.as_slice.result.now c.args.piece.now c.width_of-width.result c.width_of-width.ensures c.as_slice.ensures.value in
    subst (λ (v : ReaderState). width_at v.awaited v.trees (v.kept ++ front) ≡ length (v.kept ++ front)) c.self.view_is
    (front_wide (state i.awaited i.trees i.given i.kept.items) c.args.piece.now front c.width_of-width.result c.len.result c.self.invariant.0 w (omega (arith, c.len.ensures)) c.if-piece-lacking.false c.split_at.ensures.front)

pub returns-clause-less : goal.returns-clause-less
returns-clause-less c = λ some.
    let i = c.self.inside in
    omega (
      arith,
      wide i.awaited i.trees i.kept.items c.as_slice.result.now c.args.piece.now c.width_of-width.result c.width_of-width.ensures c.as_slice.ensures.value,
      c.len.ensures,
      c.split_at.ensures.back_len,
      still_cut i.awaited i.trees i.kept.items c.args.piece.now c.self.invariant.0,
    )
