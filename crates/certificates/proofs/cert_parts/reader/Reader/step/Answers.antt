use Rattle.std.proofs.Common.{◌≡◌, ◌<◌, ◌+◌, ◌++◌, ℕ, List, [], length, is_some, Ok, Err, refl, sym, ap, subst, ◌∙◌, arith}
use Rattle.std.proofs.lemmas.Bool.{true≢false}
use Rattle.std.proofs.lemmas.List.{append-nil}
use Rattle.std.proofs.lemmas.Result.{err_from_is_err_and}
use Rattle.certificates.specs.declared.cert_parts.awaited.Awaited.{Awaited}
use Rattle.certificates.specs.CertParts.Left.{ReaderState, parts_left, put_before}
use Rattle.certificates.specs.CertParts.Steps.{first_at, width_at}
use Rattle.certificates.proofs.CertParts.First.{First, first_is, some_width, most_width, still_cut}
use Rattle.certificates.proofs.CertParts.State.{kept_tells, IsRecord, record_is, fault_told, part_told}
use Rattle.certificates.proofs.cert_parts.reader.Reader.step.Goals as goal

abbrev state : Awaited → ℕ → List ℕ → ReaderState
state awaited given kept = record { awaited = awaited; given = given; kept = kept }

-- the width of the record under way, over what is kept
wide : (a : Awaited) (kept slice piece : List ℕ) (width : ℕ) → width ≡ width_at a (slice ++ piece) → slice ≡ kept → width ≡ width_at a (kept ++ piece)
wide a kept slice piece width w s = w ∙ ap (λ (t : List ℕ). width_at a (t ++ piece)) s

pub overflow_sub-lacking : goal.overflow_sub-lacking
overflow_sub-lacking c =
    let i = c.self.inside in
    omega (arith, wide i.awaited i.kept c.as_slice.result.now c.args.piece.now c.width-width.result c.width-width.ensures c.as_slice.ensures, c.len.ensures, still_cut i.awaited i.kept c.args.piece.now c.self.invariant)

pub with-self-inside-requires : goal.with-self-inside-requires
with-self-inside-requires c =
    let i = c.self.inside in
    omega (arith, wide i.awaited i.kept c.as_slice.result.now c.args.piece.now c.width-width.result c.width-width.ensures c.as_slice.ensures, c.len.ensures, c.if-piece-lacking.true, most_width i.awaited (i.kept ++ c.args.piece.now))

pub returns-then-piece-lacking-clause-told : goal.returns-then-piece-lacking-clause-told
returns-then-piece-lacking-clause-told c = λ le more.
    let i = c.self.inside in
    let new = state i.awaited c.saturating_add-self-inside.result c.with-self-inside.result in
    let given : c.saturating_add-self-inside.result ≡ i.given + length c.args.piece.now = omega (arith, c.saturating_add-self-inside.ensures, ap (λ (v : ReaderState). v.given) c.self.view_is, le) in
    subst (λ (v : ReaderState). parts_left v (c.args.piece.now ++ more) ≡ parts_left new more) c.self.view_is (kept_tells (state i.awaited i.given i.kept) new c.args.piece.now more refl given c.with-self-inside.ensures)

pub returns-then-piece-lacking-clause-rest : goal.returns-then-piece-lacking-clause-rest
returns-then-piece-lacking-clause-rest c = (c.args.piece.now, sym (append-nil c.args.piece.now))

pub with-whole-requires : goal.with-whole-requires
with-whole-requires c =
    let i = c.self.inside in
    omega (
      arith,
      wide i.awaited i.kept c.as_slice.result.now c.args.piece.now c.width-width.result c.width-width.ensures c.as_slice.ensures,
      c.len.ensures,
      c.split_at.ensures.front_len,
      still_cut i.awaited i.kept c.args.piece.now c.self.invariant,
      most_width i.awaited (i.kept ++ c.args.piece.now),
    )

pub returns-in_err-part-clause-fault : goal.returns-in_err-part-clause-fault
returns-in_err-part-clause-fault c =
    let i = c.self.inside in
    let s = state i.awaited i.given i.kept in
    let p = err_from_is_err_and c.from_residual.result c.from_residual.ensures.1 in
    let front = c.split_at.result.0.now in
    let rest = c.split_at.result.1.now in
    let whole = c.as_slice-2.result.now in
    let fault = c.in_err-part.field-0.0 in
    let is : IsRecord s c.args.piece.now front rest whole =
    record_is s c.args.piece.now front rest whole c.width-width.result c.len.result c.self.invariant (wide i.awaited i.kept c.as_slice.result.now c.args.piece.now c.width-width.result c.width-width.ensures c.as_slice.ensures) c.len.ensures
    c.if-piece-lacking.false c.split_at.ensures.front c.split_at.ensures.back (c.as_slice-2.ensures ∙ c.with-whole.ensures) in
    rw (p.1, p.2) (λ le more.
    let total : c.saturating_add-total.result ≡ i.given + length front = omega (arith, c.saturating_add-total.ensures, c.split_at.ensures.front_len, c.if-piece-lacking.false, ap (λ (v : ReaderState). v.given) c.self.view_is, le) in
    subst (λ (v : ReaderState). parts_left v (c.args.piece.now ++ more) ≡ Err fault) c.self.view_is
    (fault_told s c.args.piece.now front rest whole is more fault (subst (λ (n : ℕ). first_at i.awaited n whole ≡ Err fault) total c.in_err-part.ensures.read)))

pub invariant_of-self-2 : goal.invariant_of-self-2
invariant_of-self-2 c = subst (λ (t : List ℕ). length t < width_at c.take.new.self t) (sym c.new-self-inside.ensures) (some_width c.take.new.self [])

pub returns-clause-told : goal.returns-clause-told
returns-clause-told c = λ le more.
    let i = c.self.inside in
    let s = state i.awaited i.given i.kept in
    let front = c.split_at.result.0.now in
    let rest = c.split_at.result.1.now in
    let whole = c.as_slice-2.result.now in
    let new = state c.take.new.self c.saturating_add-total.result c.new-self-inside.result in
    let x : First = ((c.in_ok-part.part, c.take.new.self), c.in_ok-part.field-0-1.now) in
    let is : IsRecord s c.args.piece.now front rest whole =
    record_is s c.args.piece.now front rest whole c.width-width.result c.len.result c.self.invariant (wide i.awaited i.kept c.as_slice.result.now c.args.piece.now c.width-width.result c.width-width.ensures c.as_slice.ensures) c.len.ensures
    c.if-piece-lacking.false c.split_at.ensures.front c.split_at.ensures.back (c.as_slice-2.ensures ∙ c.with-whole.ensures) in
    let total : c.saturating_add-total.result ≡ i.given + length front = omega (arith, c.saturating_add-total.ensures, c.split_at.ensures.front_len, c.if-piece-lacking.false, ap (λ (v : ReaderState). v.given) c.self.view_is, le) in
    subst (λ (v : ReaderState). parts_left v (c.args.piece.now ++ more) ≡ put_before c.in_ok-part.part (parts_left new (rest ++ more))) c.self.view_is
    (part_told s c.args.piece.now front rest whole is more new x (subst (λ (n : ℕ). first_at i.awaited n whole ≡ Ok x) total c.in_ok-part.ensures.read) refl total c.new-self-inside.ensures)

pub returns-clause-header : goal.returns-clause-header
returns-clause-header c = λ unbegun.
    let i = c.self.inside in
    (first_is i.awaited c.saturating_add-total.result c.as_slice-2.result.now ((c.in_ok-part.part, c.take.new.self), c.in_ok-part.field-0-1.now) c.in_ok-part.ensures.read).header (ap (λ (v : ReaderState). v.awaited.begun) c.self.view_is ∙ unbegun)

pub returns-clause-less : goal.returns-clause-less
returns-clause-less c = λ some.
    let i = c.self.inside in
    omega (
      arith,
      wide i.awaited i.kept c.as_slice.result.now c.args.piece.now c.width-width.result c.width-width.ensures c.as_slice.ensures,
      c.len.ensures,
      c.split_at.ensures.back_len,
      still_cut i.awaited i.kept c.args.piece.now c.self.invariant,
    )

pub returns-clause-used : goal.returns-clause-used
returns-clause-used c = λ begun none.
    let i = c.self.inside in
    let first = first_is i.awaited c.saturating_add-total.result c.as_slice-2.result.now ((c.in_ok-part.part, c.take.new.self), c.in_ok-part.field-0-1.now) c.in_ok-part.ensures.read in
    absurd (true≢false (sym (first.part (ap (λ (v : ReaderState). v.awaited.begun) c.self.view_is ∙ begun)) ∙ ap is_some none))

pub returns-clause-cut : goal.returns-clause-cut
returns-clause-cut c = λ unbegun.
    let i = c.self.inside in
    let first = first_is i.awaited c.saturating_add-total.result c.as_slice-2.result.now ((c.in_ok-part.part, c.take.new.self), c.in_ok-part.field-0-1.now) c.in_ok-part.ensures.read in
    absurd (true≢false (sym first.begun ∙ unbegun))
