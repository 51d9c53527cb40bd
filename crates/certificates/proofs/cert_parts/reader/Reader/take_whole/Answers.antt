use Rattle.std.proofs.Common.{◌≡◌, ◌<◌, ◌≤◌, ◌+◌, ◌-◌, ◌++◌, ℕ, List, [], length, take, drop, Ok, Err, refl, sym, ap, subst, ◌∙◌, arith}
use Rattle.std.proofs.lemmas.Result.{err_from_is_err_and}
use Rattle.certificates.specs.declared.cert_parts.awaited.Awaited.{Awaited}
use Rattle.certificates.specs.CertParts.Left.{ReaderState, parts_left, put_before}
use Rattle.certificates.specs.CertParts.Steps.{first_at, width_at}
use Rattle.certificates.proofs.CertParts.First.{First, first_is, some_width, most_width}
use Rattle.certificates.proofs.CertParts.State.{IsRecord, record_is, fault_told, part_told}
use Rattle.certificates.proofs.cert_parts.reader.Reader.take_whole.Goals as goal

abbrev state : Awaited → ℕ → List ℕ → ReaderState
state awaited given kept = record { awaited = awaited; given = given; kept = kept }

-- the front of the piece is the record
is_front : (s : ReaderState) (piece front rest : List ℕ) (width : ℕ) → s.kept ≡ [] → length s.kept < width_at s.awaited s.kept → width ≡ width_at s.awaited piece → width ≤ length piece → front ≡ take width piece → rest ≡ drop width piece
    → IsRecord s piece front rest front
is_front s piece front rest width none lacks wide le f r =
    let all : width ≡ width - 0 = omega arith in
    record_is s piece front rest front width 0 lacks (wide ∙ ap (λ (t : List ℕ). width_at s.awaited (t ++ piece)) (sym none)) (sym (ap length none)) (omega (arith, le)) (f ∙ ap (λ (n : ℕ). take n piece) all) (r ∙ ap (λ (n : ℕ). drop n piece) all)
    (ap (λ (t : List ℕ). t ++ front) (sym none))

pub split_at-requires : goal.split_at-requires
split_at-requires c = omega (arith, c.width-width.ensures, most_width c.self.inside.awaited c.args.piece.now, c.requires.whole)

pub returns-in_err-part-clause-fault : goal.returns-in_err-part-clause-fault
returns-in_err-part-clause-fault c =
    let i = c.self.inside in
    let s = state i.awaited i.given i.kept in
    let p = err_from_is_err_and c.from_residual.result c.from_residual.ensures.1 in
    let piece = c.args.piece.now in
    let front = c.split_at.result.0.now in
    let rest = c.split_at.result.1.now in
    let fault = c.in_err-part.field-0.0 in
    let le_all : c.width-width.result ≤ length piece = omega (arith, c.width-width.ensures, most_width i.awaited piece, c.requires.whole) in
    let is = is_front s piece front rest c.width-width.result (ap (λ (v : ReaderState). v.kept) c.self.view_is ∙ c.requires.uncut) c.self.invariant c.width-width.ensures le_all c.split_at.ensures.front c.split_at.ensures.back in
    rw (p.1, p.2) (λ le more.
    let total : c.saturating_add-total.result ≡ i.given + length front = omega (arith, c.saturating_add-total.ensures, c.split_at.ensures.front_len, le_all, ap (λ (v : ReaderState). v.given) c.self.view_is, le) in
    subst (λ (v : ReaderState). parts_left v (piece ++ more) ≡ Err fault) c.self.view_is (fault_told s piece front rest front is more fault (subst (λ (n : ℕ). first_at i.awaited n front ≡ Err fault) total c.in_err-part.ensures.read)))

pub invariant_of-self-2 : goal.invariant_of-self-2
invariant_of-self-2 c =
    let none : c.self.inside.kept ≡ [] = ap (λ (v : ReaderState). v.kept) c.self.view_is ∙ c.requires.uncut in
    subst (λ (t : List ℕ). length t < width_at c.take.new.self t) (sym none) (some_width c.take.new.self [])

pub returns-clause-told : goal.returns-clause-told
returns-clause-told c = λ le more.
    let i = c.self.inside in
    let s = state i.awaited i.given i.kept in
    let piece = c.args.piece.now in
    let front = c.split_at.result.0.now in
    let rest = c.split_at.result.1.now in
    let none : i.kept ≡ [] = ap (λ (v : ReaderState). v.kept) c.self.view_is ∙ c.requires.uncut in
    let new = state c.take.new.self c.saturating_add-total.result i.kept in
    let x : First = ((c.in_ok-part.part, c.take.new.self), c.in_ok-part.field-0-1.now) in
    let le_all : c.width-width.result ≤ length piece = omega (arith, c.width-width.ensures, most_width i.awaited piece, c.requires.whole) in
    let is = is_front s piece front rest c.width-width.result none c.self.invariant c.width-width.ensures le_all c.split_at.ensures.front c.split_at.ensures.back in
    let total : c.saturating_add-total.result ≡ i.given + length front = omega (arith, c.saturating_add-total.ensures, c.split_at.ensures.front_len, le_all, ap (λ (v : ReaderState). v.given) c.self.view_is, le) in
    subst (λ (v : ReaderState). parts_left v (piece ++ more) ≡ put_before c.in_ok-part.part (parts_left new (rest ++ more))) c.self.view_is
    (part_told s piece front rest front is more new x (subst (λ (n : ℕ). first_at i.awaited n front ≡ Ok x) total c.in_ok-part.ensures.read) refl total none)

pub returns-clause-less : goal.returns-clause-less
returns-clause-less c =
    let i = c.self.inside in
    omega (arith, c.width-width.ensures, some_width i.awaited c.args.piece.now, most_width i.awaited c.args.piece.now, c.requires.whole, c.split_at.ensures.back_len)

pub returns-clause-some : goal.returns-clause-some
returns-clause-some c =
    let i = c.self.inside in
    (first_is i.awaited c.saturating_add-total.result c.split_at.result.0.now ((c.in_ok-part.part, c.take.new.self), c.in_ok-part.field-0-1.now) c.in_ok-part.ensures.read).part (ap (λ (v : ReaderState). v.awaited.begun) c.self.view_is ∙ c.requires.begun)
