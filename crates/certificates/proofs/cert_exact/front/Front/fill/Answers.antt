use Rattle.std.proofs.Common.{◌++◌, ◌∙◌, sym, ap, take, length, rules, arith, List, ℕ}
use Rattle.cert_format.proofs.PieceLaws.{others_on, filled}
use Rattle.certificates.proofs.CertExact.PieceLaws.{front_long}
use Rattle.certificates.specs.CertExact.Pieces.{front_left}
use Rattle.certificates.proofs.cert_exact.front.Front.fill.Goals as goal

pub loop-given-preserved : goal.loop-given-preserved
loop-given-preserved c = record {
  within = search rules;
  room = search rules;
  spelled =
      c.loop-given.invariant.spelled ∙ ap (λ (t : List ℕ). take c.loop-given.given c.loop-given.buf ++ t) (sym c.refill.ensures.bytes) ∙ c.give-given.ensures.given;
  others = others_on c.loop-given.given c.give-given.result c.args.buf.now c.loop-given.buf c.give-given.new.buf c.loop-given.invariant.others c.give-given.ensures.others;
}

pub returns-after-loop-given-clause-given : goal.returns-after-loop-given-clause-given
returns-after-loop-given-clause-given c = c.loop-given.invariant.spelled

pub returns-after-loop-given-clause-filled : goal.returns-after-loop-given-clause-filled
returns-after-loop-given-clause-filled c =
    let i = c.loop-given.invariant in
    filled (front_left c.args.self.now) (take c.loop-given.given c.loop-given.buf) _ c.loop-given.given (length c.args.buf.now) i.spelled (front_long c.loop-given.given c.loop-given.buf i.within) (omega (arith, i.within, i.room))
    (λ lt. absurd (omega (arith, lt, i.room, c.loop-given-test.false)))

pub returns-then-not-refill-clause-given : goal.returns-then-not-refill-clause-given
returns-then-not-refill-clause-given c = c.loop-given.invariant.spelled ∙ ap (λ (t : List ℕ). take c.loop-given.given c.loop-given.buf ++ t) (sym c.refill.ensures.bytes)

pub returns-then-not-refill-clause-filled : goal.returns-then-not-refill-clause-filled
returns-then-not-refill-clause-filled c =
    let i = c.loop-given.invariant in
    let none = c.refill.ensures.none (search rules) in
    filled (front_left c.args.self.now) (take c.loop-given.given c.loop-given.buf) _ c.loop-given.given (length c.args.buf.now) i.spelled (front_long c.loop-given.given c.loop-given.buf i.within) (omega (arith, i.within, i.room)) (λ lt. none)

pub returns-then-not-refill-clause-others : goal.returns-then-not-refill-clause-others
returns-then-not-refill-clause-others c = c.loop-given.invariant.others
