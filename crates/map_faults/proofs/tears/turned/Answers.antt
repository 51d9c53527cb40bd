use Rattle.std.proofs.Common.{ℕ, List, ◌≡◌, ◌∙◌, Option, None, MatchOption, sym, ap, subst, length, arith}
use Rattle.std.proofs.lemmas.Bool.{false≢true}
use Rattle.map_faults.specs.Tears.{IsTurnWithin}
use Rattle.map_faults.proofs.Turning.{none_after, more_after, turn_found, no_turn_out, no_turn_long}
use Rattle.map_faults.proofs.tears.turned.Goals as goal

pub loop-init : goal.loop-init
loop-init c = none_after c.args.mesh.now.triangles c.args.sides.now c.args.point c.args.from

pub loop-preserved : goal.loop-preserved
loop-preserved c = more_after c.args.mesh.now.triangles c.args.sides.now c.args.point c.args.from c.loop.counter c.loop.at c.in_ok-next.next c.loop.invariant (sym c.in_ok-next.ensures) (λ b. false≢true (sym c.if-is_border.false ∙ c.is_border.ensures.1 b))

pub returns-in_err-next : goal.returns-in_err-next
returns-in_err-next c =
    let none : c.from_residual.result ≡ None = c.from_residual.ensures in
    subst (λ (answer : Option ℕ). MatchOption answer ((ys : List ℕ) (w : ℕ) → IsTurnWithin c.args.mesh.now.triangles c.args.sides.now c.args.point c.args.from ys w → ⊥) (λ w. (ys : List ℕ) × IsTurnWithin c.args.mesh.now.triangles c.args.sides.now c.args.point c.args.from ys w)) (sym none)
    (no_turn_out c.args.mesh.now.triangles c.args.sides.now c.args.point c.args.from c.loop.counter c.loop.at c.loop.invariant (sym c.in_err-next.ensures))

pub returns-then-is_border : goal.returns-then-is_border
returns-then-is_border c = turn_found c.args.mesh.now.triangles c.args.sides.now c.args.point c.args.from c.loop.counter c.loop.at c.in_ok-next.next (let e = ap length c.triangles-end.ensures.list in let f = c.loop-test.true in omega (arith, e, f)) c.loop.invariant (sym c.in_ok-next.ensures) (c.is_border.ensures.0 c.if-is_border.true)

pub returns : goal.returns
returns c = no_turn_long c.args.mesh.now.triangles c.args.sides.now c.args.point c.args.from c.loop.counter c.loop.at c.loop.invariant (let e = ap length c.triangles-end.ensures.list in let f = c.loop-test.false in omega (arith, e, f))
