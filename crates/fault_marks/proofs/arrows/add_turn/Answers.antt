use Rattle.std.proofs.Common.{sym, ap, ◌∙◌, length, arith}
use Rattle.fault_marks.proofs.Around.{all_left, never_long, never_out, none_left, one_less}
use Rattle.fault_marks.proofs.arrows.add_turn.Goals as goal

pub loop-init : goal.loop-init
loop-init c = λ ss ys turn. all_left c.args.mesh.now.triangles ss c.args.tear.point c.args.tear.to c.args.tear.from ys c.args.arrows.now.items turn

pub loop-preserved : goal.loop-preserved
loop-preserved c = λ ss ys turn. one_less c.args.mesh.now.triangles ss c.args.tear.point c.args.tear.to c.loop.from c.loop.counter c.in-Some.to _ c.loop.arrows.items _ (c.loop.invariant ss ys turn) (sym c.apex.ensures ∙ c.in-Some.is) c.if-to-tear.false c.in_ok-push.ensures.items

pub returns-in_default : goal.returns-in_default
returns-in_default c = λ ss ys turn. absurd (never_out c.args.mesh.now.triangles ss c.args.tear.point c.args.tear.to c.loop.from c.loop.counter _ c.loop.arrows.items (c.loop.invariant ss ys turn) (sym c.apex.ensures ∙ c.in_default.is))

pub returns-then-to-tear : goal.returns-then-to-tear
returns-then-to-tear c = λ ss ys turn. none_left c.args.mesh.now.triangles ss c.args.tear.point c.args.tear.to c.loop.from c.loop.counter c.in-Some.to _ c.loop.arrows.items _ (c.loop.invariant ss ys turn) (sym c.apex.ensures ∙ c.in-Some.is) c.if-to-tear.true c.in_ok-push.ensures.items

pub returns : goal.returns
returns c = λ ss ys turn. absurd (never_long c.args.mesh.now.triangles ss c.args.tear.point c.args.tear.to c.loop.from c.loop.counter _ c.loop.arrows.items (c.loop.invariant ss ys turn) (let e = ap length c.triangles-end.ensures.list in let f = c.loop-test.false in omega (arith, e, f)))
