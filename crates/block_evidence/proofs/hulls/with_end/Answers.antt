use Rattle.std.proofs.Common.{arith, Some, sym, ap, ◌∙◌}
use Rattle.sight_names.specs.declared.names.EndAt.{EndAt}
use Rattle.geom_exact.proofs.ExtremeLines.Widening.{stays}
use Rattle.block_evidence.proofs.Pairs.{end_result, end_at_place}
use Rattle.block_evidence.proofs.hulls.with_end.Goals as goal
use Rattle.math_base.proofs.Options.{some_is_same}

pub returns : goal.returns
returns c = end_result c.args.ends.now c.args.cone.now c.args.left c.index-ends-j.result c.args.j c.with.result c.requires.cone c.requires.left (record { code = c.if-right-lt-RIGHT_END.false; place = c.args.j; is = end_at_place c.args.ends.now c.args.j c.index-ends-j.result c.requires.place c.index-ends-j.is }) (end_at_place c.args.ends.now c.args.j c.index-ends-j.result c.requires.place c.index-ends-j.is) c.with.ensures

pub returns-then-covers : goal.returns-then-covers
returns-then-covers c = end_result c.args.ends.now c.args.cone.now c.args.left c.index-ends-j.result c.args.j (Some c.args.cone.now) c.requires.cone c.requires.left (record { code = c.if-right-lt-RIGHT_END.false; place = c.args.j; is = end_at_place c.args.ends.now c.args.j c.index-ends-j.result c.requires.place c.index-ends-j.is }) (end_at_place c.args.ends.now c.args.j c.index-ends-j.result c.requires.place c.index-ends-j.is) (stays c.args.cone.now c.args.left c.index-ends-j.result (c.covers.ensures c.if-covers.true))

pub returns-then-right-lt-RIGHT_END : goal.returns-then-right-lt-RIGHT_END
returns-then-right-lt-RIGHT_END c = (c.requires.cone, λ a b. b, λ e g n. absurd (let k = ap (λ (u : EndAt). u.code) (some_is_same c.index-ends-j.result e (sym (end_at_place c.args.ends.now c.args.j c.index-ends-j.result c.requires.place c.index-ends-j.is) ∙ g)) in let l = c.if-right-lt-RIGHT_END.true in omega (arith, k, l, n)))
