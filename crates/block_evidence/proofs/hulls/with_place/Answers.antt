use Rattle.std.proofs.Common.{arith, sym, ap, ◌∙◌}
use Rattle.sight_names.specs.declared.names.EndAt.{EndAt}
use Rattle.block_evidence.proofs.Pairs.{end_at_place, place_result}
use Rattle.block_evidence.proofs.hulls.with_place.Goals as goal
use Rattle.math_base.proofs.Options.{some_is_same}

pub returns : goal.returns
returns c = place_result c.args.ends.now c.args.cone.now c.args.i c.index-ends-i.result c.with_left.result (end_at_place c.args.ends.now c.args.i c.index-ends-i.result c.requires.place c.index-ends-i.is) c.with_left.ensures

pub returns-then-left-ge-RIGHT_END : goal.returns-then-left-ge-RIGHT_END
returns-then-left-ge-RIGHT_END c = (c.requires.cone, λ a h. h, λ d g n. absurd (let k = ap (λ (u : EndAt). u.code) (some_is_same c.index-ends-i.result d (sym (end_at_place c.args.ends.now c.args.i c.index-ends-i.result c.requires.place c.index-ends-i.is) ∙ g)) in let l = c.if-left-ge-RIGHT_END.true in omega (arith, k, l, n)))

pub with_left-requires-clause-left : goal.with_left-requires-clause-left
with_left-requires-clause-left c = record { code = c.if-left-ge-RIGHT_END.false; place = c.args.i; is = end_at_place c.args.ends.now c.args.i c.index-ends-i.result c.requires.place c.index-ends-i.is }
