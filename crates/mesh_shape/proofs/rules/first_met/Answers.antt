use Rattle.std.proofs.Common.{length, sym, ap, ◌∙◌, arith, below_more}
use Rattle.sight_names.specs.Map.{map_of}
use Rattle.mesh_shape.proofs.RuleLemmas.{everywhere, no_line_behind}
use Rattle.mesh_shape.specs.Search.{IsLineMetFairly}
use Rattle.mesh_shape.proofs.rules.first_met.Goals as goal

pub loop-i-preserved : goal.loop-i-preserved
loop-i-preserved c = below_more _ _ c.loop-i.invariant (c.is_met_fairly.ensures.0 c.if-not-is_met_fairly.false)

pub returns : goal.returns
returns c = everywhere (IsLineMetFairly (map_of c.args.plan.now) c.args.t) c.loop-i.i c.loop-i.invariant (λ j le l at. absurd (let e = sym (no_line_behind c.args.plan.now j (let f = ap length c.lines-i-end.ensures.list in omega arith)) ∙ at in cc))
