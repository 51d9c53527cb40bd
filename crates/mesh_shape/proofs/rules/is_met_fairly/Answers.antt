use Rattle.std.proofs.Common.{length, Some, None, refl, sym, ap, ◌∙◌, arith}
use Rattle.mesh_shape.proofs.RuleLemmas.{no_line_there}
use Rattle.std.proofs.Common.{Option}
use Rattle.sight_names.specs.declared.plan.Line.{Line}
use Rattle.mesh_shape.proofs.RuleLemmas.{plan_line_at, line_met}
use Rattle.mesh_shape.proofs.rules.is_met_fairly.Goals as goal
use Rattle.math_base.proofs.Lists.{item_there}

pub edges_meet_fairly-requires-clause-line : goal.edges_meet_fairly-requires-clause-line
edges_meet_fairly-requires-clause-line c = let there = item_there c.lines.result.now c.args.plan.now.lines c.args.i None c.lines.ensures.list (let e = ap length c.lines.ensures.list in let lt = c.requires.record in omega arith) ∙ ap (λ (o : Option Line). Some o) c.in-Some.is in
    c.lines.ensures.plan.each c.args.i c.in-Some.line there

pub returns-in-Some : goal.returns-in-Some
returns-in-Some c = let there = item_there c.lines.result.now c.args.plan.now.lines c.args.i None c.lines.ensures.list (let e = ap length c.lines.ensures.list in let lt = c.requires.record in omega arith) ∙ ap (λ (o : Option Line). Some o) c.in-Some.is in
    (λ h. line_met c.args.plan.now c.args.t c.args.i c.in-Some.line there (c.edges_meet_fairly.ensures.0 h), λ h. c.edges_meet_fairly.ensures.1 (h _ (plan_line_at c.args.plan.now c.args.i c.in-Some.line there)))

pub returns-in-None : goal.returns-in-None
returns-in-None c = let there = item_there c.lines.result.now c.args.plan.now.lines c.args.i None c.lines.ensures.list (let e = ap length c.lines.ensures.list in let lt = c.requires.record in omega arith) ∙ ap (λ (o : Option Line). Some o) c.in-None.is in
    (λ h l at. absurd (let e = sym (no_line_there c.args.plan.now c.args.i there) ∙ at in cc), λ h. refl)
