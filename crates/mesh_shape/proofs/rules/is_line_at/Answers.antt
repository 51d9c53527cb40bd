use Rattle.std.proofs.Common.{length, Some, None, ap, ◌∙◌, arith}
use Rattle.std.proofs.lemmas.Bool.{false≢true}
use Rattle.mesh_shape.proofs.RuleLemmas.{no_line_there, no_edge_of, edge_of_line, line_of_edge}
use Rattle.std.proofs.Common.{Option}
use Rattle.sight_names.specs.declared.plan.Line.{Line}
use Rattle.mesh_shape.proofs.rules.is_line_at.Goals as goal
use Rattle.math_base.proofs.Lists.{item_there}

pub returns-in-Some : goal.returns-in-Some
returns-in-Some c = let there = item_there c.lines.result.now c.args.plan.now.lines c.args.i None c.lines.ensures.list (let e = ap length c.lines.ensures.list in let lt = c.requires in omega arith) ∙ ap (λ (o : Option Line). Some o) c.in-Some.is in (
  λ h. edge_of_line c.args.plan.now c.lines.ensures.plan c.args.i c.in-Some.line c.args.u c.args.v there (c.joins.ensures.0 h),
  λ h. c.joins.ensures.1 (line_of_edge c.args.plan.now c.lines.ensures.plan c.args.i c.in-Some.line c.args.u c.args.v there h),
)

pub returns-in-None : goal.returns-in-None
returns-in-None c = let there = item_there c.lines.result.now c.args.plan.now.lines c.args.i None c.lines.ensures.list (let e = ap length c.lines.ensures.list in let lt = c.requires in omega arith) ∙ ap (λ (o : Option Line). Some o) c.in-None.is in
    (λ h. absurd (false≢true h), λ h. absurd (no_edge_of c.args.plan.now c.args.i (record { from = c.args.u; to = c.args.v }) (no_line_there c.args.plan.now c.args.i there) h))
