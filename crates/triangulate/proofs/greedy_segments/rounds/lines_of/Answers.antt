use Rattle.std.proofs.Common.{◌≤◌, length, Option, None, sym, ap, ◌∙◌, arith}
use Rattle.std.proofs.lemmas.List.{take_all}
use Rattle.sight_names.specs.declared.plan.Line.{Line}
use Rattle.triangulate.specs.IncidentSegments.Incident.{IncidentParts}
use Rattle.triangulate.specs.IncidentSegments.Kept.{edges_of}
use Rattle.triangulate.proofs.GreedySegments.Starting.{edges_of_lines, all_lines, lines_none, lines_next, line_fits}
use Rattle.triangulate.proofs.greedy_segments.rounds.lines_of.Goals as goal
use Rattle.math_base.proofs.Lists.{item_there}

pub loop-line-init : goal.loop-line-init
loop-line-init c = record {
  points = ap (λ (w : IncidentParts). w.points) c.in_ok-incident.ensures ∙ ap length c.points.ensures.list;
  lines = ap (λ (w : IncidentParts). edges_of w.segments) c.in_ok-incident.ensures ∙ sym (lines_none c.args.plan.now.lines);
}

pub push_line-requires-clause-fits : goal.push_line-requires-clause-fits
push_line-requires-clause-fits c = line_fits c.args.plan.now c.lines-lines.ensures.plan c.loop-line.line-index _ (item_there c.lines-lines.result.now c.args.plan.now.lines c.loop-line.line-index None c.lines-lines.ensures.list c.loop-line-test.true)

pub loop-line-preserved : goal.loop-line-preserved
loop-line-preserved c = record {
  points = c.in_ok-push_line.ensures.points;
  lines = lines_next c.args.plan.now.lines c.loop-line.line-index _ (edges_of c.loop-line.incident.segments) _ (item_there c.lines-lines.result.now c.args.plan.now.lines c.loop-line.line-index None c.lines-lines.ensures.list c.loop-line-test.true) c.in_ok-push_line.ensures.line c.loop-line.invariant.lines;
}

pub returns-clause-lines : goal.returns-clause-lines
returns-clause-lines c =
    let past : length c.args.plan.now.lines ≤ c.loop-line.line-index = let e = ap (length {A = Option Line}) c.lines-lines.ensures.list in omega (arith, e, c.loop-line-test.false) in
    c.loop-line.invariant.lines ∙ ap edges_of_lines (take_all c.loop-line.line-index c.args.plan.now.lines past) ∙ sym (all_lines c.args.plan.now c.lines-lines.ensures.plan)
