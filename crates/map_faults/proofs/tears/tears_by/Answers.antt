use Rattle.std.proofs.Common.{◌+◌, ◌<◌, length, Some, None, Option, sym, ap, ◌∙◌, subst, arith, Vec, Global}
use Rattle.sight_names.specs.declared.plan.Line.{Line}
use Rattle.math_base.proofs.Lists.{item_there}
use Rattle.map_faults.specs.declared.tears.Tear.{Tear}
use Rattle.map_faults.specs.Tears.{AreTearsOf}
use Rattle.map_faults.proofs.Turning.{line_added, no_line_added, all_added}
use Rattle.map_faults.proofs.tears.tears_by.Goals as goal
use Rattle.map_faults.proofs.tears.tears_by.Goals.{in-Some+in_ok-add_tears, in_default}

pub loop-i-preserved : goal.loop-i-preserved
loop-i-preserved c =
    let item = item_there c.lines-line-items.result.now c.args.plan.now.lines c.loop-i.i None c.lines-line-items.ensures.list c.loop-i-test.true in
    elim c.match-line.branch [
      | in-Some+in_ok-add_tears w ↦ subst (λ (v : Vec Tear Global). AreTearsOf (λ s. s.line < c.loop-i.i + 1) c.args.plan.now c.args.mesh.now.triangles c.args.sides.now v.items) (sym w.tears-is)
          (line_added c.args.plan.now c.args.mesh.now.triangles c.args.sides.now c.loop-i.i w.in-Some.line c.loop-i.tears.items _ (item ∙ ap (λ (o : Option Line). Some o) w.in-Some.is) w.in_ok-add_tears.ensures c.loop-i.invariant)
      | in_default w ↦ subst (λ (v : Vec Tear Global). AreTearsOf (λ s. s.line < c.loop-i.i + 1) c.args.plan.now c.args.mesh.now.triangles c.args.sides.now v.items) (sym w.tears-is)
          (no_line_added c.args.plan.now c.args.mesh.now.triangles c.args.sides.now c.loop-i.i c.loop-i.tears.items (item ∙ ap (λ (o : Option Line). Some o) w.in_default.is) c.loop-i.invariant)
    ]

pub returns : goal.returns
returns c = all_added c.args.plan.now c.args.mesh.now.triangles c.args.sides.now c.loop-i.i c.loop-i.tears.items (let e = ap length c.lines-line-items.ensures.list in let f = c.loop-i-test.false in omega (arith, e, f)) c.loop-i.invariant
