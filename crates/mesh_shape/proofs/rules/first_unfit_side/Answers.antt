use Rattle.std.proofs.Common.{length, ap, arith, below_more}
use Rattle.sight_names.specs.Map.{map_of}
use Rattle.mesh_shape.specs.Faults.{FitsAt}
use Rattle.mesh_shape.proofs.RuleLemmas.{no_side_fits, no_line_behind}
use Rattle.mesh_shape.proofs.RuleLemmas.{first_side, sides_everywhere}
use Rattle.mesh_shape.proofs.rules.first_unfit_side.Goals as goal

pub returns-in-Some : goal.returns-in-Some
returns-in-Some c = first_side (FitsAt (map_of c.args.plan.now) c.args.mesh.now.triangles c.args.labels.now) c.loop-i.i c.in-Some.left c.loop-i.invariant c.in-Some.ensures

pub loop-i-preserved : goal.loop-i-preserved
loop-i-preserved c = below_more _ _ c.loop-i.invariant c.in_default.ensures

pub returns : goal.returns
returns c = sides_everywhere (FitsAt (map_of c.args.plan.now) c.args.mesh.now.triangles c.args.labels.now) c.loop-i.i c.loop-i.invariant (λ j le left. no_side_fits c.args.plan.now c.args.mesh.now.triangles c.args.labels.now j left (no_line_behind c.args.plan.now j (let e = ap length c.lines-i-end.ensures.list in omega arith)))
