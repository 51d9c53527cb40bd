use Rattle.std.proofs.Common.{◌≡◌, take, map, option_map}
use Rattle.face_groups.specs.Regrouped.{regrouped}
use Rattle.face_groups.proofs.regrouping.regrouped_lines.Given as goal

abbrev pub invariant-loop-line : goal.invariant-loop-line
invariant-loop-line l = l.lines.items ≡ map (option_map (regrouped l.mesh.triangles l.labels)) (take l.line-index l.plan.lines)
