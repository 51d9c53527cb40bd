use Rattle.std.proofs.Common.{ℕ, List, ◌++◌, Option}
use Rattle.sight_names.specs.declared.names.Side.{Side}
use Rattle.map_faults.specs.Tears.{IsTurnWithin}
use Rattle.fault_marks.specs.Arrows.{arrows_round}
use Rattle.fault_marks.proofs.Around.{IsLeft}
use Rattle.fault_marks.proofs.arrows.add_turn.Given as goal

abbrev pub invariant-loop : goal.invariant-loop
invariant-loop l = (ss : List (Option Side)) (ys : List ℕ) → IsTurnWithin l.mesh.triangles ss l.tear.point l.tear.from ys l.tear.to
    → IsLeft l.mesh.triangles ss l.tear.point l.tear.to l.from l.counter (l.fn.arrows.items ++ arrows_round l.tear.point l.tear.from ys l.tear.to) l.arrows.items
