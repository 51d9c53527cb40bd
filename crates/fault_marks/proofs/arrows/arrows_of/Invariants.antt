use Rattle.std.proofs.Common.{List, Option, take}
use Rattle.sight_names.specs.declared.names.Side.{Side}
use Rattle.sight_names.specs.Map.{map_of}
use Rattle.map_faults.specs.Tears.{AreTearsBy}
use Rattle.fault_marks.specs.Arrows.{AreArrowsOf}
use Rattle.fault_marks.proofs.arrows.arrows_of.Given as goal

abbrev pub invariant-loop-tear : goal.invariant-loop-tear
invariant-loop-tear l = (ss : List (Option Side)) → AreTearsBy l.plan l.mesh.triangles ss l.tears → AreArrowsOf (map_of l.plan) l.mesh.triangles ss (take l.tear-index l.tears) l.arrows.items
