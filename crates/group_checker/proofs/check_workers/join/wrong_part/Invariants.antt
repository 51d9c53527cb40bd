use Rattle.std.proofs.Common.{List, [], drop}
use Rattle.std.specs.List.{AllZip}
use Rattle.sight_names.specs.declared.names.Triangle.{Triangle}
use Rattle.sight_names.specs.Map.{Map}
use Rattle.block_evidence.specs.declared.sight_tree.Tree.{Tree}
use Rattle.mesh_shape.specs.declared.half_edges.table.HalfEdge.{HalfEdge}
use Rattle.cert_checker.specs.TreeJudge.Heard.{AreTreesNoted}
use Rattle.cert_checker.specs.TreeJudge.Part.{TellsPart}
use Rattle.group_checker.proofs.CheckWorkers.Joining.{AreJoined}
use Rattle.group_checker.proofs.check_workers.join.wrong_part.Given as goal

abbrev pub invariant-loop-part : goal.invariant-loop-part
invariant-loop-part l = (m : Map) (ts : List Triangle) (xs : List HalfEdge) (lists : List (List Tree)) → AllZip (TellsPart m ts xs) lists l.parts → AreTreesNoted m ts xs [] l.fn.walked l.fn.reached
    → AreJoined m ts xs lists (drop l.part-index l.parts) l.walked l.reached
