-- Some trees of a certificate, judged apart from the others.
use Rattle.std.specs.Prelude.{List}
use Rattle.sight_names.specs.declared.names.Triangle.{Triangle}
use Rattle.sight_names.specs.Map.{Map}
use Rattle.block_evidence.specs.declared.sight_tree.Tree.{Tree}
use Rattle.mesh_shape.specs.declared.half_edges.table.HalfEdge.{HalfEdge}
use Rattle.cert_checker.specs.declared.tree_judge.judge.TreeVerdict.{TreeVerdict}
use Rattle.cert_checker.specs.declared.tree_judge.judge.TreeVerdict.TheVariants.{Whole, Wrong}
use Rattle.cert_checker.specs.declared.tree_judge.roots.Roots.{Roots}
use Rattle.cert_checker.specs.TreeJudge.Heard.{AreTreesNoted}
use Rattle.cert_checker.specs.TreeJudge.Roots.{AreRootChains}
use Rattle.cert_checker.specs.TreeJudge.Whole.{IsFirstWrongTree}

-- these are the roots of the map's sources
abbrev pub AreRootsOf : Map → List Triangle → List HalfEdge → Roots → Type 0
AreRootsOf m ts xs r = AreRootChains m ts xs r.roots.items r.first.items

-- these trees are whole, and exactly what they keep from is told; or the first of them that isn't is told, with its first wrong node
abbrev pub TellsPart : Map → List Triangle → List HalfEdge → List Tree → TreeVerdict → Type 0
TellsPart m ts xs trees (Whole reach) = AreTreesNoted m ts xs trees reach.walked.items reach.reached
TellsPart m ts xs trees (Wrong source node) = IsFirstWrongTree m ts xs trees source node
