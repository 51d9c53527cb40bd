use Rattle.sight_names.specs.Map.{map_of}
use Rattle.cert_checker.specs.Apart.{triangles_in}
use Rattle.cert_judge.proofs.on_mesh.OnMesh.begin_tree.Goals as goal

pub returns-then-is_none : goal.returns-then-is_none
returns-then-is_none c = λ p ls rays front tree w. record { mesh = w.mesh; plan = w.plan; good = w.good; edges = w.edges; sight = w.sight; heard = λ none. c.begin.ensures (map_of p) (triangles_in ls) front tree (w.heard none) }
