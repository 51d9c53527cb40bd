use Rattle.std.specs.Prelude.{option_map}
use Rattle.sight_names.specs.Map.{map_of}
use Rattle.cert_checker.specs.TreeJudge.Walked.{with_nodes}
use Rattle.certificates.proofs.CertParts.Stretches.{takes_weaker}
use Rattle.cert_checker.specs.Apart.{triangles_in}
use Rattle.cert_judge.proofs.OnMeshes.{with_nodes_behind_wrong}
use Rattle.cert_judge.proofs.on_mesh.OnMesh.hear_nodes.Goals as goal

pub returns-then-is_some : goal.returns-then-is_some
returns-then-is_some c = takes_weaker c.args.bytes.now c.args.count _ _ _ _ (λ ns _ p ls rays front tree w. with_nodes_behind_wrong p ls rays front tree c.args.self.now w (option_map (with_nodes ns) tree) c.if-is_some.ensures) c.pass_nodes.ensures

pub returns : goal.returns
returns c = takes_weaker c.args.bytes.now c.args.count _ _ _ _ (λ ns heard p ls rays front tree w. record { mesh = w.mesh; plan = w.plan; good = w.good; edges = w.edges; sight = w.sight; heard = λ none. heard (map_of p) (triangles_in ls) front tree (w.heard none) }) c.hear_nodes.ensures
