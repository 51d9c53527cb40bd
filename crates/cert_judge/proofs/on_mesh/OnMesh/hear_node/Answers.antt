use Rattle.math_base.proofs.Options.{none_where_not_some}
use Rattle.std.specs.Prelude.{option_map}
use Rattle.std.proofs.lemmas.Result.{IfOk-weaker}
use Rattle.sight_names.specs.Map.{map_of}
use Rattle.cert_checker.specs.TreeJudge.Heard.{HasHeardTrees}
use Rattle.cert_checker.specs.TreeJudge.Walked.{with_node}
use Rattle.cert_checker.specs.Apart.{triangles_in}
use Rattle.cert_judge.specs.OnMesh.{IsOnMesh}
use Rattle.cert_judge.proofs.on_mesh.OnMesh.hear_node.Goals as goal

pub returns : goal.returns
returns c = λ p ls rays front tree w.
    let g = c.args.self.now in
    let more = option_map (with_node c.args.node) tree in
    IfOk-weaker c.hear.result (λ _. HasHeardTrees (map_of p) (triangles_in ls) g.edges front more c.hear.new.self) (λ _. IsOnMesh p ls rays front more (record { mesh = g.mesh; edges = g.edges; fault = g.fault; trees = c.hear.new.self }))
    (λ x heard. record { mesh = w.mesh; plan = w.plan; good = w.good; edges = w.edges; sight = w.sight; heard = λ _. heard })
    (c.hear.ensures (map_of p) (triangles_in ls) front tree (w.heard (none_where_not_some g.fault c.if-is_some.ensures)))
