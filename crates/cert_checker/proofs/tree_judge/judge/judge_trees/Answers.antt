use Rattle.std.proofs.Common.{sym, ap}
use Rattle.std.proofs.lemmas.Result.{IfOk-weaker}
use Rattle.sight_names.specs.Plan.{PlanParts}
use Rattle.sight_names.specs.Map.{map_of}
use Rattle.cert_checker.specs.TreeJudge.Part.{TellsPart}
use Rattle.cert_checker.specs.TreeJudge.Trees.{TellsTrees}
use Rattle.cert_checker.proofs.TreeJudge.AllTrees.{sources_below}
use Rattle.cert_checker.proofs.TreeJudge.PartsTold.{part_tells}
use Rattle.cert_checker.proofs.tree_judge.judge.judge_trees.Goals as goal

pub returns : goal.returns
returns g c =
    let p = c.args.plan.now in
    let cert = c.args.cert.now in
    let ts = c.args.mesh.now.triangles in
    let edges = c.args.edges.now in
    let trees = c.trees.result.now in
    let low = sources_below cert p.sectors trees c.trees.ensures.in_order c.requires.sectors c.trees.ensures.list in
    IfOk-weaker c.judge_all.result (TellsPart (map_of p) ts edges trees) (TellsTrees (map_of p) cert)
    (λ v told. part_tells p cert ts edges trees v c.requires.plan c.trees.ensures.in_order c.requires.sectors c.requires.triangles c.requires.good c.requires.edges c.trees.ensures.list told)
    (c.judge_all.ensures (map_of p) ts (sym (ap (λ (x : PlanParts). x.sectors) c.plan.view_is)) c.in_ok-roots.ensures low)
