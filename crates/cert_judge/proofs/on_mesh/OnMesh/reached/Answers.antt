use Rattle.std.proofs.Common.{length, sym, subst}
use Rattle.std.proofs.lemmas.Option.{MatchOption-at_none}
use Rattle.sight_names.specs.Map.{map_of}
use Rattle.cert_checker.specs.TreeJudge.Trees.{TellsTrees}
use Rattle.cert_checker.specs.Apart.{triangles_in}
use Rattle.cert_checker.specs.Rays.{AreSightRaysBelow}
use Rattle.cert_judge.specs.OnMesh.{IsRayFaultIn}
use Rattle.cert_judge.proofs.Verdicts.{all_reached, judgeable}
use Rattle.cert_judge.proofs.on_mesh.OnMesh.reached.Goals as goal

pub returns-in-Whole-clause-reach : goal.returns-in-Whole-clause-reach
returns-in-Whole-clause-reach c = λ p cert w.
    let told = c.verdict.ensures p cert (triangles_in cert.triangles) c.args.self.edges w.front w.tree (judgeable p cert c.args.self w) (sym w.trees) (w.on.heard c.in-None.is) in
    all_reached (map_of p) cert c.in-Whole.reach (MatchOption-at_none (AreSightRaysBelow (map_of p) cert.rays (length cert.rays)) (IsRayFaultIn (map_of p) cert.rays) c.in-None.is w.on.sight) (subst (TellsTrees (map_of p) cert) c.in-Whole.is told)
