use Rattle.std.proofs.Common.{List, Option, ℕ, subst}
use Rattle.sight_names.specs.Map.{map_of}
use Rattle.cert_format.specs.Accepted.{labels_of}
use Rattle.mesh_shape.specs.HalfEdges.HalfEdges.{AreHalfEdges}
use Rattle.cert_checker.proofs.Walking.{ray_told, whole_told, wrong_told}
use Rattle.cert_checker.proofs.judge.judge_walks.Goals as goal

pub ray_fault-requires : goal.ray_fault-requires
ray_fault-requires g c =
    record {
      labels = labels_of c.args.cert.now;
      plan = c.requires.plan;
      good = c.requires.good;
      edges = subst (λ (ls : List (Option ℕ)). AreHalfEdges c.args.plan.now c.args.mesh.now.triangles ls c.in_ok-edges.edges) c.requires.labels c.in_ok-edges.ensures;
    }

pub judge_trees-requires-clause-edges : goal.judge_trees-requires-clause-edges
judge_trees-requires-clause-edges g c = subst (λ (ls : List (Option ℕ)). AreHalfEdges c.args.plan.now c.args.mesh.now.triangles ls c.in_ok-edges.edges) c.requires.labels c.in_ok-edges.ensures

pub returns-in-Some : goal.returns-in-Some
returns-in-Some g c = ray_told (map_of c.args.plan.now) c.args.cert.now c.rays.result.now c.rays.ensures.list c.in-Some.fault c.in-Some.ensures.kind c.in-Some.ensures.fault

pub returns-in-Whole : goal.returns-in-Whole
returns-in-Whole g c = whole_told (map_of c.args.plan.now) c.args.cert.now c.rays.result.now c.rays.ensures.list c.in_default.ensures.fault c.in_ok-trees.trees c.in-Whole.reach c.in-Whole.is c.in_ok-trees.ensures

pub returns : goal.returns
returns g c = wrong_told (map_of c.args.plan.now) c.args.cert.now c.rays.result.now c.rays.ensures.list c.in_default.ensures.fault c.in_ok-trees.trees c.in-Wrong.source c.in-Wrong.node c.in-Wrong.is c.in_ok-trees.ensures
