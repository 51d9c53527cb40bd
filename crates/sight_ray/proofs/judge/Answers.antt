use Rattle.sight_names.specs.Map.{map_of}
use Rattle.sight_names.specs.Ray.{IsInRange}
use Rattle.sight_ray.proofs.FaultLemmas.{names_of, backwards, blocked, sight}
use Rattle.sight_ray.proofs.judge.Goals as goal

pub returns-then-is_backwards : goal.returns-then-is_backwards
returns-then-is_backwards c =
    let range : IsInRange c.args.ray.now = c.in_range.ensures.0 c.if-not-in_range.false in
    let n = c.in_ok-sectors.ensures in
    let g = c.in_ok-start.ensures in
    let names = names_of (map_of c.args.plan.now) c.args.ray.now c.in_ok-sectors.sectors.0 c.in_ok-sectors.sectors.1 range n.0 n.1 in
    backwards (map_of c.args.plan.now) c.args.ray.now c.in_ok-start.start c.in_ok-start.stop names g.0 g.1 g.2 g.3 c.if-is_backwards.ensures

pub returns-in-Some : goal.returns-in-Some
returns-in-Some c =
    let range : IsInRange c.args.ray.now = c.in_range.ensures.0 c.if-not-in_range.false in
    let n = c.in_ok-sectors.ensures in
    let g = c.in_ok-start.ensures in
    let names = names_of (map_of c.args.plan.now) c.args.ray.now c.in_ok-sectors.sectors.0 c.in_ok-sectors.sectors.1 range n.0 n.1 in
    blocked (map_of c.args.plan.now) c.args.ray.now c.in_ok-start.start c.in_ok-start.stop c.in-Some.line names g.0 g.1 g.2 g.3 c.if-is_backwards.ensures c.in-Some.ensures

pub returns-in-None : goal.returns-in-None
returns-in-None c =
    let range : IsInRange c.args.ray.now = c.in_range.ensures.0 c.if-not-in_range.false in
    let n = c.in_ok-sectors.ensures in
    let g = c.in_ok-start.ensures in
    sight c.args.plan.now c.args.ray.now c.in_ok-start.start c.in_ok-start.stop c.in_ok-sectors.sectors.0 c.in_ok-sectors.sectors.1 range n.0 n.1 g.0 g.1 g.2 g.3 c.if-is_backwards.ensures c.in-None.ensures
