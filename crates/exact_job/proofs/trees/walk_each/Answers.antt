use Rattle.exact_checker.specs.Owning.{owning_of}
use Rattle.gate_floods.specs.RowJudge.Masks.{rows_of}
use Rattle.exact_job.proofs.Making.{owned_walks}
use Rattle.exact_job.proofs.trees.walk_each.Goals as goal

pub returns : goal.returns
returns g c = λ ground here.
    let w = c.args.walks.now in
    owned_walks ground w.terrain.now.edges.now (rows_of w.masks.now) w.terrain.now.roots.now.roots.items w.terrain.now.roots.now.first.items (owning_of w.known) here c.walk_owned.result c.walk_owned.ensures
