use Rattle.std.proofs.Common.{ℕ, sym, subst}
use Rattle.std.specs.Prelude.{IfOk}
use Rattle.exact_checker.specs.Owning.{owning_of}
use Rattle.gate_floods.specs.RowJudge.Masks.{rows_of}
use Rattle.row_trees.specs.Walkable.{IsWalkable}
use Rattle.exact_job.specs.Trees.{IsOwnedWalk}
use Rattle.exact_job.proofs.Making.{owned_walk}
use Rattle.exact_job.proofs.walk_tasks.OwnedWalksTasks.work.Goals as goal

pub walk_by_row-requires-clause-walkable : goal.walk_by_row-requires-clause-walkable
walk_by_row-requires-clause-walkable c =
    let w = c.args.self.now in
    let g = c.requires.3 in
    (g.0, subst (IsWalkable g.0 w.terrain.now.edges.now w.terrain.now.roots.now.roots.items w.terrain.now.roots.now.first.items) (sym c.source_of-source.ensures) g.1)

pub returns : goal.returns
returns c =
    let w = c.args.self.now in
    let xs = w.terrain.now.edges.now in
    let ms = rows_of w.masks.now in
    let roots = w.terrain.now.roots.now.roots.items in
    let firsts = w.terrain.now.roots.now.first.items in
    let h = c.walk_by_row.ensures in
    subst (λ (f : ℕ). IfOk c.walk_by_row.result (IsOwnedWalk xs ms roots firsts (owning_of w.known) f)) c.source_of-source.ensures
    (owned_walk xs ms roots firsts (owning_of w.known) c.source_of-source.result c.in_ok-row.row.items c.as_slice.result.now c.as_slice.ensures.value c.in_ok-row.ensures.bits c.walk_by_row.result h.answered h.made h.found h.wanted)
