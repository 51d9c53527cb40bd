use Rattle.std.proofs.Common.{List, ℕ, subst}
use Rattle.gate_floods.specs.RowJudge.Masks.{rows_of}
use Rattle.gate_floods.specs.RowJudge.Path.{TakesNext}
use Rattle.row_trees.proofs.Skipping.{skipped}
use Rattle.row_trees.proofs.rows.skip.Goals as goal

pub returns-clause-stands : goal.returns-clause-stands
returns-clause-stands c = λ first p rest at.
    let w = c.args.walk.now in
    skipped (rows_of c.args.masks.now) first c.args.terrain.now.roots.now.roots.items w c.next_asked-walk.new.waits.items c.next_asked-walk.new.follow c.next_asked-walk.result p rest at
    (subst (λ (us : List ℕ). TakesNext (rows_of c.args.masks.now) first c.args.terrain.now.roots.now.roots.items w.path.items us w.waits.items w.follow c.next_asked-walk.new.waits.items c.next_asked-walk.new.follow c.next_asked-walk.result) c.as_slice.ensures.value (c.next_asked-walk.ensures first w.path.items))
