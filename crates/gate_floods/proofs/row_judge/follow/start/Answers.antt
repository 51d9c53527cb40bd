use Rattle.std.proofs.Common.{ℕ, Option, subst}
use Rattle.gate_floods.specs.RowJudge.Path.{TakesNext}
use Rattle.gate_floods.proofs.RowJudge.Waiting.{stands, at_first}
use Rattle.gate_floods.specs.RowJudge.Masks.{rows_of}
use Rattle.gate_floods.proofs.row_judge.follow.start.Goals as goal

pub returns : goal.returns
returns c = λ first path.
    let ms = rows_of c.args.masks.now in
    let roots = c.args.terrain.now.roots.now.roots.items in
    let rows = c.args.rows.now in
    stands ms first roots path rows c.clear.new.self.items c.next_asked-follow.new.waits.items c.next_asked-follow.new.follow _ c.next_asked-follow.result c.clear.ensures.items
    (subst (λ (o : Option ℕ). TakesNext ms first roots path rows c.clear.new.self.items (at_first ms first roots path rows o) c.next_asked-follow.new.waits.items c.next_asked-follow.new.follow c.next_asked-follow.result) c.first_of.ensures (c.next_asked-follow.ensures first path))
