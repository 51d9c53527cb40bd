use Rattle.std.proofs.Common.{ℕ, List, sym, ◌∙◌, ap}
use Rattle.gate_floods.specs.RowJudge.Asked.{way_asked}
use Rattle.gate_floods.proofs.RowJudge.Waiting.{enters_both, enters_none}
use Rattle.gate_floods.specs.RowJudge.Masks.{rows_of}
use Rattle.gate_floods.proofs.row_judge.follow.enter.Goals as goal

pub returns-in_ok-put_wait-in-Some-Some : goal.returns-in_ok-put_wait-in-Some-Some
returns-in_ok-put_wait-in-Some-Some c = λ first path.
    let xs = c.args.terrain.now.edges.now in
    let ms = rows_of c.args.masks.now in
    let x = c.args.edge.now in
    enters_both ms first c.args.terrain.now.roots.now.roots.items path c.args.rows.now xs c.args.source c.args.follow.now x c.args.waits.now.items c.put_wait.new.waits.items c.in-Some-Some.left c.in-Some-Some.right c.in_ok-put_wait-in-Some-Some.ensures
    (sym c.in-Some-Some.is-0 ∙ c.way_asked-left.ensures ∙ ap (λ (us : List ℕ). way_asked xs ms c.args.source us x.left_way) c.part-row.ensures)
    (sym c.in-Some-Some.is-1 ∙ c.way_asked-right.ensures ∙ ap (λ (us : List ℕ). way_asked xs ms c.args.source us x.right_way) c.part-row.ensures)

pub returns-in-None-None : goal.returns-in-None-None
returns-in-None-None c = λ first path.
    let xs = c.args.terrain.now.edges.now in
    let ms = rows_of c.args.masks.now in
    let x = c.args.edge.now in
    enters_none ms first c.args.terrain.now.roots.now.roots.items path c.args.rows.now xs c.args.source c.args.follow.now x c.args.waits.now.items c.next_asked.new.waits.items c.next_asked.new.follow c.next_asked.result
    (sym c.in-None-None.is-0 ∙ c.way_asked-left.ensures ∙ ap (λ (us : List ℕ). way_asked xs ms c.args.source us x.left_way) c.part-row.ensures)
    (sym c.in-None-None.is-1 ∙ c.way_asked-right.ensures ∙ ap (λ (us : List ℕ). way_asked xs ms c.args.source us x.right_way) c.part-row.ensures)
    (c.next_asked.ensures first path)
