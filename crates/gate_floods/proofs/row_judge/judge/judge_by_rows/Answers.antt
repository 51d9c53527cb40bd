use Rattle.sight_names.specs.Map.{map_of}
use Rattle.gate_floods.specs.Exact.{IsClaimedBlind, IsOwned}
use Rattle.gate_floods.specs.RowJudge.Judged.{tree_with, TellsTree}
use Rattle.gate_floods.specs.RowJudge.Laws.{TellsByRows}
use Rattle.gate_floods.proofs.RowJudge.Telling.{all_ok, tells_by_rows}
use Rattle.gate_floods.specs.RowJudge.Masks.{rows_of}
use Rattle.gate_floods.proofs.row_judge.judge.judge_by_rows.Goals as goal

pub returns : goal.returns
returns c = λ p ts ls rank cert g low.
    let xs = c.args.terrain.now.edges.now in
    let roots = c.args.terrain.now.roots.now.roots.items in
    let firsts = c.args.terrain.now.roots.now.first.items in
    let ms = rows_of c.args.masks.now in
    let row = c.args.row.now in
    let t = tree_with c.args.source c.args.nodes.now in
    all_ok (TellsTree xs ms row roots firsts t) (TellsByRows (map_of p) ts ls xs ms (IsClaimedBlind (map_of p) cert) (IsOwned rank (IsClaimedBlind (map_of p) cert) t.source) row t) c.first_wrong.result c.first_wrong.ensures
    (tells_by_rows p ts ls xs roots firsts ms (IsClaimedBlind (map_of p) cert) (IsOwned rank (IsClaimedBlind (map_of p) cert) t.source) row g t low)
