use Rattle.std.proofs.Common.{◌≡◌, ◌+◌, ◌++◌, List, length}
use Rattle.block_evidence.specs.declared.sight_tree.Node.{Node}
use Rattle.gate_floods.specs.RowJudge.Judged.{IsTreeWalkedInRow}
use Rattle.gate_floods.specs.RowJudge.Masks.{rows_of}
use Rattle.gate_floods.proofs.row_judge.judge.first_wrong.Given as goal

abbrev pub invariant-loop-number : goal.invariant-loop-number
invariant-loop-number l = record {
  counted : l.number + length l.node-iterator ≡ length l.nodes;
  done : List Node;
  split : l.nodes ≡ done ++ l.node-iterator;
  told : length done ≡ l.number;
  walked : IsTreeWalkedInRow l.terrain.edges.now (rows_of l.masks) l.row l.terrain.roots.now.roots.items l.terrain.roots.now.first.items (record { source = l.source; nodes = done }) l.walk;
}
