use Rattle.std.proofs.Common.{ℕ, List}
use Rattle.cert_checker.specs.TreeJudge.Path.{IsRootChain}
use Rattle.gate_floods.proofs.RowJudge.Roots.{HasSkipped}
use Rattle.gate_floods.specs.RowJudge.Masks.{rows_of}
use Rattle.gate_floods.proofs.row_judge.follow.next_root.Given as goal

abbrev pub invariant-loop : goal.invariant-loop
invariant-loop l = (es : List ℕ) → IsRootChain l.roots.roots.items l.fn.root es → HasSkipped (rows_of l.masks) l.row l.roots.roots.items es l.counter l.at
