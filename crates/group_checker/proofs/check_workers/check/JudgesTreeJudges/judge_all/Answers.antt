use Rattle.std.proofs.Common.{List, IfOk, sym, subst}
use Rattle.std.specs.List.{AllZip}
use Rattle.block_evidence.specs.declared.sight_tree.Tree.{Tree}
use Rattle.cert_checker.specs.TreeJudge.Part.{TellsPart}
use Rattle.group_checker.proofs.check_workers.check.JudgesTreeJudges.judge_all.Goals as goal

pub returns : goal.returns
returns g c = λ m ts size are low.
    let edges = c.args.terrain.now.edges.now in
    let told = c.in_ok-parts.ensures m ts size are low in
    subst (λ (us : List Tree). IfOk c.join.result (TellsPart m ts edges us)) told.1
    (c.join.ensures m ts edges told.0 size (subst (AllZip (TellsPart m ts edges) told.0) (sym c.as_slice.ensures.value) told.2))
