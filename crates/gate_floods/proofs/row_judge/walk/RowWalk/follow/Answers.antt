use Rattle.std.proofs.Common.{◌≡◌, ◌++◌, length, take, drop, refl, ◌∙◌}
use Rattle.std.proofs.lemmas.Result.{IfOk-weaker}
use Rattle.certificates.proofs.CertParts.Stretches.{takes_weaker}
use Rattle.cert_checker.proofs.TreeJudge.Noting.{stored}
use Rattle.gate_floods.proofs.RowJudge.Nodes.{same_path}
use Rattle.gate_floods.proofs.row_judge.walk.RowWalk.follow.Goals as goal

pub returns : goal.returns
returns c =
    let old = c.args.self.now in
    let value : c.as_mut_slice.result.now ≡ old.path.items = c.as_mut_slice.ensures.value in
    let same : length c.follow_nodes.new.path ≡ length c.as_mut_slice.result.now = c.follow_nodes.auto.path in
    let back : take old.path.len (c.follow_nodes.new.path ++ drop (length c.follow_nodes.new.path) old.path.items) ≡ c.follow_nodes.new.path = stored c.follow_nodes.new.path _ old.path.len (same ∙ c.as_mut_slice.ensures.len) in
    IfOk-weaker c.follow_nodes.result _ _ (λ r taken. takes_weaker c.args.bytes.now c.args.count _ _ _ _ (λ ns w. (refl, same_path _ _ _ _ _ _ _ _ _ _ _ _ _ _ _ _ ns value back w)) taken) c.follow_nodes.ensures
