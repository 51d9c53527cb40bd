use Rattle.std.proofs.Common.{◌≡◌, ◌++◌, length, take, drop, refl, ◌∙◌}
use Rattle.certificates.proofs.CertParts.Stretches.{takes_weaker}
use Rattle.cert_checker.proofs.TreeJudge.Noting.{stored}
use Rattle.cert_checker.proofs.TreeJudge.Walking.{same_buffers}
use Rattle.cert_checker.proofs.tree_judge.walk.TreeWalk.follow.Goals as goal

pub returns : goal.returns
returns c =
    let old = c.args.self.now in
    let value : c.as_mut_slice.result.now ≡ old.path.items = c.as_mut_slice.ensures.value in
    let value_waits : c.as_mut_slice-2.result.now ≡ old.waits.items = c.as_mut_slice-2.ensures.value in
    let same : length c.follow_nodes.new.path ≡ length c.as_mut_slice.result.now = c.follow_nodes.auto.path in
    let same_waits : length c.follow_nodes.new.waits ≡ length c.as_mut_slice-2.result.now = c.follow_nodes.auto.waits in
    let back : take old.path.len (c.follow_nodes.new.path ++ drop (length c.follow_nodes.new.path) old.path.items) ≡ c.follow_nodes.new.path = stored c.follow_nodes.new.path _ old.path.len (same ∙ c.as_mut_slice.ensures.len) in
    let back_waits : take old.waits.len (c.follow_nodes.new.waits ++ drop (length c.follow_nodes.new.waits) old.waits.items) ≡ c.follow_nodes.new.waits = stored c.follow_nodes.new.waits _ old.waits.len (same_waits ∙ c.as_mut_slice-2.ensures.len) in
    takes_weaker c.args.bytes.now c.args.count _ _ _ _ (λ ns w. (w.0, λ xs are. (refl, same_buffers _ _ _ _ _ _ _ _ _ _ _ _ _ _ _ _ _ ns value value_waits back back_waits (w.1 xs are)))) c.follow_nodes.ensures
