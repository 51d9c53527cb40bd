use Rattle.std.proofs.lemmas.List.Elements.{Contains-get_or}
use Rattle.fault_marks.proofs.Around.{all_corners, one_corner_more}
use Rattle.fault_marks.proofs.arrows.arrows_of.Goals as goal

pub loop-tear-preserved : goal.loop-tear-preserved
loop-tear-preserved c = λ ss are. one_corner_more c.args.plan.now c.args.mesh.now.triangles ss c.args.tears.now c.loop-tear.tear-index _ c.loop-tear.arrows.items _ c.loop-tear-test.true (c.loop-tear.invariant ss are)
    (c.in_ok-add_arrows.ensures ss (are.each _ (Contains-get_or c.args.tears.now c.loop-tear.tear-index _ c.loop-tear-test.true)))

pub returns : goal.returns
returns c =
    let h = c.requires in
    (h.0, h.1, h.2, all_corners c.args.plan.now c.args.mesh.now.triangles h.0 c.args.tears.now c.loop-tear.tear-index c.loop-tear.arrows.items c.loop-tear-test.false (c.loop-tear.invariant h.0 h.2))
