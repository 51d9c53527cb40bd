use Rattle.std.proofs.Common.{◌≡◌, ◌<◌, ◌∙◌, Bool, List, ap, arith, false, slice_index_or, sym}
use Rattle.sight_names.specs.Map.{map_of}
use Rattle.fault_report.specs.Slips.{IsNameless}
use Rattle.fault_report.proofs.Slipping.{adds_so, just_at, just_more, unmarked}
use Rattle.fault_report.proofs.slips.nameless_of.Goals as goal

pub loop-a-preserved : goal.loop-a-preserved
loop-a-preserved c =
    let marks = c.in_ok-marks.marks.items in
    let h = c.in_ok-marks.ensures in
    let same : c.plan.inside.sectors ≡ c.args.plan.now.sectors = cc in
    let lt : c.loop-a.a < c.args.plan.now.sectors = (let t = c.loop-a-test.true in omega (arith, same, t)) in
    let test = unmarked c.args.plan.now marks c.loop-a.a h lt c.is_marked.result (sym (c.is_marked.ensures ∙ ap (λ (ms : List Bool). slice_index_or ms c.loop-a.a false) c.as_slice.ensures.value)) in
    record {
      just = just_more (IsNameless (map_of c.args.plan.now)) c.loop-a.a _ _ (adds_so _ _ c.loop-a.a _ _ test.0 test.1 c.in_ok-add_nameless.ensures) c.loop-a.invariant.just;
      within = omega (arith, lt);
    }

pub returns : goal.returns
returns c =
    let same : c.plan.inside.sectors ≡ c.args.plan.now.sectors = cc in
    just_at (IsNameless (map_of c.args.plan.now)) c.loop-a.a _ _ (let f = c.loop-a-test.false in let w = c.loop-a.invariant.within in omega (arith, same, f, w)) c.loop-a.invariant.just
