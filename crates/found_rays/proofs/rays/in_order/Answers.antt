use Rattle.std.proofs.Common.{List, IsPermutation, sym, subst, arith}
use Rattle.std.specs.List.Sorted.{IsSortedByKey}
use Rattle.std.proofs.lemmas.Option.{slice_get-get_or}
use Rattle.sight_names.specs.declared.names.PairRay.{PairRay}
use Rattle.pair_budget.specs.PairRays.{pair_cmp}
use Rattle.found_rays.proofs.Ordering.{all_picked, one_picked}
use Rattle.found_rays.proofs.rays.in_order.Goals as goal

pub add-requires : goal.add-requires
add-requires c = c.loop-ray.invariant.ascend

pub loop-ray-preserved : goal.loop-ray-preserved
loop-ray-preserved c =
    let all = c.as_slice-ray-items.result.now in
    let sorted = subst (λ (rs : List PairRay). IsSortedByKey (λ (r : PairRay). r.pair) pair_cmp rs) (sym c.as_slice-ray-items.ensures.value) c.in_ok-all.ensures.sorted in
    one_picked all sorted c.loop-ray.ray-index _ c.loop-ray.rays.items c.add.new.rays.items (slice_get-get_or all c.loop-ray.ray-index _ c.loop-ray-test.true) c.loop-ray.invariant c.in_ok-add.ensures

pub returns : goal.returns
returns c =
    let all = c.as_slice-ray-items.result.now in
    all_picked c.args.found.items all c.loop-ray.rays.items c.loop-ray.ray-index (subst (λ (rs : List PairRay). IsPermutation c.args.found.items rs) (sym c.as_slice-ray-items.ensures.value) c.in_ok-all.ensures.same) (omega arith) c.loop-ray.invariant
