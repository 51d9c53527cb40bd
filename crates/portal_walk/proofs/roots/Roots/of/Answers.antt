use Rattle.std.proofs.Common.{◌+◌, ◌<◌, List, length, sym, ap, subst, arith, Vec, Global}
use Rattle.portal_walk.specs.declared.roots.Root.{Root}
use Rattle.portal_walk.specs.Roots.{PutsRoots}
use Rattle.portal_walk.proofs.RootOrder.{HasRootsBelow, items_of, roots_on, roots_done, written}
use Rattle.portal_walk.proofs.roots.Roots.of.Goals as goal

pub loop-k-preserved : goal.loop-k-preserved
loop-k-preserved c =
    let p = c.args.plan.now in
    let old = c.loop-k.of_sectors.items in
    let new = c.put_line.new.of_sectors in
    let lt : c.loop-k.k < length p.lines = omega (arith, ap length c.lines-lines.ensures.list, c.loop-k-test.true) in
    let puts = subst (λ (vs : List (Vec Root Global)). PutsRoots p c.loop-k.k (items_of vs) (items_of new)) c.as_mut_slice.ensures.value c.in_ok-put_line.ensures in
    record {
      roots = subst (λ (vs : List (Vec Root Global)). HasRootsBelow p (c.loop-k.k + 1) (items_of vs)) (sym (written old new c.loop-k.of_sectors.len puts.len (omega (arith, c.loop-k.of_sectors.ok))))
          (roots_on p c.loop-k.k (items_of old) (items_of new) lt c.loop-k.invariant.roots puts);
    }

pub returns : goal.returns
returns c = roots_done c.args.plan.now c.loop-k.k (items_of c.loop-k.of_sectors.items) c.loop-k.invariant.roots (omega (arith, ap length c.lines-lines.ensures.list))
