use Rattle.std.proofs.Common.{to_z-of_z, arith, subst, sym, ◌≡◌, ◌*ℤ◌, int_cmp, Ordering}
use Rattle.geom_exact.specs.Formulas.{turn_of, side_value, AreOnOneSide}
use Rattle.geom_exact.specs.Crossings.{IsCrossOrder}
use Rattle.geom_exact.proofs.CrossingLemmas.{order_one_way, order_two_ways, crossing_exists}
use Rattle.geom_exact.proofs.cross_order.Goals as goal

pub returns-then-same_side-clause-first_there : goal.returns-then-same_side-clause-first_there
returns-then-same_side-clause-first_there c = crossing_exists c.args.ray.now c.args.l1 c.args.l2 c.requires.first

pub returns-then-same_side-clause-second_there : goal.returns-then-same_side-clause-second_there
returns-then-same_side-clause-second_there c = crossing_exists c.args.ray.now c.args.m1 c.args.m2 c.requires.second

pub returns-then-same_side-clause-order : goal.returns-then-same_side-clause-order
returns-then-same_side-clause-order c =
    let e : c.cmp.result ≡ int_cmp (side_value c.args.ray.now c.args.l1 *ℤ turn_of c.args.m1 c.args.m2 c.args.l2) (side_value c.args.ray.now c.args.l2 *ℤ turn_of c.args.m1 c.args.m2 c.args.l1) = grind (arith, to_z-of_z) in
    let one : AreOnOneSide (side_value c.args.ray.now c.args.l1) (side_value c.args.ray.now c.args.m1) = grind (arith, to_z-of_z) in
    subst (λ (o : Ordering). IsCrossOrder c.args.ray.now c.args.l1 c.args.l2 c.args.m1 c.args.m2 o) (sym e) (order_one_way c.args.ray.now c.args.l1 c.args.l2 c.args.m1 c.args.m2 c.requires.first c.requires.second one)

pub returns-else-same_side-clause-first_there : goal.returns-else-same_side-clause-first_there
returns-else-same_side-clause-first_there c = crossing_exists c.args.ray.now c.args.l1 c.args.l2 c.requires.first

pub returns-else-same_side-clause-second_there : goal.returns-else-same_side-clause-second_there
returns-else-same_side-clause-second_there c = crossing_exists c.args.ray.now c.args.m1 c.args.m2 c.requires.second

pub returns-else-same_side-clause-order : goal.returns-else-same_side-clause-order
returns-else-same_side-clause-order c =
    let e : c.cmp-else-same_side.result ≡ int_cmp (side_value c.args.ray.now c.args.l2 *ℤ turn_of c.args.m1 c.args.m2 c.args.l1) (side_value c.args.ray.now c.args.l1 *ℤ turn_of c.args.m1 c.args.m2 c.args.l2) = grind (arith, to_z-of_z) in
    let two : ¬ AreOnOneSide (side_value c.args.ray.now c.args.l1) (side_value c.args.ray.now c.args.m1) = grind (arith, to_z-of_z) in
    subst (λ (o : Ordering). IsCrossOrder c.args.ray.now c.args.l1 c.args.l2 c.args.m1 c.args.m2 o) (sym e) (order_two_ways c.args.ray.now c.args.l1 c.args.l2 c.args.m1 c.args.m2 c.requires.first c.requires.second two)
