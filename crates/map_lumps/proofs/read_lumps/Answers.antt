use Rattle.std.proofs.Common.{◌≡◌, ◌∙◌, ◌<◌, ◌≤◌, ℕ, List, length, Option, Some, None, Bool, true, false, nat_lt, sym, ap, subst, arith}
use Rattle.sight_names.specs.declared.faults.LumpFault.{LumpFault}
use Rattle.sight_names.specs.declared.faults.LumpFault.TheVariants.{TooManyPoints}
use Rattle.sight_names.specs.Points.{in_order}
use Rattle.sight_names.specs.Lumps.{lump_fault_if}
use Rattle.map_lumps.specs.declared.records.PlacedLine.{PlacedLine}
use Rattle.map_lumps.specs.Records.{placed_ends, ArePointsInOrder}
use Rattle.map_lumps.proofs.WholeMap.{ends_among, points_in_order, fault_left, map_is, plan_is}
use Rattle.map_lumps.proofs.read_lumps.Goals as goal

too_many : (m n : ℕ) (f : LumpFault) → m < n → lump_fault_if (nat_lt m n) f None ≡ Some f
too_many m n f h = ap (λ (b : Bool). lump_fault_if b f None) (above m n h)
  where
    above : (m n : ℕ) → m < n → nat_lt m n ≡ true
    above m n h = grind arith

few_enough : (m n : ℕ) (f : LumpFault) → n ≤ m → lump_fault_if (nat_lt m n) f None ≡ None
few_enough m n f h = ap (λ (b : Bool). lump_fault_if b f None) (within m n h)
  where
    within : (m n : ℕ) → n ≤ m → nat_lt m n ≡ false
    within m n h = grind arith

pub returns-then-count-most_points-clause-fault : goal.returns-then-count-most_points-clause-fault
returns-then-count-most_points-clause-fault c =
    let are = c.in_ok-points.ensures ∙ ap (λ (ls : List (Option PlacedLine)). in_order (placed_ends ls)) c.as_slice.ensures.value in
    let many : c.len-count.result ≡ length c.in_ok-points.points.items = omega (arith, c.in_ok-points.points.ok, c.len-count.ensures) in
    let e = (fault_left c.args.reading c.args.linedefs.now c.args.sidedefs.now c.args.vertexes.now c.args.sectors.now c.in_ok-placed.placed.items c.in_ok-points.points.items c.in_ok-placed.ensures are c.in_default.ensures.passed ∙ too_many _ _ (TooManyPoints (length c.in_ok-points.points.items)) (subst (λ (most : ℕ). most < length c.in_ok-points.points.items) c.most_points.ensures.most (omega (arith, many, c.if-count-most_points.true)))) in
    e ∙ ap (λ (n : ℕ). Some (TooManyPoints n)) (sym many)

pub plan_lines-requires-clause-order : goal.plan_lines-requires-clause-order
plan_lines-requires-clause-order c =
    let are = c.in_ok-points.ensures ∙ ap (λ (ls : List (Option PlacedLine)). in_order (placed_ends ls)) c.as_slice.ensures.value in
    subst ArePointsInOrder (sym c.as_slice-2.ensures.value) (points_in_order c.args.reading c.args.linedefs.now c.args.sidedefs.now c.args.vertexes.now c.args.sectors.now c.in_ok-placed.placed.items c.in_ok-points.points.items c.in_ok-placed.ensures are)

pub plan_lines-requires-clause-ends : goal.plan_lines-requires-clause-ends
plan_lines-requires-clause-ends c =
    let are = c.in_ok-points.ensures ∙ ap (λ (ls : List (Option PlacedLine)). in_order (placed_ends ls)) c.as_slice.ensures.value in
    rw (c.as_slice-2.ensures.value, c.as_slice-3.ensures.value) (ends_among c.args.reading c.args.linedefs.now c.args.sidedefs.now c.args.vertexes.now c.args.sectors.now c.in_ok-placed.placed.items c.in_ok-points.points.items c.in_ok-placed.ensures are)

pub invariant_of-result : goal.invariant_of-result
invariant_of-result c =
    let are = c.in_ok-points.ensures ∙ ap (λ (ls : List (Option PlacedLine)). in_order (placed_ends ls)) c.as_slice.ensures.value in
    plan_is c.args.reading c.args.linedefs.now c.args.sidedefs.now c.args.vertexes.now c.args.sectors.now c.in_ok-placed.placed.items c.in_ok-points.points.items c.in_ok-placed.ensures are c.in_ok-lines.lines.items
    (rw (c.as_slice-2.ensures.value, c.as_slice-3.ensures.value) at c.in_ok-lines.ensures.same) c.in_default.ensures.passed (subst (λ (most : ℕ). length c.in_ok-points.points.items ≤ most) c.most_points.ensures.most (omega (arith, c.in_ok-points.points.ok, c.len-count.ensures, c.if-count-most_points.false))) (rw c.as_slice-2.ensures.value at c.in_ok-lines.ensures.within)

pub returns-clause-plan : goal.returns-clause-plan
returns-clause-plan c =
    let are = c.in_ok-points.ensures ∙ ap (λ (ls : List (Option PlacedLine)). in_order (placed_ends ls)) c.as_slice.ensures.value in
    plan_is c.args.reading c.args.linedefs.now c.args.sidedefs.now c.args.vertexes.now c.args.sectors.now c.in_ok-placed.placed.items c.in_ok-points.points.items c.in_ok-placed.ensures are c.in_ok-lines.lines.items
    (rw (c.as_slice-2.ensures.value, c.as_slice-3.ensures.value) at c.in_ok-lines.ensures.same) c.in_default.ensures.passed (subst (λ (most : ℕ). length c.in_ok-points.points.items ≤ most) c.most_points.ensures.most (omega (arith, c.in_ok-points.points.ok, c.len-count.ensures, c.if-count-most_points.false))) (rw c.as_slice-2.ensures.value at c.in_ok-lines.ensures.within)

pub returns-clause-map : goal.returns-clause-map
returns-clause-map c =
    let are = c.in_ok-points.ensures ∙ ap (λ (ls : List (Option PlacedLine)). in_order (placed_ends ls)) c.as_slice.ensures.value in
    map_is c.args.reading c.args.linedefs.now c.args.sidedefs.now c.args.vertexes.now c.args.sectors.now c.in_ok-placed.placed.items c.in_ok-points.points.items c.in_ok-placed.ensures are c.in_ok-lines.lines.items
    (rw (c.as_slice-2.ensures.value, c.as_slice-3.ensures.value) at c.in_ok-lines.ensures.same)

pub returns-clause-fault : goal.returns-clause-fault
returns-clause-fault c =
    let are = c.in_ok-points.ensures ∙ ap (λ (ls : List (Option PlacedLine)). in_order (placed_ends ls)) c.as_slice.ensures.value in
    fault_left c.args.reading c.args.linedefs.now c.args.sidedefs.now c.args.vertexes.now c.args.sectors.now c.in_ok-placed.placed.items c.in_ok-points.points.items c.in_ok-placed.ensures are c.in_default.ensures.passed ∙ few_enough _ _ _ (subst (λ (most : ℕ). length c.in_ok-points.points.items ≤ most) c.most_points.ensures.most (omega (arith, c.in_ok-points.points.ok, c.len-count.ensures, c.if-count-most_points.false)))
