use Rattle.std.proofs.Common.{◌≡◌, ℕ, ◌+◌, ◌-◌, ◌*◌, ◌<◌, ◌≤◌, List, Option, length, sym, ap, subst, arith}
use Rattle.sight_names.specs.Map.{map_of}
use Rattle.sight_names.specs.Plan.{PlanParts}
use Rattle.sound_reach.specs.declared.count.Heard.{Heard}
use Rattle.sound_reach.specs.Counts.{AreRows}
use Rattle.sound_reach.proofs.Heards.{IsSumming, each_known, row_few, summed, summing_begun, summing_more}
use Rattle.sound_reach.proofs.count.count_heard.Goals as goal
use Rattle.sound_reach.proofs.count.count_heard.Goals.{in-Some, in_default}

pub loop-sector-init : goal.loop-sector-init
loop-sector-init c = summing_begun c.args.plan.now.sectors c.deref-row-items.result.now

-- what is added fits, since no row has more than all sectors
fits : (n m len i count pairs silent : ℕ) → n ≡ m → n < 65536 → len ≡ m → i < len → count ≤ m - i → pairs + silent ≤ i * 65535 → (pairs + count < 4294967296) × (silent + (n - i - count) < 4294967296)
fits n m len i count pairs silent e r l lt few sum = (omega (arith, e, r, l, lt, few, sum), omega (arith, e, r, l, lt, few, sum))

pub overflow_add-heard : goal.overflow_add-heard
overflow_add-heard c =
    let h = subst (λ (xs : List (Option ℕ)). AreRows (map_of c.args.plan.now) c.args.dampers.now c.args.plan.now.sectors xs) (sym c.deref-row-items.ensures.value) c.in_ok-rows.ensures in
    let w = fits c.plan.inside.sectors c.args.plan.now.sectors (length c.deref-row-items.result.now) c.loop-sector.sector c.in-Some.count c.loop-sector.heard.pairs c.loop-sector.heard.silent (ap (λ (p : PlanParts). p.sectors) c.plan.view_is) (omega arith) h.len c.loop-sector-test.true
    (row_few (map_of c.args.plan.now) c.args.dampers.now c.args.plan.now.sectors c.deref-row-items.result.now c.loop-sector.sector c.in-Some.count h c.in-Some.is) c.loop-sector.invariant.few in
    let x = w.0 in omega (arith, x)

pub overflow_sub-heard-in-Some : goal.overflow_sub-heard-in-Some
overflow_sub-heard-in-Some c =
    let h = subst (λ (xs : List (Option ℕ)). AreRows (map_of c.args.plan.now) c.args.dampers.now c.args.plan.now.sectors xs) (sym c.deref-row-items.ensures.value) c.in_ok-rows.ensures in
    let few = row_few (map_of c.args.plan.now) c.args.dampers.now c.args.plan.now.sectors c.deref-row-items.result.now c.loop-sector.sector c.in-Some.count h c.in-Some.is in
    let e = ap (λ (p : PlanParts). p.sectors) c.plan.view_is in
    omega (arith, few, e)

pub overflow_add-heard-in-Some : goal.overflow_add-heard-in-Some
overflow_add-heard-in-Some c =
    let h = subst (λ (xs : List (Option ℕ)). AreRows (map_of c.args.plan.now) c.args.dampers.now c.args.plan.now.sectors xs) (sym c.deref-row-items.ensures.value) c.in_ok-rows.ensures in
    let w = fits c.plan.inside.sectors c.args.plan.now.sectors (length c.deref-row-items.result.now) c.loop-sector.sector c.in-Some.count c.loop-sector.heard.pairs c.loop-sector.heard.silent (ap (λ (p : PlanParts). p.sectors) c.plan.view_is) (omega arith) h.len c.loop-sector-test.true
    (row_few (map_of c.args.plan.now) c.args.dampers.now c.args.plan.now.sectors c.deref-row-items.result.now c.loop-sector.sector c.in-Some.count h c.in-Some.is) c.loop-sector.invariant.few in
    let x = w.1 in omega (arith, x)

pub loop-sector-preserved : goal.loop-sector-preserved
loop-sector-preserved c =
    let h = subst (λ (xs : List (Option ℕ)). AreRows (map_of c.args.plan.now) c.args.dampers.now c.args.plan.now.sectors xs) (sym c.deref-row-items.ensures.value) c.in_ok-rows.ensures in
    let e : c.plan.inside.sectors ≡ c.args.plan.now.sectors = ap (λ (p : PlanParts). p.sectors) c.plan.view_is in
    let len = h.len in
    let t = c.loop-sector-test.true in
    let lt : c.loop-sector.sector < c.args.plan.now.sectors = omega (arith, t, len) in
    let range : c.args.plan.now.sectors < 65536 = omega (arith, e) in
    elim c.match-row.branch [
      | in-Some w ↦ subst (λ (s : Heard). IsSumming c.args.plan.now.sectors c.deref-row-items.result.now (c.loop-sector.sector + 1) s.pairs s.silent) (sym w.heard-is)
          (subst (λ (n : ℕ). IsSumming c.args.plan.now.sectors c.deref-row-items.result.now (c.loop-sector.sector + 1) (c.loop-sector.heard.pairs + w.in-Some.count) (c.loop-sector.heard.silent + (n - c.loop-sector.sector - w.in-Some.count))) (sym e)
          (summing_more (map_of c.args.plan.now) c.args.dampers.now c.deref-row-items.result.now c.loop-sector.sector w.in-Some.count c.loop-sector.heard.pairs c.loop-sector.heard.silent h range lt w.in-Some.is c.loop-sector.invariant))
      | in_default w ↦ absurd (each_known (map_of c.args.plan.now) c.args.dampers.now c.deref-row-items.result.now c.loop-sector.sector h lt w.in_default.is)
    ]

pub returns : goal.returns
returns c =
    let h = subst (λ (xs : List (Option ℕ)). AreRows (map_of c.args.plan.now) c.args.dampers.now c.args.plan.now.sectors xs) (sym c.deref-row-items.ensures.value) c.in_ok-rows.ensures in
    let len = h.len in
    let t = c.loop-sector-test.false in
    summed (map_of c.args.plan.now) c.args.dampers.now c.deref-row-items.result.now c.loop-sector.sector c.loop-sector.heard.pairs c.loop-sector.heard.silent h (omega (arith, t, len)) c.loop-sector.invariant
