use Rattle.std.proofs.Common.{◌≡◌, ℕ, ◌+◌, ◌<◌, List, Option, sym, ap, ◌∙◌, subst, arith, not, Vec, Global}
use Rattle.std.proofs.lemmas.List.{with_items_is}
use Rattle.sight_names.specs.Map.{map_of}
use Rattle.sight_names.specs.Plan.{PlanParts}
use Rattle.sound_reach.specs.Counts.{AreFilled, AreRows}
use Rattle.sound_reach.specs.Routes.{AreDistances}
use Rattle.sound_reach.proofs.Heards.{row_seen, rows_known, rows_more}
use Rattle.sound_reach.proofs.count.rows_of.Goals as goal
use Rattle.sound_reach.proofs.count.rows_of.Goals.{then-is_none+in_ok-distances, else-is_none}

pub loop-sector-preserved : goal.loop-sector-preserved
loop-sector-preserved c =
    let same : c.plan.inside.sectors ≡ c.args.plan.now.sectors = ap (λ (p : PlanParts). p.sectors) c.plan.view_is in
    let lt : c.loop-sector.sector < c.args.plan.now.sectors = let t = c.loop-sector-test.true in omega (arith, t, same) in
    elim c.if-is_none.branch [
      | then-is_none+in_ok-distances w ↦
          subst (λ (xs : List (Option ℕ)). AreRows (map_of c.args.plan.now) c.args.dampers.now (c.loop-sector.sector + 1) xs) (sym (ap (λ (v : Vec (Option ℕ) Global). v.items) w.rows-is ∙ with_items_is c.loop-sector.rows w.fill.new.rows (w.fill.ensures.len ∙ w.deref_mut.ensures.len)))
          (rows_more (map_of c.args.plan.now) c.args.dampers.now c.in_ok-doors.doors.doors.items c.in_ok-doors.ensures.doors c.loop-sector.sector w.in_ok-distances.distances.items c.loop-sector.rows.items w.fill.new.rows lt
          (subst (λ (n : ℕ). AreDistances c.in_ok-doors.doors.doors.items n c.loop-sector.sector w.in_ok-distances.distances.items) c.in_ok-doors.ensures.sectors w.in_ok-distances.ensures)
          (subst (λ (n : ℕ). AreFilled n w.in_ok-distances.distances.items c.loop-sector.rows.items w.fill.new.rows) same
          (subst (λ (ds : List (Option ℕ)). AreFilled c.plan.inside.sectors ds c.loop-sector.rows.items w.fill.new.rows) w.deref.ensures.value
          (subst (λ (rows : List (Option ℕ)). AreFilled c.plan.inside.sectors w.deref.result.now rows w.fill.new.rows) w.deref_mut.ensures.value w.fill.ensures)))
          c.loop-sector.invariant)
      | else-is_none w ↦
          let len = c.loop-sector.invariant.len in
          let seen = row_seen c.loop-sector.rows.items c.loop-sector.sector c.index.result.now (omega (arith, lt, len)) c.index.ensures (c.is_none.ensures ∙ ap not w.if-is_none.false) in
          subst (λ (v : Vec (Option ℕ) Global). AreRows (map_of c.args.plan.now) c.args.dampers.now (c.loop-sector.sector + 1) v.items) (sym w.rows-is)
          (rows_known (map_of c.args.plan.now) c.args.dampers.now c.loop-sector.sector seen.0 c.loop-sector.rows.items seen.1 c.loop-sector.invariant)
    ]
