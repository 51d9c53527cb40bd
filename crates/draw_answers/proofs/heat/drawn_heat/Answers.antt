use Rattle.std.proofs.Common.{◌<◌, ℕ, List, All, sym, subst}
use Rattle.sight_names.specs.Map.{map_of}
use Rattle.sight_names.proofs.PlanMap.{plan_is_map}
use Rattle.draw_answers.proofs.Points.{groups_below}
use Rattle.draw_answers.proofs.heat.drawn_heat.Goals as goal

pub seen_by-requires : goal.seen_by-requires
seen_by-requires c =
    let p = c.args.plan.now in
    let g = c.args.groups.now in
    subst (λ (gs : List (List ℕ)). All (All (λ (b : ℕ). b < c.args.table.now.n)) gs) (sym c.as_slice.ensures)
    (groups_below (map_of p) (plan_is_map p c.requires.groups.plan) g.grouped.groups c.requires.groups.over.are c.args.table.now.n c.requires.table)
