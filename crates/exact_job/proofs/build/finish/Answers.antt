use Rattle.std.proofs.Common.{◌∙◌, ℕ, List, length, map, ap, sym, subst}
use Rattle.sight_names.specs.declared.names.PairRay.{PairRay}
use Rattle.sight_names.specs.Plan.{PlanParts}
use Rattle.group_job.specs.Sectors.{AreOfSectors, ArePairsBelow}
use Rattle.found_rays.specs.Lines.{pair_of_ray}
use Rattle.exact_job.proofs.Accepting.{accepted, tells}
use Rattle.exact_job.proofs.Tables.{of_sectors, pairs_below}
use Rattle.exact_job.proofs.build.finish.Goals as goal

pub table_of-requires-clause-below : goal.table_of-requires-clause-below
table_of-requires-clause-below c =
    let size = ap (λ (q : PlanParts). q.sectors) c.plan.view_is in
    subst (λ (n : ℕ). AreOfSectors n c.as_slice.result.now) (sym size) (subst (AreOfSectors c.args.plan.now.sectors) (sym c.as_slice.ensures) (of_sectors c.args.plan.now c.args.cert c.requires.three))

pub table_of-requires-clause-pairs : goal.table_of-requires-clause-pairs
table_of-requires-clause-pairs c =
    subst (λ (gs : List (List ℕ)). ArePairsBelow (length gs) (map pair_of_ray c.as_slice-2.result.now)) (sym c.as_slice.ensures)
    (subst (λ (rs : List PairRay). ArePairsBelow (length c.args.cert.groups) (map pair_of_ray rs)) (sym c.as_slice-2.ensures) (pairs_below c.args.plan.now c.args.cert c.requires.three))

pub returns-clause-accepted : goal.returns-clause-accepted
returns-clause-accepted c =
    let p = c.args.plan.now in
    let size = c.in_ok-table.ensures.sectors ∙ ap (λ (q : PlanParts). q.sectors) c.plan.view_is in
    let table = c.in_ok-table.ensures.pairs c.args.cert (sym c.as_slice.ensures) (sym c.as_slice-2.ensures) in
    accepted p c.lines.ensures.plan c.args.cert c.args.over.now.plan c.requires.over c.requires.three.one_each c.requires.rays c.requires.trees c.in_ok-table.table size table

pub returns-clause-sight : goal.returns-clause-sight
returns-clause-sight c =
    let p = c.args.plan.now in
    let size = c.in_ok-table.ensures.sectors ∙ ap (λ (q : PlanParts). q.sectors) c.plan.view_is in
    let table = c.in_ok-table.ensures.pairs c.args.cert (sym c.as_slice.ensures) (sym c.as_slice-2.ensures) in
    tells p c.lines.ensures.plan c.args.cert c.args.over.now.plan c.requires.over c.requires.three.one_each c.requires.rays c.requires.trees c.in_ok-table.table size table c.requires.audited
