use Rattle.std.proofs.Common.{ap, length, sym, subst, ◌∙◌}
use Rattle.group_job.specs.Sectors.{AreOfSectors}
use Rattle.group_job.proofs.Certifying.{pairs_below}
use Rattle.group_job.proofs.GroupPairs.{listed_are_clear}
use Rattle.group_job.proofs.SectorPairs.{of_sectors}
use Rattle.group_job.proofs.build.build_table.Goals as goal

pub by_sectors-requires-clause-count : goal.by_sectors-requires-clause-count
by_sectors-requires-clause-count g c = let m = c.in_ok-map.ensures.grouped in let w = c.in_ok-built.ensures c.args.plan.now m in w.1.built.sectors ∙ m.map.sectors ∙ ap length (sym c.groups_of.ensures)

pub by_sectors-requires-clause-below : goal.by_sectors-requires-clause-below
by_sectors-requires-clause-below g c = let m = c.in_ok-map.ensures.grouped in subst (AreOfSectors c.args.plan.now.sectors) (sym c.groups_of.ensures) (of_sectors c.args.plan.now m.plan c.in_ok-map.map.groups m.groups)

pub by_sectors-requires-clause-pairs : goal.by_sectors-requires-clause-pairs
by_sectors-requires-clause-pairs g c = let w = c.in_ok-built.ensures c.args.plan.now c.in_ok-map.ensures.grouped in pairs_below c.args.plan.now c.args.ask c.in_ok-map.map w.0 c.in_ok-built.built w.1

pub by_sectors-requires-clause-clear : goal.by_sectors-requires-clause-clear
by_sectors-requires-clause-clear g c = let w = c.in_ok-built.ensures c.args.plan.now c.in_ok-map.ensures.grouped in listed_are_clear c.args.plan.now c.args.ask c.in_ok-map.map w.0 c.in_ok-built.built w.1

pub returns-clause-sectors : goal.returns-clause-sectors
returns-clause-sectors g c = let w = c.in_ok-built.ensures c.args.plan.now c.in_ok-map.ensures.grouped in (c.in_ok-told.ensures c.args.ask c.in_ok-map.map w.0 (sym c.groups_of.ensures) w.1).sectors

pub returns-clause-sizes : goal.returns-clause-sizes
returns-clause-sizes g c = let w = c.in_ok-built.ensures c.args.plan.now c.in_ok-map.ensures.grouped in (c.in_ok-told.ensures c.args.ask c.in_ok-map.map w.0 (sym c.groups_of.ensures) w.1).sizes

pub returns-clause-in_order : goal.returns-clause-in_order
returns-clause-in_order g c = let w = c.in_ok-built.ensures c.args.plan.now c.in_ok-map.ensures.grouped in (c.in_ok-told.ensures c.args.ask c.in_ok-map.map w.0 (sym c.groups_of.ensures) w.1).in_order

pub returns-clause-groups : goal.returns-clause-groups
returns-clause-groups g c = let w = c.in_ok-built.ensures c.args.plan.now c.in_ok-map.ensures.grouped in (c.in_ok-told.ensures c.args.ask c.in_ok-map.map w.0 (sym c.groups_of.ensures) w.1).groups

pub returns-clause-listed : goal.returns-clause-listed
returns-clause-listed g c = let w = c.in_ok-built.ensures c.args.plan.now c.in_ok-map.ensures.grouped in (c.in_ok-told.ensures c.args.ask c.in_ok-map.map w.0 (sym c.groups_of.ensures) w.1).listed

pub returns-clause-symmetric : goal.returns-clause-symmetric
returns-clause-symmetric g c = let w = c.in_ok-built.ensures c.args.plan.now c.in_ok-map.ensures.grouped in (c.in_ok-told.ensures c.args.ask c.in_ok-map.map w.0 (sym c.groups_of.ensures) w.1).symmetric

pub returns-clause-sight : goal.returns-clause-sight
returns-clause-sight g c = let w = c.in_ok-built.ensures c.args.plan.now c.in_ok-map.ensures.grouped in (c.in_ok-told.ensures c.args.ask c.in_ok-map.map w.0 (sym c.groups_of.ensures) w.1).sight

pub returns-clause-by_groups : goal.returns-clause-by_groups
returns-clause-by_groups g c = let w = c.in_ok-built.ensures c.args.plan.now c.in_ok-map.ensures.grouped in (c.in_ok-told.ensures c.args.ask c.in_ok-map.map w.0 (sym c.groups_of.ensures) w.1).by_groups

pub returns-clause-rays : goal.returns-clause-rays
returns-clause-rays g c = let w = c.in_ok-built.ensures c.args.plan.now c.in_ok-map.ensures.grouped in (c.in_ok-told.ensures c.args.ask c.in_ok-map.map w.0 (sym c.groups_of.ensures) w.1).rays

pub returns-clause-trees : goal.returns-clause-trees
returns-clause-trees g c = let w = c.in_ok-built.ensures c.args.plan.now c.in_ok-map.ensures.grouped in (c.in_ok-told.ensures c.args.ask c.in_ok-map.map w.0 (sym c.groups_of.ensures) w.1).trees

pub returns-clause-enough : goal.returns-clause-enough
returns-clause-enough g c = let w = c.in_ok-built.ensures c.args.plan.now c.in_ok-map.ensures.grouped in (c.in_ok-told.ensures c.args.ask c.in_ok-map.map w.0 (sym c.groups_of.ensures) w.1).enough

pub returns-clause-whole : goal.returns-clause-whole
returns-clause-whole g c = let w = c.in_ok-built.ensures c.args.plan.now c.in_ok-map.ensures.grouped in (c.in_ok-told.ensures c.args.ask c.in_ok-map.map w.0 (sym c.groups_of.ensures) w.1).whole

pub returns-clause-accepted : goal.returns-clause-accepted
returns-clause-accepted g c = let w = c.in_ok-built.ensures c.args.plan.now c.in_ok-map.ensures.grouped in (c.in_ok-told.ensures c.args.ask c.in_ok-map.map w.0 (sym c.groups_of.ensures) w.1).accepted
