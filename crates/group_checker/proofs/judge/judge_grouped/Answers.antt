use Rattle.std.proofs.Common.{sym, subst}
use Rattle.sight_names.specs.Groups.{IsInGroup}
use Rattle.sight_names.specs.Map.{map_of}
use Rattle.cert_checker.specs.Walked.{TellsWalked}
use Rattle.cert_checker.proofs.Walking.{pairs_at_walks, later_at_walks, rays_at_walks, trees_at_walks}
use Rattle.group_checker.proofs.judge.judge_grouped.Goals as goal

pub returns-in-Wrong-clause-later : goal.returns-in-Wrong-clause-later
returns-in-Wrong-clause-later g c = later_at_walks (map_of c.args.over.now.plan) c.args.two.now.cert c.in_ok-walked.walked c.in-Wrong.fault c.in-Wrong.is c.in_ok-walked.ensures

pub returns-in-Wrong-clause-rays : goal.returns-in-Wrong-clause-rays
returns-in-Wrong-clause-rays g c = rays_at_walks (map_of c.args.over.now.plan) c.args.two.now.cert c.in_ok-walked.walked c.in-Wrong.fault c.in-Wrong.is c.in_ok-walked.ensures

pub returns-in-Wrong-clause-trees : goal.returns-in-Wrong-clause-trees
returns-in-Wrong-clause-trees g c = trees_at_walks (map_of c.args.over.now.plan) c.args.two.now.cert c.in_ok-walked.walked c.in-Wrong.fault c.in-Wrong.is c.in_ok-walked.ensures

pub returns-in-Wrong-clause-pairs : goal.returns-in-Wrong-clause-pairs
returns-in-Wrong-clause-pairs g c = pairs_at_walks (map_of c.args.over.now.plan) c.args.two.now.cert c.in_ok-walked.walked c.in-Wrong.fault c.in-Wrong.is c.in_ok-walked.ensures (map_of c.args.over.now.plan) (IsInGroup c.args.two.now.groups) c.args.table.now c.args.two.now.listed c.args.two.now.cert

pub judge_sectors-requires-clause-reached : goal.judge_sectors-requires-clause-reached
judge_sectors-requires-clause-reached g c = let told = subst (TellsWalked (map_of c.args.over.now.plan) c.args.two.now.cert) c.in-Right.is c.in_ok-walked.ensures in told.1.1

pub judge_sectors-requires-clause-lists : goal.judge_sectors-requires-clause-lists
judge_sectors-requires-clause-lists g c = record { cert = c.args.two.now; two = c.requires.cert; groups_are = c.as_slice-groups.ensures; listed_is = c.as_slice-listed.ensures; rays_are = c.rays-rays.ensures.list }

pub returns-in-Right-clause-pairs : goal.returns-in-Right-clause-pairs
returns-in-Right-clause-pairs g c =
    let told = subst (TellsWalked (map_of c.args.over.now.plan) c.args.two.now.cert) c.in-Right.is c.in_ok-walked.ensures in
    c.judge_sectors.ensures.pairs c.args.two.now (sym c.as_slice-groups.ensures) (sym c.as_slice-listed.ensures) (sym c.rays-rays.ensures.list) told.1.2
