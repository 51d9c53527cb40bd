use Rattle.std.proofs.Common.{length}
use Rattle.sight_names.specs.Map.{map_of}
use Rattle.group_checker.specs.Lists.{IsListRight, IsUsedGroup}
use Rattle.group_checker.proofs.Listing.{all_found, found, used_of}
use Rattle.group_checker.proofs.lists.group_fault.Goals as goal

pub returns-in-Some-unused : goal.returns-in-Some-unused
returns-in-Some-unused c =
    let groups = c.args.groups.now in
    let labels = c.args.labels.now in (
      all_found (IsListRight (map_of c.args.plan.now) c.args.mesh.now.triangles groups labels) c.in_ok-other.other c.in-None.is c.in_ok-other.ensures,
      found (IsUsedGroup (length groups) labels) c.in_ok-unused-in-None.unused c.in-Some-unused.group c.in-Some-unused.is (used_of (length groups) c.as_slice.result.now labels c.in_ok-unused-in-None.unused c.as_slice.ensures c.in_ok-unused-in-None.ensures),
    )

pub returns-in-None-unused : goal.returns-in-None-unused
returns-in-None-unused c =
    let groups = c.args.groups.now in
    let labels = c.args.labels.now in (
      all_found (IsListRight (map_of c.args.plan.now) c.args.mesh.now.triangles groups labels) c.in_ok-other.other c.in-None.is c.in_ok-other.ensures,
      all_found (IsUsedGroup (length groups) labels) c.in_ok-unused-in-None.unused c.in-None-unused.is (used_of (length groups) c.as_slice.result.now labels c.in_ok-unused-in-None.unused c.as_slice.ensures c.in_ok-unused-in-None.ensures),
    )
