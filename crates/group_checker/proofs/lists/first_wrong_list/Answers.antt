use Rattle.sight_names.specs.Map.{map_of}
use Rattle.group_checker.proofs.Listing.{lists_told}
use Rattle.group_checker.proofs.lists.first_wrong_list.Goals as goal

pub returns : goal.returns
returns c = lists_told (map_of c.args.plan.now) c.args.mesh.now.triangles c.args.groups.now c.args.labels.now c.requires.labels c.in_ok-lists.lists.items c.in_ok-lists.ensures.len (c.in_ok-lists.ensures.names c.requires.plain) c.as_slice.result.now c.as_slice.ensures.value c.first_other_list.result c.first_other_list.ensures
