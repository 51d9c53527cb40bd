use Rattle.std.proofs.Common.{length}
use Rattle.std.specs.Prelude.{Ok}
use Rattle.sight_names.specs.declared.faults.CheckFault.TheVariants.{Mesh}
use Rattle.sight_names.specs.Map.{map_of}
use Rattle.cert_checker.specs.Apart.{triangles_in, labels_in}
use Rattle.group_checker.specs.declared.grouping.MeshVerdict.TheVariants.{Broken}
use Rattle.group_checker.specs.declared.verdict.AnyFault.TheVariants.{Check}
use Rattle.group_checker.specs.Meshes.{HasTriangleAt}
use Rattle.group_checker.proofs.Ending.{all_sided, bare_told, found_bare, grouping_moved, labels_moved}
use Rattle.group_checker.proofs.OneMap.{labels_below}
use Rattle.group_checker.proofs.grouping.judge_mesh.Goals as goal

pub returns-in-Some : goal.returns-in-Some
returns-in-Some c =
    let p = c.args.plan.now in
    let groups = c.args.groups.now in
    let mesh = c.in_ok-mesh.mesh in
    let labels = c.in_ok-mesh.labels in
    let bare = found_bare (HasTriangleAt (map_of p) mesh.triangles) c.in_ok-bare.bare c.in-Some.side c.in-Some.is c.in_ok-bare.ensures in
    grouping_moved p groups mesh (length p.points) (triangles_in c.args.labelled.now) (labels_in c.args.labelled.now) labels (Ok (Broken (Check (Mesh c.fault_with-fault.result)))) c.in_ok-mesh.ensures.triangles c.in_ok-mesh.ensures.labels
    (bare_told p c.in_ok-mesh.ensures.plan mesh.triangles labels groups c.in-Some.side bare c.fault_with-fault.result c.fault_with-fault.ensures)

pub judge_sided-requires-clause-labels : goal.judge_sided-requires-clause-labels
judge_sided-requires-clause-labels c =
    let groups = c.args.groups.now in
    labels_moved (length groups) c.in_ok-mesh.mesh (length c.args.plan.now.points) (triangles_in c.args.labelled.now) (labels_in c.args.labelled.now) c.in_ok-mesh.labels c.in_ok-mesh.ensures.triangles c.in_ok-mesh.ensures.labels
    (labels_below (length groups) c.args.labelled.now c.requires.sectors)

pub judge_sided-requires-clause-sides : goal.judge_sided-requires-clause-sides
judge_sided-requires-clause-sides c = all_sided (HasTriangleAt (map_of c.args.plan.now) c.in_ok-mesh.mesh.triangles) c.in_ok-bare.bare c.in-None.is c.in_ok-bare.ensures
