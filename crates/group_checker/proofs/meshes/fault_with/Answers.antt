use Rattle.sight_names.specs.Map.{map_of}
use Rattle.group_checker.proofs.Meshed.{good_but_bare, fault_but_bare}
use Rattle.group_checker.proofs.meshes.fault_with.Goals as goal

pub returns-in-Some : goal.returns-in-Some
returns-in-Some c = rw c.earlier.ensures (fault_but_bare (map_of c.args.plan.now) c.args.mesh.now.triangles c.args.labels.now c.args.side c.requires.bare c.in-Some.fault c.in-Some.ensures)

pub returns-in-None : goal.returns-in-None
returns-in-None c = good_but_bare (map_of c.args.plan.now) c.args.mesh.now.triangles c.args.labels.now c.args.side c.requires.bare c.in-None.ensures
