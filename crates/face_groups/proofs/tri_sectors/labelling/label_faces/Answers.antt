use Rattle.sight_names.specs.Map.{map_of}
use Rattle.face_groups.proofs.TriSectors.GoodLabels.{faces_answer}
use Rattle.face_groups.proofs.tri_sectors.labelling.label_faces.Goals as goal

pub returns-clause-verdict : goal.returns-clause-verdict
returns-clause-verdict c = faces_answer (map_of c.args.plan.now) c.args.mesh.now.triangles c.args.faces.now c.args.marks.now c.in_ok-sides.sides.items c.as_slice.result.now c.label_sides.result c.as_slice.ensures.value c.in_default.ensures.search c.in_ok-sides.ensures.faced c.label_sides.ensures
