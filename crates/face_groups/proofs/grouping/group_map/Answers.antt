use Rattle.sight_names.specs.Map.{map_of}
use Rattle.face_groups.proofs.TriSectors.GoodLabels.{marked_faces}
use Rattle.face_groups.proofs.Verdicts.{groups_answer}
use Rattle.face_groups.proofs.grouping.group_map.Goals as goal

pub returns-clause-verdict : goal.returns-clause-verdict
returns-clause-verdict c plain filled = groups_answer c.args.plan.now c.group_faces.ensures.plan c.args.mesh.now.triangles _ _
    (marked_faces (map_of c.args.plan.now) c.args.mesh.now.triangles _ _ _ _ _ _ _ _ c.as_slice.ensures.value c.as_slice-2.ensures.value c.as_slice-3.ensures.value c.as_slice-4.ensures.value c.as_slice-5.ensures.value c.in_ok-walls.ensures c.in_ok-faces.ensures.faces c.in_ok-marks.ensures)
    plain filled c.group_faces.result c.group_faces.ensures.verdict
