use Rattle.sight_names.specs.Map.{map_of}
use Rattle.face_groups.proofs.TriSectors.LabelVerdict.{verdict}
use Rattle.mesh_base.proofs.PlanFacts.{plan_facts}
use Rattle.face_groups.proofs.TriSectors.GoodLabels.{marked_faces, range_answer, good_answer}
use Rattle.face_groups.proofs.tri_sectors.labelling.label.Goals as goal

pub returns-clause-range : goal.returns-clause-range
returns-clause-range c = range_answer c.args.plan.now c.label_faces.ensures.plan c.args.mesh.now.triangles _ _ c.label_faces.result c.label_faces.ensures.verdict

pub returns-clause-good : goal.returns-clause-good
returns-clause-good c plain = good_answer (map_of c.args.plan.now) c.args.mesh.now.triangles _ _ c.label_faces.result
    (marked_faces (map_of c.args.plan.now) c.args.mesh.now.triangles _ _ _ _ _ _ _ _ c.as_slice.ensures.value c.as_slice-2.ensures.value c.as_slice-3.ensures.value c.as_slice-4.ensures.value c.as_slice-5.ensures.value c.in_ok-walls.ensures c.in_ok-faces.ensures.faces c.in_ok-marks.ensures)
    c.label_faces.ensures.verdict plain

pub returns-clause-verdict : goal.returns-clause-verdict
returns-clause-verdict c plain filled = verdict (map_of c.args.plan.now) c.args.mesh.now.triangles _ _ (plan_facts c.args.plan.now c.label_faces.ensures.plan) plain filled
    (marked_faces (map_of c.args.plan.now) c.args.mesh.now.triangles _ _ _ _ _ _ _ _ c.as_slice.ensures.value c.as_slice-2.ensures.value c.as_slice-3.ensures.value c.as_slice-4.ensures.value c.as_slice-5.ensures.value c.in_ok-walls.ensures c.in_ok-faces.ensures.faces c.in_ok-marks.ensures)
    c.label_faces.result c.label_faces.ensures.verdict
