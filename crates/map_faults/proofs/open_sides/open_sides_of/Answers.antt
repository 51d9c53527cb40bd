use Rattle.std.proofs.lemmas.Result.{IfOk-weaker}
use Rattle.sight_names.specs.Map.{map_of}
use Rattle.face_groups.proofs.TriSectors.GoodLabels.{marked_faces}
use Rattle.map_faults.proofs.OpenOnes.{open_in_map}
use Rattle.map_faults.proofs.open_sides.open_sides_of.Goals as goal

pub returns : goal.returns
returns c = λ plain filled. IfOk-weaker c.open_by.result _ _ (λ v h. open_in_map c.args.plan.now c.open_by.ensures.plan c.args.mesh.now.triangles _ _
    (marked_faces (map_of c.args.plan.now) c.args.mesh.now.triangles _ _ _ _ _ _ _ _ c.as_slice.ensures.value c.as_slice-2.ensures.value c.as_slice-3.ensures.value c.as_slice-4.ensures.value c.as_slice-5.ensures.value c.in_ok-walls.ensures c.in_ok-faces.ensures.faces c.in_ok-marks.ensures)
    plain filled v.items h) c.open_by.ensures.sides
