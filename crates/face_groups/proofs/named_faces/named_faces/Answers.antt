use Rattle.std.proofs.Common.{arith}
use Rattle.std.proofs.lemmas.List.Sorted.{length_permutation}
use Rattle.face_groups.proofs.FaceLists.{faces_moved}
use Rattle.face_groups.proofs.named_faces.named_faces.Goals as goal

pub returns-clause-few : goal.returns-clause-few
returns-clause-few c =
    let e = length_permutation c.in_ok-found.found.items c.in_order.result.items c.in_order.ensures.same in
    let l = c.in_ok-found.ensures.few in
    omega (arith, e, l)

pub returns-clause-faces : goal.returns-clause-faces
returns-clause-faces c = faces_moved c.args.namings.now c.args.count c.in_ok-found.found.items c.in_order.result.items c.in_order.ensures.same c.in_ok-found.ensures.faces
