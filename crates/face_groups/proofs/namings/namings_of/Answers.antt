use Rattle.std.proofs.Common.{List, filter_map, subst, ap, ◌∙◌}
use Rattle.sight_names.specs.Map.{map_of}
use Rattle.face_groups.specs.declared.namings.Naming.{Naming}
use Rattle.face_groups.specs.Namings.{said_by, AreNamingsInOrder}
use Rattle.face_groups.proofs.NamingOrder.{namings_are}
use Rattle.face_groups.proofs.namings.namings_of.Goals as goal

pub returns : goal.returns
returns c = namings_are (map_of c.args.plan.now) c.args.mesh.now.triangles c.args.faces.now c.in_ok-sides.sides.items c.in_order.result.items c.in_ok-sides.ensures.faced
    (subst (λ (xs : List Naming). AreNamingsInOrder xs c.in_order.result.items) (c.in_ok-all.ensures ∙ ap (filter_map said_by) c.as_slice.ensures.value) c.in_order.ensures)
