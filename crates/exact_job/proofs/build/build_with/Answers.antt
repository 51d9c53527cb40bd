use Rattle.std.proofs.Common.{List, length, sym, subst}
use Rattle.sight_names.specs.Mesh.{AreTriangles}
use Rattle.sight_names.specs.Plan.{PlanParts}
use Rattle.cert_checker.specs.Apart.{labels_in, triangles_in}
use Rattle.cert_format.specs.declared.cert.Labelled.{Labelled}
use Rattle.cert_format.specs.declared.cert.Sizes.{Sizes}
use Rattle.exact_job.specs.Built.{AreInCertificateOrder, IsPlanOfGroups}
use Rattle.exact_job.proofs.Front.{front, over}
use Rattle.exact_job.proofs.build.build_with.Goals as goal

pub build_grouped-requires-clause-in_order : goal.build_grouped-requires-clause-in_order
build_grouped-requires-clause-in_order g c =
    let m = c.in_ok-groups.field-0 in
    let cs = c.in_ok-triangles.triangles.items in
    subst (λ (z : Sizes). AreInCertificateOrder z m.groups cs) (sym c.sizes_of-sizes.ensures)
    (front c.args.plan.now m cs c.in_ok-groups.ensures.grouped c.lines-2.ensures.plan c.in_ok-triangles.ensures.ascend c.in_ok-triangles.ensures.few c.in_ok-triangles.ensures.list)

pub over_groups-requires-clause-triangles : goal.over_groups-requires-clause-triangles
over_groups-requires-clause-triangles g c =
    let m = c.in_ok-groups.field-0 in
    let cs = c.in_ok-triangles.triangles.items in
    subst (λ (ls : List Labelled). AreTriangles (length c.args.plan.now.points) (triangles_in ls)) (sym c.as_slice.ensures.value)
    (front c.args.plan.now m cs c.in_ok-groups.ensures.grouped c.lines-2.ensures.plan c.in_ok-triangles.ensures.ascend c.in_ok-triangles.ensures.few c.in_ok-triangles.ensures.list).triangles_are

pub build_grouped-requires-clause-over : goal.build_grouped-requires-clause-over
build_grouped-requires-clause-over g c =
    let m = c.in_ok-groups.field-0 in
    let cs = c.in_ok-triangles.triangles.items in
    subst (λ (q : PlanParts). IsPlanOfGroups c.args.plan.now m.groups (triangles_in cs) (labels_in cs) q) (sym c.in_ok-over.ensures.plan)
    (over c.args.plan.now m cs c.in_ok-groups.ensures.grouped c.lines-2.ensures.plan c.in_ok-triangles.ensures.list)
