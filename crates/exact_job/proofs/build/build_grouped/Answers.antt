use Rattle.std.proofs.Common.{◌≡◌, ℕ, List, Option, None, length, refl, sym, ◌∙◌, ap, subst}
use Rattle.std.proofs.lemmas.Result.{IfOk-weaker}
use Rattle.sight_names.specs.declared.names.Triangle.{Triangle}
use Rattle.sight_names.specs.Map.{map_of}
use Rattle.mesh_shape.specs.HalfEdges.HalfEdges.{AreHalfEdges}
use Rattle.cert_format.specs.declared.cert.Sizes.{Sizes}
use Rattle.cert_format.specs.Sizes.{sizes_of_plan}
use Rattle.cert_checker.specs.Apart.{labels_in, triangles_in}
use Rattle.cert_checker.specs.Rays.{AreSightRaysBelow}
use Rattle.cert_format.specs.CertGroups.Grammar.{IsTwoInOrder}
use Rattle.certificates.specs.declared.cert_exact.cert.ExactParts.{ExactParts}
use Rattle.certificates.specs.CertExact.Grammar.{as_two}
use Rattle.exact_checker.specs.Judged.{IsThreeFor, TellsTrees}
use Rattle.exact_job.specs.declared.build.ExactBuilt.{ExactBuilt}
use Rattle.exact_job.specs.Built.{IsPlanOfGroups, IsSettled}
use Rattle.exact_job.specs.Rays.{AreRaysInOrder}
use Rattle.exact_job.proofs.Grounds.{ground}
use Rattle.exact_job.proofs.InOrder.{in_order, three}
use Rattle.exact_job.proofs.build.build_grouped.Goals as goal

pub settle-requires-clause-lines : goal.settle-requires-clause-lines
settle-requires-clause-lines g c = ap (λ (z : Sizes). z.lines) c.with_groups.ensures ∙ ap (λ (z : Sizes). z.lines) c.requires.sizes ∙ sym c.requires.over.lines

pub settle-requires-clause-ground : goal.settle-requires-clause-ground
settle-requires-clause-ground g c = ground c.args.plan.now c.args.over.now.plan c.args.sizes c.args.groups c.args.triangles.items c.args.over.now.mesh.triangles c.args.over.now.labels c.in_ok-edges.edges c.requires.in_order c.requires.triangles c.requires.labels c.requires.over c.in_ok-edges.ensures

pub finish-requires-clause-three : goal.finish-requires-clause-three
finish-requires-clause-three g c =
    let count = c.requires.over.sectors in
    let s = subst (λ (z : Sizes). IsSettled c.args.over.now.plan c.args.over.now.mesh.triangles c.in_ok-edges.edges z c.in_ok-settled.settled) c.with_groups.ensures c.in_ok-settled.ensures in
    let rays = subst (λ (n : ℕ). AreRaysInOrder (record { sectors = n; points = c.args.sizes.points; lines = c.args.sizes.lines }) c.in_ok-settled.settled.rays.items) count s.rays in
    let each = s.trees.one_each ∙ count in
    let order = in_order c.args.sizes c.args.groups c.args.triangles.items c.in_ok-settled.settled.rays.items c.in_ok-settled.settled.trees.items c.requires.in_order rays each s.trees.nodes in
    subst (IsThreeFor c.args.plan.now) (sym c.cert_of-cert.ensures) (three c.args.plan.now c.args.sizes c.args.groups c.args.triangles.items c.in_ok-settled.settled.rays.items c.in_ok-settled.settled.trees.items c.requires.sizes order each)

pub finish-requires-clause-over : goal.finish-requires-clause-over
finish-requires-clause-over g c = subst (λ (x : ExactParts). IsPlanOfGroups c.args.plan.now x.groups (triangles_in x.triangles) (labels_in x.triangles) c.args.over.now.plan) (sym c.cert_of-cert.ensures) c.requires.over

pub finish-requires-clause-rays : goal.finish-requires-clause-rays
finish-requires-clause-rays g c = subst (λ (x : ExactParts). AreSightRaysBelow (map_of c.args.over.now.plan) x.rays (length x.rays)) (sym c.cert_of-cert.ensures) c.in_ok-settled.ensures.sight

pub finish-requires-clause-trees : goal.finish-requires-clause-trees
finish-requires-clause-trees g c =
    let p = c.args.over.now.plan in
    let s = subst (λ (z : Sizes). IsSettled p c.args.over.now.mesh.triangles c.in_ok-edges.edges z c.in_ok-settled.settled) c.with_groups.ensures c.in_ok-settled.ensures in
    let cert : ExactParts = record { sizes = c.args.sizes; groups = c.args.groups; triangles = c.args.triangles.items; rays = c.in_ok-settled.settled.rays.items; trees = c.in_ok-settled.settled.trees.items } in
    let edges = subst (λ (ls : List (Option ℕ)). AreHalfEdges p (triangles_in c.args.triangles.items) ls c.in_ok-edges.edges) c.requires.labels
    (subst (λ (ts : List Triangle). AreHalfEdges p ts c.args.over.now.labels c.in_ok-edges.edges) c.requires.triangles c.in_ok-edges.ensures) in
    subst (λ (x : ExactParts). TellsTrees (map_of p) x None) (sym c.cert_of-cert.ensures)
    (s.trees.keep cert (record { plan = c.requires.over.plan; sectors = c.requires.over.sectors; triangles = c.requires.triangles; good = c.requires.over.good; edges = edges; rows_are = s.joined; trees_are = refl }))

pub returns-clause-in_order : goal.returns-clause-in_order
returns-clause-in_order g c =
    let count = c.requires.over.sectors in
    let s = subst (λ (z : Sizes). IsSettled c.args.over.now.plan c.args.over.now.mesh.triangles c.in_ok-edges.edges z c.in_ok-settled.settled) c.with_groups.ensures c.in_ok-settled.ensures in
    let rays = subst (λ (n : ℕ). AreRaysInOrder (record { sectors = n; points = c.args.sizes.points; lines = c.args.sizes.lines }) c.in_ok-settled.settled.rays.items) count s.rays in
    let each = s.trees.one_each ∙ count in
    let order = in_order c.args.sizes c.args.groups c.args.triangles.items c.in_ok-settled.settled.rays.items c.in_ok-settled.settled.trees.items c.requires.in_order rays each s.trees.nodes in
    let here = subst (λ (x : ExactParts). IsTwoInOrder (sizes_of_plan c.args.plan.now) (as_two x)) (sym c.cert_of-cert.ensures)
    (subst (λ (z : Sizes). IsTwoInOrder z (as_two (record { sizes = c.args.sizes; groups = c.args.groups; triangles = c.args.triangles.items; rays = c.in_ok-settled.settled.rays.items; trees = c.in_ok-settled.settled.trees.items }))) c.requires.sizes order) in
    IfOk-weaker c.finish.result (λ (b : ExactBuilt). b.cert ≡ c.cert_of-cert.result) (λ (b : ExactBuilt). IsTwoInOrder (sizes_of_plan c.args.plan.now) (as_two b.cert))
    (λ b e. subst (λ (x : ExactParts). IsTwoInOrder (sizes_of_plan c.args.plan.now) (as_two x)) (sym e) here) c.finish.ensures.cert
