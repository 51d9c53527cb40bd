use Rattle.std.proofs.Common.{◌<◌, ◌∙◌, ℕ, List, length, map, ap, sym, subst, arith}
use Rattle.std.specs.List.{AllByRecursion}
use Rattle.sight_names.specs.Mesh.{AreTriangles}
use Rattle.cert_format.specs.declared.cert.Labelled.{Labelled}
use Rattle.cert_format.specs.Parts.{CertParts}
use Rattle.cert_format.specs.Grammar.{IsOneInOrder}
use Rattle.cert_format.proofs.LimitLaws.{twice_fits}
use Rattle.triangulate.proofs.MeshBound.{few_in_plan}
use Rattle.group_job.proofs.BuildLaws.{cert_in_order, same_parts}
use Rattle.group_job.proofs.Building.{are, built_over}
use Rattle.group_job.proofs.LabelledLaws.{below}
use Rattle.group_job.proofs.walked.built_of.Goals as goal

pub cert_of-cert-requires : goal.cert_of-cert-requires
cert_of-cert-requires c =
    let j = c.args.job in
    let faces = c.requires.faces in
    let plan = c.map_sizes.ensures.plan in
    let d = c.in_ok-verdicts.ensures in
    let v = c.in_ok-verdicts.verdicts in
    let ascend = subst (λ (n : ℕ). AreTriangles n (map (λ (l : Labelled). l.triangle) c.in_ok-triangles.triangles.items)) faces.points c.in_ok-triangles.ensures.ascend in
    let sectors = subst (λ (ls : List Labelled). AllByRecursion (λ (l : Labelled). l.sector < j.plan.now.sectors) ls) (sym c.in_ok-triangles.ensures.list) (below j.plan.now.sectors j.mesh.now.triangles j.labels.now faces.sectors) in
    let twice = few_in_plan j.plan.now plan faces.sound.ends j.mesh.now.triangles faces.mesh in
    let few = twice_fits (length j.plan.now.points) (length c.in_ok-triangles.triangles.items) plan.few_points (let kept = c.in_ok-triangles.ensures.few in omega (arith, kept, twice)) in
    let good = cert_in_order j.plan.now plan j.budget v (are j plan faces c.requires.components c.requires.len c.args.results.items c.requires.results v d.table d.listed d.rays d.trees) c.in_ok-triangles.triangles.items few ascend sectors in
    subst IsOneInOrder (sym (same_parts _ _ _ _ _ _ _ _ c.map_sizes.ensures.sizes c.into_vec.ensures c.new.ensures.items c.into_vec-2.ensures)) good

pub returns : goal.returns
returns c =
    let j = c.args.job in
    let d = c.in_ok-verdicts.ensures in
    let v = c.in_ok-verdicts.verdicts in
    let e = c.cert_of-cert.ensures.parts in
    built_over j c.map_sizes.ensures.plan c.requires.faces c.requires.components c.requires.len c.args.results.items c.requires.results v d.table d.listed d.rays d.trees d.over c.cert_of-cert.result
    (ap (λ (x : CertParts). x.sizes) e ∙ c.map_sizes.ensures.sizes)
    c.cert_of-cert.ensures.in_order
    (ap (λ (x : CertParts). x.listed) e ∙ c.new.ensures.items)
    (ap (λ (x : CertParts). x.triangles) e ∙ c.in_ok-triangles.ensures.list)
    (ap (λ (x : CertParts). x.rays) e ∙ c.into_vec.ensures)
    (ap (λ (x : CertParts). x.trees) e ∙ c.into_vec-2.ensures)
