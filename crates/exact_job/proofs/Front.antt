-- The groups and the labelled triangles of a map are in range and in order.
use Rattle.std.proofs.Common.{◌≡◌, ℕ, ◌<◌, ◌≤◌, ◌∙◌, List, Option, length, Contains, sym, ap, subst, arith}
use Rattle.std.proofs.lemmas.List.{length-map}
use Rattle.std.specs.Prelude.{map}
use Rattle.std.specs.List.{AllByRecursion}
use Rattle.math_base.proofs.Lists.{all_of}
use Rattle.sight_names.specs.declared.names.Pt.{Pt}
use Rattle.sight_names.specs.Map.{MapLine, map_of}
use Rattle.sight_names.specs.Mesh.{AreTriangles, IsGoodMesh}
use Rattle.sight_names.specs.Plan.{PlanParts, IsPlan}
use Rattle.sight_names.specs.Groups.{AreGroups, unnamed}
use Rattle.triangulate.proofs.MeshBound.{few_in_plan}
use Rattle.face_groups.proofs.GroupsBase.Ordered.{contains_at}
use Rattle.cert_format.specs.declared.cert.Labelled.{Labelled}
use Rattle.cert_format.specs.Sizes.{sizes_of_plan}
use Rattle.cert_format.proofs.LimitLaws.{twice_fits}
use Rattle.cert_checker.specs.Apart.{triangles_in, labels_in}
use Rattle.cert_format.specs.CertGroups.Grammar.{IsGroupInOrder}
use Rattle.group_job.specs.declared.grouped.MapOfGroups.{MapOfGroups}
use Rattle.group_job.specs.Grouped.{IsMapOfGroups}
use Rattle.group_job.specs.Labelled.{labelled_of}
use Rattle.group_job.proofs.GoodLabelled.{labelled_are_good}
use Rattle.group_job.proofs.KeptFaces.{kept_names, kept_table}
use Rattle.group_job.proofs.LabelledLaws.{below}
use Rattle.group_job.proofs.SectorPairs.{of_sectors}
use Rattle.exact_job.specs.Built.{AreInCertificateOrder, IsPlanOfGroups}

group_in_order : (p : PlanParts) → IsPlan p → (groups : List (List ℕ)) → AreGroups (map_of p) groups → (at : List ℕ) → Contains groups at → IsGroupInOrder p.sectors at
group_in_order p plan groups are at c =
    let e = (are.exactly at).0 c in
    let x = contains_at groups at c in
    record { some = e.0; below = all_of (λ (a : ℕ). a < p.sectors) at (λ a k. of_sectors p plan groups are x.0 a (at, x.1, k)); ascend = e.4.ascend }

pub front : (p : PlanParts) (g : MapOfGroups) (cs : List Labelled) → IsMapOfGroups p g → IsPlan g.plan → AreTriangles g.faces.mesh.points (map (λ (l : Labelled). l.triangle) cs) → length cs ≤ length g.faces.mesh.triangles → cs ≡ labelled_of g.faces.mesh.triangles g.faces.labels
    → AreInCertificateOrder (sizes_of_plan p) g.groups cs
front p g cs h plan ascend few is =
    let twice = few_in_plan g.plan plan h.faces.sound.ends g.faces.mesh.triangles h.faces.mesh in
    let points : length g.plan.points ≡ length p.points = ap (λ (ps : List Pt). length ps) h.points in
    record {
      few_groups = h.few;
      groups_are = all_of (IsGroupInOrder p.sectors) g.groups (group_in_order p h.plan g.groups h.groups);
      groups_ascend = h.groups.ascend;
      few = twice_fits (length p.points) (length cs) h.plan.few_points (omega (arith, few, twice, points));
      triangles_are = subst (λ (n : ℕ). AreTriangles n (map (λ (l : Labelled). l.triangle) cs)) (h.faces.points ∙ points) ascend;
      labels = subst (λ (xs : List Labelled). AllByRecursion (λ (l : Labelled). l.sector < length g.groups) xs) (sym is)
          (below (length g.groups) g.faces.mesh.triangles g.faces.labels (λ k a label. subst (λ (n : ℕ). a < n) h.map.sectors (h.faces.sectors k a label)));
    }

-- the map of groups over its labelled triangles
pub over : (p : PlanParts) (g : MapOfGroups) (cs : List Labelled) → IsMapOfGroups p g → IsPlan g.plan → cs ≡ labelled_of g.faces.mesh.triangles g.faces.labels → IsPlanOfGroups p g.groups (triangles_in cs) (labels_in cs) g.plan
over p g cs h plan is = record {
  plan = plan;
  sectors = h.map.sectors;
  lines = lines;
  table = kept_table p h.plan h.closed g.groups h.groups (map_of g.plan) h.map g.faces.mesh.triangles h.faces.mesh g.faces.labels h.faces.labels cs is;
  names = kept_names p h.plan h.closed g.groups h.groups (map_of g.plan) h.map g.faces.mesh.triangles h.faces.mesh g.faces.labels h.faces.labels cs is;
  audited = h.faces.sound.ends;
  good = subst (λ (xs : List Labelled). IsGoodMesh (map_of g.plan) (triangles_in xs) (labels_in xs)) (sym is) (labelled_are_good (map_of g.plan) g.faces.mesh.triangles g.faces.labels h.faces.good);
}
  where
    lines : length g.plan.lines ≡ length p.lines
    lines =
        sym (length-map g.plan.lines _)
        ∙ (sym (length-map (map_of g.plan).lines unnamed) ∙ (ap (λ (xs : List (Option MapLine)). length xs) h.map.lines ∙ (length-map (map_of p).lines unnamed ∙ length-map p.lines _)))
