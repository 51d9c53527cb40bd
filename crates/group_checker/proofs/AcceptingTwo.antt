-- The answer is yes exactly where the certificate of version 2 is accepted.
use Rattle.std.proofs.Common.{◌≡◌, ℕ, ◌<◌, ◌↔◌, List, [], Some, get_or, length, refl, sym, ◌∙◌, ap, subst, arith}
use Rattle.std.specs.List.{slice_get}
use Rattle.std.proofs.lemmas.Option.{slice_get-get_or, slice_get_within, same_Some}
use Rattle.sight_names.specs.declared.faults.CheckFault.{CheckFault}
use Rattle.sight_names.specs.declared.faults.CheckFault.TheVariants.{Mesh, Ray, Tree as OfTree, ListedSet, Unproved, Uncovered}
use Rattle.sight_names.specs.declared.faults.MeshFault.{MeshFault}
use Rattle.sight_names.specs.declared.faults.MeshFault.TheVariants.{Flat, Twice, NoMate, NoTriangle, Meets, Inside}
use Rattle.sight_names.specs.Plan.{PlanParts, IsPlan}
use Rattle.sight_names.specs.Groups.{IsInGroup}
use Rattle.sight_names.specs.Map.{Map, map_of}
use Rattle.sight_names.specs.Mesh.{label_of, IsGoodMesh}
use Rattle.mesh_base.proofs.PlanFacts.{plan_facts}
use Rattle.mesh_shape.specs.Faults.{IsFirstFault}
use Rattle.reject_bits.specs.Parts.{TableParts}
use Rattle.cert_format.specs.Accepted.{triangles_of, labels_of}
use Rattle.cert_format.specs.declared.cert_groups.cert.CertTwo.{CertTwo}
use Rattle.cert_format.specs.CertGroups.Grammar.{IsGroupInOrder}
use Rattle.face_groups.specs.GroupsBase.Named.{AreNamedAt}
use Rattle.face_groups.specs.GroupsBase.Table.{IsTableFor, IsNamedByTable}
use Rattle.face_groups.proofs.GroupsBase.CheckedGroups.{table_is_good}
use Rattle.face_groups.proofs.GroupsBase.SamePoints.{plain_alike, no_line_edge}
use Rattle.face_groups.proofs.TriSectors.GoodLabels.{label_within}
use Rattle.cert_checker.specs.AcceptedGroups.Accepted.{IsAcceptedOver, IsAcceptedTwo}
use Rattle.cert_checker.specs.declared.verdict.Totals.{Totals}
use Rattle.cert_checker.specs.declared.verdict.Verdict.TheVariants.{No as NoOne}
use Rattle.cert_checker.specs.Judged.{IsLaterVerdict}
use Rattle.cert_checker.proofs.Accepting.{broken_rule, no_on, yes_on}
use Rattle.group_checker.specs.declared.verdict.AnyFault.{AnyFault}
use Rattle.group_checker.specs.declared.verdict.AnyFault.TheVariants.{Check, Group, Unused}
use Rattle.group_checker.specs.declared.verdict.AnyVerdict.{AnyVerdict}
use Rattle.group_checker.specs.declared.verdict.AnyVerdict.TheVariants.{Yes, No}
use Rattle.group_checker.specs.Meshes.{grouped_map, IsFirstMeshFault}
use Rattle.group_checker.specs.Judged.{IsTwoFor, IsYesAny, JudgesTwo, TellsGroups, TellsMesh}
use Rattle.cert_checker.proofs.Lists.{each_at}
use Rattle.group_checker.proofs.OneMap.{one_label_each, has_label, names_grouped, one_map}

module _ (p : PlanParts) (is : IsPlan p) (c : CertTwo) (two : IsTwoFor p c) where
  -- mesh and groups are right, and so the groups are the lists of the faces
  pub table_for : (totals : Totals) → TellsMesh (map_of p) (grouped_map p c) c (Yes totals) → TellsGroups (map_of p) c (Yes totals) → IsTableFor (map_of p) (triangles_of c.cert) c.groups (labels_of c.cert)
  table_for totals mesh groups =
      let g = grouped_map p c in
      let names = names_grouped p is c in
      let good = mesh.1 in record {
        plain = plain_alike g (map_of p) (sym names.lines) (triangles_of c.cert) good.plain;
        one_each = one_label_each c;
        mates = λ k a u e at label has none. good.mates k a u e at label has (no_line_edge g (map_of p) (sym names.lines) e none);
        sides = λ s l a at named. mesh.0 s l a at named;
        each = λ k lt. each k lt;
        ascend = two.in_order.groups_ascend;
        used = λ f at there. (
          (each_at (IsGroupInOrder two.sizes.sectors) c.groups f at two.in_order.groups there).some,
          let u = groups.1 f (slice_get_within c.groups f at there) in let n = one_label_each c in let l = u.1 in (u.0, omega (arith, l, n), u.2),
        );
      }
    where
      each : (k : ℕ) → k < length (triangles_of c.cert) → IsNamedByTable (map_of p) (triangles_of c.cert) c.groups (labels_of c.cert) k
      each k lt =
          let w = has_label p c two k lt in
          let there = slice_get-get_or c.groups w.0 [] w.2 in record { f = w.0; at = get_or c.groups w.0 []; label = w.1; there = there; named = groups.0 k w.0 (get_or c.groups w.0 []) w.1 there }

-- ---- where the groups are those lists, no fault of mesh or groups is one

module _ (p : PlanParts) (is : IsPlan p) (c : CertTwo) (table : IsTableFor (map_of p) (triangles_of c.cert) c.groups (labels_of c.cert)) where
  good : IsGoodMesh (grouped_map p c) (triangles_of c.cert) (labels_of c.cert)
  good = table_is_good (map_of p) (plan_facts p is) (triangles_of c.cert) c.groups (labels_of c.cert) table (grouped_map p c) (names_grouped p is c)

  no_rule_broken : (f : MeshFault) → IsFirstFault (grouped_map p c) (triangles_of c.cert) (labels_of c.cert) f → ⊥
  no_rule_broken f h = broken_rule (grouped_map p c) (record { n = (grouped_map p c).sectors; bytes = [] }) c.cert refl (triangles_of c.cert) (labels_of c.cert) f good h

  pub no_mesh_fault : (f : MeshFault) → IsFirstMeshFault (map_of p) (grouped_map p c) (triangles_of c.cert) (labels_of c.cert) f → ⊥
  no_mesh_fault (Flat k) h = no_rule_broken (Flat k) h
  no_mesh_fault (Twice k) h = no_rule_broken (Twice k) h
  no_mesh_fault (NoMate k) h = no_rule_broken (NoMate k) h
  no_mesh_fault (NoTriangle s) h = h.3.against (λ l a at named. table.sides s l a at named)
  no_mesh_fault (Meets k i) h = no_rule_broken (Meets k i) h.1
  no_mesh_fault (Inside k i) h = no_rule_broken (Inside k i) h.1

  pub named_right : (k f : ℕ) (at : List ℕ) → label_of (labels_of c.cert) k ≡ Some f → slice_get c.groups f ≡ Some at → AreNamedAt (map_of p) (triangles_of c.cert) k at
  named_right k f at label there =
      let n = one_label_each c in
      let lt = label_within (labels_of c.cert) k f label in
      let x = table.each k (omega (arith, lt, n)) in
      let same : x.f ≡ f = same_Some x.f f (sym x.label ∙ label) in
      subst (AreNamedAt (map_of p) (triangles_of c.cert) k) (same_Some x.at at (sym x.there ∙ ap (slice_get c.groups) same ∙ there)) x.named

  pub is_used : (f : ℕ) → f < length c.groups → (k : ℕ) × (k < length (labels_of c.cert)) × (label_of (labels_of c.cert) k ≡ Some f)
  is_used f lt = let u = (table.used f (get_or c.groups f []) (slice_get-get_or c.groups f [] lt)).1 in let n = one_label_each c in let l = u.1 in (u.0, omega (arith, l, n), u.2)

module _ (p : PlanParts) (is : IsPlan p) (t : TableParts) (c : CertTwo) (size : t.n ≡ p.sectors) (two : IsTwoFor p c) where
  -- ---- yes

  yes_accepted : (totals : Totals) → JudgesTwo p t c (Yes totals) → IsAcceptedTwo (map_of p) t.bytes c
  yes_accepted totals h = (
    grouped_map p c,
    names_grouped p is c,
    record { table_for = table_for p is c two totals h.mesh h.groups; on = yes_on (grouped_map p c) (IsInGroup c.groups) p.sectors t c.listed c.cert size totals h.rays h.trees h.pairs },
  )

  -- ---- no

  over_it : IsAcceptedTwo (map_of p) t.bytes c → IsAcceptedOver (map_of p) t.bytes c (grouped_map p c)
  over_it a = subst (λ (g : Map). IsAcceptedOver (map_of p) t.bytes c g) (one_map (map_of p) (plan_facts p is) (triangles_of c.cert) c.groups (labels_of c.cert) a.2.table_for a.0 (grouped_map p c) a.1 (names_grouped p is c)) a.2

  module _ (all : IsAcceptedOver (map_of p) t.bytes c (grouped_map p c)) where
    refused_on : (f : CheckFault) → IsLaterVerdict (NoOne f) → JudgesTwo p t c (No (Check f)) → ⊥
    refused_on f later h = no_on (grouped_map p c) (IsInGroup c.groups) p.sectors t c.listed c.cert size f later h.rays h.trees h.pairs all.on

    refused : (f : AnyFault) → JudgesTwo p t c (No f) → ⊥
    refused (Group k) h = h.groups.against (named_right p is c all.table_for k)
    refused (Unused f) h = h.groups.1.against (is_used p is c all.table_for f)
    refused (Check (Mesh f)) h = no_mesh_fault p is c all.table_for f h.mesh
    refused (Check (Ray a b why)) h = refused_on (Ray a b why) tt h
    refused (Check (OfTree s n)) h = refused_on (OfTree s n) tt h
    refused (Check (ListedSet a b)) h = refused_on (ListedSet a b) tt h
    refused (Check (Unproved a b)) h = refused_on (Unproved a b) tt h
    refused (Check (Uncovered a b)) h = refused_on (Uncovered a b) tt h

  pub yes_exactly_two : (v : AnyVerdict) → JudgesTwo p t c v → IsYesAny v ↔ IsAcceptedTwo (map_of p) t.bytes c
  yes_exactly_two (Yes totals) h = (λ y. yes_accepted totals h, λ a. tt)
  yes_exactly_two (No f) h = (λ y. absurd y, λ a. absurd (refused (over_it a) f h))
