-- The answer at each end, by what is known there.
use Rattle.std.proofs.Common.{◌≡◌, ℕ, List, Option, Some, None, length, refl, sym, ap, subst}
use Rattle.std.specs.Prelude.{IfOk, Result}
use Rattle.sight_names.specs.declared.names.Memory.{Memory}
use Rattle.sight_names.specs.declared.names.Side.{Side}
use Rattle.sight_names.specs.declared.names.Triangle.{Triangle}
use Rattle.sight_names.specs.declared.faults.CheckFault.TheVariants.{Mesh, Ray, Tree as OfTree, ListedSet, Unproved, Uncovered}
use Rattle.sight_names.specs.declared.faults.MeshFault.{MeshFault}
use Rattle.sight_names.specs.Plan.{PlanParts, IsPlan}
use Rattle.sight_names.specs.Map.{map_of}
use Rattle.sight_names.specs.Mesh.{IsGoodMesh, IsPlainMesh, side_edge}
use Rattle.sight_names.proofs.Portals.{triangle_within}
use Rattle.mesh_shape.specs.Faults.{IsFirstAgainst, IsFirstSideAgainst, IsFirstFault}
use Rattle.mesh_shape.specs.Search.{IsSideSearch}
use Rattle.mesh_shape.specs.Shape.{MeshParts}
use Rattle.reject_bits.specs.Parts.{TableParts}
use Rattle.cert_format.specs.declared.cert.Labelled.{Labelled}
use Rattle.cert_format.specs.Accepted.{triangles_of, labels_of}
use Rattle.cert_format.specs.declared.cert_groups.cert.CertTwo.{CertTwo}
use Rattle.face_groups.specs.GroupsBase.Table.{NamedAreLabelled, NamesTheLabels}
use Rattle.face_groups.proofs.GroupsBase.SamePoints.{plain_alike}
use Rattle.face_groups.specs.Regrouped.{regrouped_plan}
use Rattle.face_groups.proofs.RegroupedPlan.{names_the_labels}
use Rattle.cert_checker.specs.Apart.{triangles_in, labels_in}
use Rattle.cert_checker.specs.declared.verdict.Verdict.{Verdict}
use Rattle.cert_checker.specs.declared.verdict.Verdict.TheVariants.{Yes as YesOne, No as NoOne}
use Rattle.cert_checker.specs.Judged.{IsLaterVerdict, JudgesRays, JudgesTrees}
use Rattle.group_checker.specs.declared.grouping.MeshVerdict.{MeshVerdict}
use Rattle.group_checker.specs.declared.grouping.MeshVerdict.TheVariants.{Broken}
use Rattle.group_checker.specs.declared.verdict.AnyFault.{AnyFault}
use Rattle.group_checker.specs.declared.verdict.AnyFault.TheVariants.{Check, Group, Unused}
use Rattle.group_checker.specs.Grouping.{HasGrouping, IsGroupedMesh, TellsGrouping}
use Rattle.group_checker.specs.Lists.{AreGroupLabels, IsFirstListFault, IsListRight, IsUsedGroup}
use Rattle.group_checker.specs.Meshes.{HasTriangleAt, IsFirstMeshFault}
use Rattle.group_checker.specs.Judged.{any_of, JudgesTwo, TellsPairsOfTwo}
use Rattle.group_checker.proofs.Meshed.{fault_moved, fault_over}

-- ---- the lists of a certificate

-- what holds of triangles, labels and groups holds of those of a certificate that has them
own : (c : CertTwo) (ts : List Triangle) (ls : List (Option ℕ)) (groups : List (List ℕ)) → HasGrouping c ts ls groups → (P : List Triangle → List (Option ℕ) → List (List ℕ) → Type 0) → P ts ls groups → P (triangles_of c.cert) (labels_of c.cert) c.groups
own c ts ls groups has P h =
    subst (λ (gs : List (List ℕ)). P (triangles_of c.cert) (labels_of c.cert) gs) (sym has.lists)
    (subst (λ (xs : List (Option ℕ)). P (triangles_of c.cert) xs groups) (sym has.labels) (subst (λ (us : List Triangle). P us ls groups) (sym has.triangles) h))

own_grouping : (c : CertTwo) (xs : List Labelled) (groups : List (List ℕ)) → xs ≡ c.cert.triangles → groups ≡ c.groups → HasGrouping c (triangles_in xs) (labels_in xs) groups
own_grouping c xs groups e l = record { triangles = ap triangles_in (sym e); labels = ap labels_in (sym e); lists = sym l }

pub own_told : (p : PlanParts) (c : CertTwo) (xs : List Labelled) (groups : List (List ℕ)) (r v : MeshVerdict) → xs ≡ c.cert.triangles → groups ≡ c.groups → r ≡ v → TellsGrouping p (triangles_in xs) (labels_in xs) groups r → TellsGrouping p (triangles_of c.cert) (labels_of c.cert) c.groups v
own_told p c xs groups r v e l is h = subst (TellsGrouping p (triangles_of c.cert) (labels_of c.cert) c.groups) is (own c (triangles_in xs) (labels_in xs) groups (own_grouping c xs groups e l) (λ us ys gs. TellsGrouping p us ys gs r) h)

pub its_own : (c : CertTwo) → HasGrouping c (triangles_of c.cert) (labels_of c.cert) c.groups
its_own c = record { triangles = refl; labels = refl; lists = refl }

-- what is told by the mesh and the labels that are made of them is told of the triangles
pub grouping_moved : (p : PlanParts) (groups : List (List ℕ)) (mesh : MeshParts) (points : ℕ) (ts : List Triangle) (ls xs : List (Option ℕ)) (r : Result MeshVerdict Memory) → mesh ≡ record { points = points; triangles = ts } → xs ≡ ls
    → IfOk r (TellsGrouping p mesh.triangles xs groups) → IfOk r (TellsGrouping p ts ls groups)
grouping_moved p groups mesh points ts ls xs r e l h = subst (λ (ys : List (Option ℕ)). IfOk r (TellsGrouping p ts ys groups)) l (subst (λ (x : MeshParts). IfOk r (TellsGrouping p x.triangles xs groups)) e h)

pub labels_moved : (n : ℕ) (mesh : MeshParts) (points : ℕ) (ts : List Triangle) (ls xs : List (Option ℕ)) → mesh ≡ record { points = points; triangles = ts } → xs ≡ ls → AreGroupLabels n ts ls → AreGroupLabels n mesh.triangles xs
labels_moved n mesh points ts ls xs e l h = subst (λ (x : MeshParts). AreGroupLabels n x.triangles xs) (sym e) (subst (AreGroupLabels n ts) (sym l) h)

pub found_bare : (P : Side → Type 0) (o : Option Side) (s : Side) → o ≡ Some s → IsSideSearch P o → IsFirstSideAgainst P s
found_bare P o s e h = subst (IsSideSearch P) e h

pub all_sided : (P : Side → Type 0) (o : Option Side) → o ≡ None → IsSideSearch P o → (s : Side) → P s
all_sided P o none h = subst (IsSideSearch P) none h

module _ (p : PlanParts) (is : IsPlan p) (ts : List Triangle) (ls : List (Option ℕ)) (groups : List (List ℕ)) where
  names : NamesTheLabels (map_of p) ts groups ls (map_of (regrouped_plan ts ls (length groups) p))
  names = names_the_labels p is ts groups ls

  -- ---- the mesh

  mesh_fault_told : (f : MeshFault) → IsFirstMeshFault (map_of p) (map_of (regrouped_plan ts ls (length groups) p)) ts ls f → TellsGrouping p ts ls groups (Broken (Check (Mesh f)))
  mesh_fault_told f h t c has = record {
    mesh = own c ts ls groups has (λ us xs gs. IsFirstMeshFault (map_of p) (map_of (regrouped_plan us xs (length gs) p)) us xs f) h;
    groups = tt;
    rays = tt;
    trees = tt;
    pairs = tt;
  }

  -- a side has no triangle
  pub bare_told : (s : Side) → IsFirstSideAgainst (HasTriangleAt (map_of p) ts) s → (f : MeshFault) → IsFirstMeshFault (map_of p) (map_of p) ts ls f → TellsGrouping p ts ls groups (Broken (Check (Mesh f)))
  bare_told s bare f h = mesh_fault_told f (fault_moved (map_of p) (map_of (regrouped_plan ts ls (length groups) p)) names.lines ts ls s bare f h)

  module _ (labels : AreGroupLabels (length groups) ts ls) (sides : (s : Side) → HasTriangleAt (map_of p) ts s) where
    pub named_labelled : NamedAreLabelled (map_of p) ts ls
    named_labelled s l a at named =
        let w = sides s l a at named in
        (w.0, w.1, labels.each w.0 (triangle_within ts (side_edge (map_of p) l s.left) w.0 w.1))

    pub fault_told : (grouped : PlanParts) → grouped ≡ regrouped_plan ts ls (length groups) p → (f : MeshFault) → IsFirstFault (map_of grouped) ts ls f → TellsGrouping p ts ls groups (Broken (Check (Mesh f)))
    fault_told grouped e f h = mesh_fault_told f (fault_over (map_of p) ts groups ls (map_of (regrouped_plan ts ls (length groups) p)) names sides f (subst (λ (x : PlanParts). IsFirstFault (map_of x) ts ls f) e h))

  -- ---- the groups

  module _ (grouped : PlanParts) (e : grouped ≡ regrouped_plan ts ls (length groups) p) (good : IsGoodMesh (map_of grouped) ts ls) where
    good_over : IsGoodMesh (map_of (regrouped_plan ts ls (length groups) p)) ts ls
    good_over = subst (λ (x : PlanParts). IsGoodMesh (map_of x) ts ls) e good

    pub plain_is : IsPlainMesh (map_of p) ts
    plain_is = plain_alike (map_of (regrouped_plan ts ls (length groups) p)) (map_of p) (sym names.lines) ts good_over.plain

    pub group_fault_told : ((s : Side) → HasTriangleAt (map_of p) ts s) → (f : AnyFault) → IsFirstListFault (map_of p) ts groups ls (Some f) → TellsGrouping p ts ls groups (Broken f)
    group_fault_told sides (Check f) h = absurd h
    group_fault_told sides (Group k) h = λ t c has. record {
      mesh = own c ts ls groups has (λ us xs gs. ((s : Side) → HasTriangleAt (map_of p) us s) × IsGoodMesh (map_of (regrouped_plan us xs (length gs) p)) us xs) (sides, good_over);
      groups = own c ts ls groups has (λ us xs gs. IsFirstAgainst (IsListRight (map_of p) us gs xs) k) h;
      rays = tt;
      trees = tt;
      pairs = tt;
    }
    group_fault_told sides (Unused f) h = λ t c has. record {
      mesh = own c ts ls groups has (λ us xs gs. ((s : Side) → HasTriangleAt (map_of p) us s) × IsGoodMesh (map_of (regrouped_plan us xs (length gs) p)) us xs) (sides, good_over);
      groups = own c ts ls groups has (λ us xs gs. ((k : ℕ) → IsListRight (map_of p) us gs xs k) × IsFirstAgainst (IsUsedGroup (length gs) xs) f) h;
      rays = tt;
      trees = tt;
      pairs = tt;
    }

-- ---- the rest

later_judged : (p : PlanParts) (t : TableParts) (c : CertTwo) → IsGroupedMesh p (triangles_of c.cert) (labels_of c.cert) c.groups (regrouped_plan (triangles_of c.cert) (labels_of c.cert) (length c.groups) p)
    → (v : Verdict) → IsLaterVerdict v → JudgesRays (map_of (regrouped_plan (triangles_of c.cert) (labels_of c.cert) (length c.groups) p)) c.cert v → JudgesTrees (map_of (regrouped_plan (triangles_of c.cert) (labels_of c.cert) (length c.groups) p)) c.cert v
    → TellsPairsOfTwo (map_of (regrouped_plan (triangles_of c.cert) (labels_of c.cert) (length c.groups) p)) t c v → JudgesTwo p t c (any_of v)
later_judged p t c w (YesOne totals) later rays trees pairs = record { mesh = (w.sides, w.good); groups = (w.lists, w.used); rays = rays; trees = trees; pairs = pairs }
later_judged p t c w (NoOne (Mesh f)) later rays trees pairs = absurd later
later_judged p t c w (NoOne (Ray a b why)) later rays trees pairs = record { mesh = (w.sides, w.good); groups = (w.lists, w.used); rays = rays; trees = trees; pairs = pairs }
later_judged p t c w (NoOne (OfTree s n)) later rays trees pairs = record { mesh = (w.sides, w.good); groups = (w.lists, w.used); rays = rays; trees = trees; pairs = pairs }
later_judged p t c w (NoOne (ListedSet a b)) later rays trees pairs = record { mesh = (w.sides, w.good); groups = (w.lists, w.used); rays = rays; trees = trees; pairs = pairs }
later_judged p t c w (NoOne (Unproved a b)) later rays trees pairs = record { mesh = (w.sides, w.good); groups = (w.lists, w.used); rays = rays; trees = trees; pairs = pairs }
later_judged p t c w (NoOne (Uncovered a b)) later rays trees pairs = record { mesh = (w.sides, w.good); groups = (w.lists, w.used); rays = rays; trees = trees; pairs = pairs }

-- a verdict behind mesh and groups is the answer for a certificate that has these
pub grouped_judged : (p : PlanParts) (t : TableParts) (c : CertTwo) (ts : List Triangle) (ls : List (Option ℕ)) (groups : List (List ℕ)) (grouped : PlanParts) → IsGroupedMesh p ts ls groups grouped → HasGrouping c ts ls groups
    → (v : Verdict) → IsLaterVerdict v → JudgesRays (map_of grouped) c.cert v → JudgesTrees (map_of grouped) c.cert v → TellsPairsOfTwo (map_of grouped) t c v → JudgesTwo p t c (any_of v)
grouped_judged p t c ts ls groups grouped w has v later rays trees pairs =
    let h = own c ts ls groups has (λ us xs gs. IsGroupedMesh p us xs gs grouped) w in
    later_judged p t c (subst (IsGroupedMesh p (triangles_of c.cert) (labels_of c.cert) c.groups) h.grouped_is h) v later
    (subst (λ (x : PlanParts). JudgesRays (map_of x) c.cert v) h.grouped_is rays)
    (subst (λ (x : PlanParts). JudgesTrees (map_of x) c.cert v) h.grouped_is trees)
    (subst (λ (x : PlanParts). TellsPairsOfTwo (map_of x) t c v) h.grouped_is pairs)
