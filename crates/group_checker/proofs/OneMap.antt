-- What the ranges and orders of a certificate of version 2 give, and its one map of groups.
use Rattle.std.proofs.Common.{◌≡◌, ℕ, zero, suc, ◌<◌, ◌≤◌, List, [], ◌∷◌, Option, Some, length, get_or, refl, sym, ◌∙◌, ap, subst, arith, le_of_suc-le-suc}
use Rattle.std.specs.List.{slice_get, All, AllByRecursion}
use Rattle.std.proofs.lemmas.Option.{none-some, same_Some, slice_get-get_or}
use Rattle.math_base.proofs.Lists.{all_at, all_of}
use Rattle.sight_names.specs.declared.limits.TheConstants.{MOST_TRIANGLES}
use Rattle.sight_names.specs.declared.names.Triangle.{Triangle}
use Rattle.sight_names.specs.Plan.{PlanParts, IsPlan}
use Rattle.sight_names.specs.Map.{Map, map_of}
use Rattle.sight_names.specs.Mesh.{AreTriangles, label_of, side_edge}
use Rattle.sight_names.proofs.Portals.{triangle_within}
use Rattle.mesh_base.proofs.GoodMesh.{PointFacts}
use Rattle.cert_format.specs.declared.cert.Sizes.{Sizes}
use Rattle.cert_format.specs.declared.cert.Labelled.{Labelled}
use Rattle.cert_format.specs.Accepted.{triangles_of, labels_of}
use Rattle.cert_format.proofs.LimitLaws.{few_of}
use Rattle.cert_format.specs.declared.cert_groups.cert.CertTwo.{CertTwo}
use Rattle.face_groups.specs.GroupsBase.Table.{IsTableFor, NamesTheLabels, NamedAreLabelled}
use Rattle.face_groups.proofs.GroupsBase.CheckedGroups.{table_has_groups, table_has_grouped}
use Rattle.face_groups.proofs.GroupsBase.FacesExist.{ground_exists}
use Rattle.face_groups.proofs.GroupsBase.GroupLaws.{HasLists}
use Rattle.face_groups.proofs.GroupsBase.GroupTable.{sealed_by_mates}
use Rattle.face_groups.proofs.GroupsBase.NamedLists.{lists_exist}
use Rattle.face_groups.proofs.GroupsBase.OneGrouped.{one_grouped}
use Rattle.face_groups.proofs.RegroupedPlan.{names_the_labels}
use Rattle.cert_checker.specs.Apart.{triangles_in, labels_in}
use Rattle.group_checker.specs.Lists.{AreGroupLabels}
use Rattle.group_checker.specs.Meshes.{grouped_map}
use Rattle.group_checker.specs.Judged.{IsTwoFor}

-- ---- lists

has_label_in : (xs : List Labelled) (k : ℕ) → k < length xs → (f : ℕ) × (label_of (labels_in xs) k ≡ Some f)
has_label_in [] k lt = absurd (omega (arith, lt))
has_label_in (x ∷ xs) zero lt = (x.sector, refl)
has_label_in (x ∷ xs) (suc k) lt = has_label_in xs k (le_of_suc-le-suc lt)

label_below : (n : ℕ) (xs : List Labelled) → AllByRecursion (λ (l : Labelled). l.sector < n) xs → (k f : ℕ) → label_of (labels_in xs) k ≡ Some f → f < n
label_below n [] all k f e = absurd (none-some f e)
label_below n (x ∷ xs) all zero f e = subst (λ (y : ℕ). y < n) (same_Some x.sector f e) all.0
label_below n (x ∷ xs) all (suc k) f e = label_below n xs all.1 k f e

many : (xs : List Labelled) → length (labels_in xs) ≡ length xs
many [] = refl
many (x ∷ xs) = ap suc (many xs)

many_triangles : (xs : List Labelled) → length (triangles_in xs) ≡ length xs
many_triangles [] = refl
many_triangles (x ∷ xs) = ap suc (many_triangles xs)

-- each triangle has a label, one of so many groups
pub labels_are : (n : ℕ) (xs : List Labelled) → AllByRecursion (λ (l : Labelled). l.sector < n) xs → AreGroupLabels n (triangles_in xs) (labels_in xs)
labels_are n xs all = record {
  one_each = many xs ∙ sym (many_triangles xs);
  each = λ k lt. has_label_in xs k (let e = many_triangles xs in omega (arith, lt, e));
  below = label_below n xs all;
}

pub labels_below : (n : ℕ) (xs : List Labelled) → All (λ (l : Labelled). l.sector < n) xs → AreGroupLabels n (triangles_in xs) (labels_in xs)
labels_below n xs all = labels_are n xs (all_of (λ (l : Labelled). l.sector < n) xs (λ x there. subst (λ (l : Labelled). l.sector < n) there.2 (all there.0 x there.1)))

-- ---- of the certificate

pub one_label_each : (c : CertTwo) → length (labels_of c.cert) ≡ length (triangles_of c.cert)
one_label_each c = many c.cert.triangles ∙ sym (many_triangles c.cert.triangles)

sectors_are : (p : PlanParts) (c : CertTwo) → IsTwoFor p c → AllByRecursion (λ (l : Labelled). l.sector < length c.groups) c.cert.triangles
sectors_are p c two = subst (λ (n : ℕ). AllByRecursion (λ (l : Labelled). l.sector < n) c.cert.triangles) (ap (λ (s : Sizes). s.sectors) two.in_order.grouped) two.in_order.in_order.sectors

pub sectors_below : (p : PlanParts) (c : CertTwo) → IsTwoFor p c → (n : ℕ) → n ≡ length c.groups → (xs : List Labelled) → xs ≡ c.cert.triangles → All (λ (l : Labelled). l.sector < n) xs
sectors_below p c two n e xs same k x lt =
    let l = slice_get-get_or xs k x lt in
    subst (λ (j : ℕ). (get_or xs k x).sector < j) (sym e) (all_at (λ (l : Labelled). l.sector < length c.groups) c.cert.triangles (sectors_are p c two) k (get_or xs k x) (subst (λ (ys : List Labelled). slice_get ys k ≡ Some (get_or xs k x)) same l))

pub triangles_between : (p : PlanParts) (c : CertTwo) → IsTwoFor p c → (xs : List Labelled) → xs ≡ c.cert.triangles → AreTriangles (length p.points) (triangles_in xs)
triangles_between p c two xs same =
    subst (λ (n : ℕ). AreTriangles n (triangles_in xs)) (ap (λ (s : Sizes). s.points) two.in_order.grouped ∙ two.points)
    (subst (λ (ls : List Labelled). AreTriangles c.cert.sizes.points (triangles_in ls)) (sym same) two.in_order.in_order.triangles)

pub few_triangles : (p : PlanParts) (c : CertTwo) → IsTwoFor p c → (xs : List Labelled) → xs ≡ c.cert.triangles → length xs ≤ MOST_TRIANGLES
few_triangles p c two xs same =
    subst (λ (ls : List Labelled). length ls ≤ MOST_TRIANGLES) (sym same) (few_of c.cert.sizes.points (length c.cert.triangles) two.in_order.in_order.few)

pub few_groups : (p : PlanParts) (c : CertTwo) → IsTwoFor p c → (groups : List (List ℕ)) → groups ≡ c.groups → length groups ≤ MOST_TRIANGLES
few_groups p c two groups same = subst (λ (gs : List (List ℕ)). length gs ≤ MOST_TRIANGLES) (sym same) (few_of two.sizes.points (length c.groups) two.in_order.few)

pub labels_two : (p : PlanParts) (c : CertTwo) → IsTwoFor p c → AreGroupLabels (length c.groups) (triangles_of c.cert) (labels_of c.cert)
labels_two p c two = labels_are (length c.groups) c.cert.triangles (sectors_are p c two)

pub has_label : (p : PlanParts) (c : CertTwo) → IsTwoFor p c → (k : ℕ) → k < length (triangles_of c.cert) → (f : ℕ) × (label_of (labels_of c.cert) k ≡ Some f) × (f < length c.groups)
has_label p c two k lt = let labels = labels_two p c two in let w = labels.each k lt in (w.0, w.1, labels.below k w.0 w.1)

pub names_grouped : (p : PlanParts) → IsPlan p → (c : CertTwo) → NamesTheLabels (map_of p) (triangles_of c.cert) c.groups (labels_of c.cert) (grouped_map p c)
names_grouped p is c = names_the_labels p is (triangles_of c.cert) c.groups (labels_of c.cert)

-- ---- one map of groups

module _ (m : Map) (facts : PointFacts m) (ts : List Triangle) (groups : List (List ℕ)) (ls : List (Option ℕ)) (table : IsTableFor m ts groups ls) where
  has_lists : HasLists m
  has_lists =
      let g = ground_exists m ts facts table.plain in
      let sides : NamedAreLabelled m ts ls = λ s l a is names. let r = table.sides s l a is names in (r.0, r.1, let x = table.each r.0 (triangle_within ts (side_edge m l s.left) r.0 r.1) in (x.f, x.label)) in
      lists_exist m ts g.0 g.1 g.2 (sealed_by_mates m ts g.0 g.1 g.2 ls table.mates sides)

  pub one_map : (g h : Map) → NamesTheLabels m ts groups ls g → NamesTheLabels m ts groups ls h → g ≡ h
  one_map g h a b = one_grouped m groups (table_has_groups m facts ts groups ls table) has_lists g h (table_has_grouped m facts ts groups ls table g a) (table_has_grouped m facts ts groups ls table h b)
