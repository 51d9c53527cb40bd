-- What is told over the plan of the version is the answer for the certificate.
use Rattle.std.proofs.Common.{◌≡◌, ℕ, List, Option, Some, None, Result, Ok, Err, refl, sym, ap, subst}
use Rattle.std.specs.Prelude.{IfOk}
use Rattle.std.proofs.lemmas.Option.{none-some, same_Some}
use Rattle.sight_names.specs.declared.faults.CheckFault.{CheckFault}
use Rattle.sight_names.specs.declared.faults.CheckFault.TheVariants.{Mesh, Ray, Tree as OfTree, ListedSet, Unproved, Uncovered}
use Rattle.sight_names.specs.declared.faults.MeshFault.{MeshFault}
use Rattle.sight_names.specs.declared.names.Memory.{Memory}
use Rattle.sight_names.specs.Map.{Map, map_of}
use Rattle.sight_names.specs.Plan.{PlanParts}
use Rattle.mesh_shape.specs.Faults.{IsFirstFault}
use Rattle.mesh_shape.specs.Shape.{MeshParts}
use Rattle.cert_format.specs.declared.cert.Labelled.{Labelled}
use Rattle.cert_format.specs.Parts.{CertParts}
use Rattle.cert_format.specs.declared.cert_groups.cert.AnyCert.{AnyCert}
use Rattle.cert_format.specs.declared.cert_groups.cert.AnyCert.TheVariants.{One, Two}
use Rattle.cert_format.specs.declared.cert_groups.cert.CertTwo.{CertTwo}
use Rattle.reject_bits.specs.Parts.{TableParts}
use Rattle.cert_checker.specs.declared.tree_judge.judge.Reach.{Reach}
use Rattle.cert_checker.specs.declared.verdict.Verdict.{Verdict}
use Rattle.cert_checker.specs.declared.verdict.Verdict.TheVariants.{Yes, No}
use Rattle.cert_checker.specs.Apart.{triangles_in, labels_in}
use Rattle.cert_checker.specs.Judged.{IsLaterVerdict, IsPairVerdict, JudgesRays, JudgesTrees}
use Rattle.group_checker.specs.declared.grouping.MeshVerdict.TheVariants.{Broken}
use Rattle.group_checker.specs.declared.verdict.AnyFault.{AnyFault}
use Rattle.group_checker.specs.declared.verdict.AnyFault.TheVariants.{Check}
use Rattle.group_checker.specs.Grouping.{HasGrouping, IsGroupedMesh, TellsGrouping}
use Rattle.group_checker.specs.Judged.{any_of, JudgesAny}
use Rattle.group_checker.proofs.Ending.{grouped_judged}
use Rattle.cert_judge.specs.OnGround.{HasTriangles, IsFaultOfMesh, IsListingGroundOf}
use Rattle.cert_judge.specs.Version.{Groups, core_of, TellsPairsAny}
use Rattle.cert_judge.specs.Whole.{HasReached, IsEarlyFault, IsFirstEarly}
use Rattle.cert_checker.proofs.Judging.{later_at_pairs as pair_later}

-- ---- version 1

module _ (p : PlanParts) (ls : List Labelled) where
  pub plain_fault : (f : MeshFault) → IsFirstFault (map_of p) (triangles_in ls) (labels_in ls) f → IsFaultOfMesh p None ls (Check (Mesh f))
  plain_fault f first t (One c) has = record {
    verdict = No (Mesh f);
    is = refl;
    mesh = subst (λ (xs : List Labelled). IsFirstFault (map_of p) (triangles_in xs) (labels_in xs) f) (sym has.triangles) first;
    rays = tt;
    trees = tt;
    pairs = tt;
  }
  plain_fault f first t (Two c sizes) has = absurd (none-some c.groups (sym has.groups_are))

-- ---- version 2

has_grouping : (c : CertTwo) (groups : List (List ℕ)) (ls : List Labelled) → c.cert.triangles ≡ ls → c.groups ≡ groups → HasGrouping c (triangles_in ls) (labels_in ls) groups
has_grouping c groups ls e g = record { triangles = ap triangles_in e; labels = ap labels_in e; lists = g }

module _ (p : PlanParts) (groups : List (List ℕ)) (ls : List Labelled) where
  pub grouped_ground : (over : PlanParts) → IsGroupedMesh p (triangles_in ls) (labels_in ls) groups over → IsListingGroundOf p over (Some groups) ls
  grouped_ground over w t (One c) v has later rays trees pairs = absurd (none-some groups has.groups_are)
  grouped_ground over w t (Two c sizes) v has later rays trees pairs =
      grouped_judged p t c (triangles_in ls) (labels_in ls) groups over w (has_grouping c groups ls has.triangles (same_Some c.groups groups has.groups_are)) v later rays trees pairs

  pub grouped_fault : (f : AnyFault) → TellsGrouping p (triangles_in ls) (labels_in ls) groups (Broken f) → IsFaultOfMesh p (Some groups) ls f
  grouped_fault f told t (One c) has = absurd (none-some groups has.groups_are)
  grouped_fault f told t (Two c sizes) has = told t c (has_grouping c groups ls has.triangles (same_Some c.groups groups has.groups_are))

-- ---- the answer, in version 1 or 2

early_later : (f : CheckFault) → IsEarlyFault f → IsLaterVerdict (No f)
early_later (Mesh f) k = absurd k
early_later (Ray a b why) k = tt
early_later (OfTree s n) k = tt
early_later (ListedSet a b) k = absurd k
early_later (Unproved a b) k = absurd k
early_later (Uncovered a b) k = absurd k

early_pairs : (m : Map) (t : TableParts) (c : AnyCert) (f : CheckFault) → IsEarlyFault f → TellsPairsAny m t c (No f)
early_pairs m t c (Mesh f) k = absurd k
early_pairs m t (One c) (Ray a b why) k = tt
early_pairs m t (Two c sizes) (Ray a b why) k = tt
early_pairs m t (One c) (OfTree s n) k = tt
early_pairs m t (Two c sizes) (OfTree s n) k = tt
early_pairs m t c (ListedSet a b) k = absurd k
early_pairs m t c (Unproved a b) k = absurd k
early_pairs m t c (Uncovered a b) k = absurd k

module _ (m : Map) (c : CertParts) (reach : Reach) (w : HasReached m c reach) where
  pair_rays : (v : Verdict) → IsPairVerdict v → JudgesRays m c v
  pair_rays (Yes totals) k = w.rays
  pair_rays (No (Mesh f)) k = absurd k
  pair_rays (No (Ray a b why)) k = absurd k
  pair_rays (No (OfTree s n)) k = w.rays
  pair_rays (No (ListedSet a b)) k = w.rays
  pair_rays (No (Unproved a b)) k = w.rays
  pair_rays (No (Uncovered a b)) k = w.rays

  pair_trees : (v : Verdict) → IsPairVerdict v → JudgesTrees m c v
  pair_trees (Yes totals) k = w.trees
  pair_trees (No (Mesh f)) k = absurd k
  pair_trees (No (Ray a b why)) k = absurd k
  pair_trees (No (OfTree s n)) k = absurd k
  pair_trees (No (ListedSet a b)) k = w.trees
  pair_trees (No (Unproved a b)) k = w.trees
  pair_trees (No (Uncovered a b)) k = w.trees

module _ (p over : PlanParts) (groups : Groups) (ls : List Labelled) (right : IsListingGroundOf p over groups ls) (t : TableParts) (c : AnyCert) (has : HasTriangles c groups ls) where
  pub early_judged : (f : CheckFault) → IsFirstEarly (map_of over) (core_of c) f → JudgesAny p t c (any_of (No f))
  early_judged f w = right t c (No f) has (early_later f w.kind) w.rays w.trees (early_pairs (map_of over) t c f w.kind)

  pub pairs_judged : (v : Verdict) (reach : Reach) → HasReached (map_of over) (core_of c) reach → IsPairVerdict v → TellsPairsAny (map_of over) t c v → JudgesAny p t c (any_of v)
  pairs_judged v reach w kind pairs = right t c v has (pair_later v kind) (pair_rays (map_of over) (core_of c) reach w v kind) (pair_trees (map_of over) (core_of c) reach w v kind) pairs

  pub pairs_told : (reach : Reach) → HasReached (map_of over) (core_of c) reach → (q : PlanParts) → q ≡ over → (r : Result Verdict Memory) → IfOk r IsPairVerdict → IfOk r (TellsPairsAny (map_of q) t c) → IfOk r (λ v. JudgesAny p t c (any_of v))
  pairs_told reach w q same (Ok v) kind pairs = pairs_judged v reach w kind (subst (λ (x : PlanParts). TellsPairsAny (map_of x) t c v) same pairs)
  pairs_told reach w q same (Err e) kind pairs = tt

-- what the first wrong rule is of a mesh and its labels, it is of the triangles that these are made of
pub first_of_labelled : (p : PlanParts) (ls : List Labelled) (mesh : MeshParts) (points : ℕ) (labels : List (Option ℕ)) (f : MeshFault) → mesh ≡ record { points = points; triangles = triangles_in ls } → labels ≡ labels_in ls → IsFirstFault (map_of p) mesh.triangles labels f → IsFirstFault (map_of p) (triangles_in ls) (labels_in ls) f
first_of_labelled p ls mesh points labels f e l h = subst (λ (x : MeshParts). IsFirstFault (map_of p) x.triangles (labels_in ls) f) e (subst (λ (xs : List (Option ℕ)). IsFirstFault (map_of p) mesh.triangles xs f) l h)
