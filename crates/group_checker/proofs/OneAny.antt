-- The checker has one answer for a certificate of version 2: two that meet what is promised over one map of groups are equal.
use Rattle.std.proofs.Common.{◌≡◌, ℕ, ◌<◌, ◌⊎◌, inl, inr, List, [], Option, length, refl, sym, ◌∙◌, ap, subst, arith, lit<}
use Rattle.std.proofs.lemmas.Option.{slice_get_within}
use Rattle.sight_names.specs.declared.names.Side.{Side}
use Rattle.sight_names.specs.declared.names.Triangle.{Triangle}
use Rattle.sight_names.specs.declared.faults.CheckFault.{CheckFault}
use Rattle.sight_names.specs.declared.faults.CheckFault.TheVariants.{Mesh, Ray, Tree as OfTree, ListedSet, Unproved, Uncovered}
use Rattle.sight_names.specs.declared.faults.MeshFault.{MeshFault}
use Rattle.sight_names.specs.declared.faults.MeshFault.TheVariants.{Flat, Twice, NoMate, NoTriangle, Meets, Inside}
use Rattle.sight_names.specs.Groups.{IsInGroup}
use Rattle.sight_names.specs.Map.{Map}
use Rattle.sight_names.specs.Mesh.{IsGoodMesh}
use Rattle.mesh_shape.specs.Faults.{IsFirstFault}
use Rattle.reject_bits.specs.Parts.{TableParts}
use Rattle.cert_format.specs.Accepted.{triangles_of, labels_of}
use Rattle.cert_format.specs.declared.cert_groups.cert.CertTwo.{CertTwo}
use Rattle.cert_checker.specs.TreeJudge.Trees.{AreTreesWhole}
use Rattle.cert_checker.proofs.TreeJudge.OneTree.{one_wrong_tree}
use Rattle.cert_checker.specs.Rays.{AreSightRaysBelow}
use Rattle.cert_checker.specs.Judged.{JudgesRays, JudgesTrees}
use Rattle.cert_checker.proofs.Accepting.{broken_rule, member_at, wrong_ray}
use Rattle.cert_checker.proofs.OneVerdict.{listed_wrong, one_first, one_side, one_mesh_fault, one_pair_fault, one_ray_fault, one_totals, uncovered_wrong, unproved_wrong, wrong_with_right}
use Rattle.group_checker.specs.declared.verdict.AnyFault.{AnyFault}
use Rattle.group_checker.specs.declared.verdict.AnyFault.TheVariants.{Check, Group, Unused}
use Rattle.group_checker.specs.declared.verdict.AnyVerdict.{AnyVerdict}
use Rattle.group_checker.specs.declared.verdict.AnyVerdict.TheVariants.{Yes, No}
use Rattle.group_checker.specs.Judged.{InWordsOfOne, TellsGroups, TellsMesh, TellsPairsOfTwo}
use Rattle.group_checker.specs.Lists.{IsListRight, IsUsedGroup}
use Rattle.group_checker.specs.Meshes.{HasTriangleAt, IsFirstMeshFault}
use Rattle.math_base.proofs.Numbers.{below_same_or_above}

-- ---- the mesh

-- it isn't the rule on sides
abbrev IsOther : MeshFault → Type 0
IsOther (NoTriangle s) = ⊥
IsOther f = Unit {0}

side_or_other : (f : MeshFault) → ((s : Side) × (f ≡ NoTriangle s)) ⊎ IsOther f
side_or_other (NoTriangle s) = inl (s, refl)
side_or_other (Flat k) = inr tt
side_or_other (Twice k) = inr tt
side_or_other (NoMate k) = inr tt
side_or_other (Meets k i) = inr tt
side_or_other (Inside k p) = inr tt

module _ (m g : Map) (ts : List Triangle) (ls : List (Option ℕ)) where
  other_fault : (f : MeshFault) → IsOther f → IsFirstMeshFault m g ts ls f → IsFirstFault g ts ls f
  other_fault (Flat k) o h = h
  other_fault (Twice k) o h = h
  other_fault (NoMate k) o h = h
  other_fault (NoTriangle s) o h = absurd o
  other_fault (Meets k i) o h = h.1
  other_fault (Inside k p) o h = h.1

  side_with_other : (s : Side) (f : MeshFault) → IsOther f → IsFirstMeshFault m g ts ls (NoTriangle s) → IsFirstMeshFault m g ts ls f → ⊥
  side_with_other s (Flat k) o h b = b.against (h.0 k)
  side_with_other s (Twice k) o h b = b.1.against (h.1 k)
  side_with_other s (NoMate k) o h b = b.2.against (h.2 k)
  side_with_other s (NoTriangle r) o h b = o
  side_with_other s (Meets k i) o h b = h.3.against (b.0 s)
  side_with_other s (Inside k p) o h b = h.3.against (b.0 s)

  one_rule : (f h : MeshFault) → IsFirstMeshFault m g ts ls f → IsFirstMeshFault m g ts ls h → f ≡ h
  one_rule f h a b = by (side_or_other f) (side_or_other h)
    where
      as_side : (x : MeshFault) (s : Side) → x ≡ NoTriangle s → IsFirstMeshFault m g ts ls x → IsFirstMeshFault m g ts ls (NoTriangle s)
      as_side x s e = subst (λ (y : MeshFault). IsFirstMeshFault m g ts ls y) e

      by : ((s : Side) × (f ≡ NoTriangle s)) ⊎ IsOther f → ((s : Side) × (h ≡ NoTriangle s)) ⊎ IsOther h → f ≡ h
      by (inl x) (inl y) = x.1 ∙ ap NoTriangle (one_side (HasTriangleAt m ts) x.0 y.0 (as_side f x.0 x.1 a).3 (as_side h y.0 y.1 b).3) ∙ sym y.1
      by (inl x) (inr o) = absurd (side_with_other x.0 h o (as_side f x.0 x.1 a) b)
      by (inr o) (inl y) = absurd (side_with_other y.0 f o (as_side h y.0 y.1 b) a)
      by (inr o) (inr q) = one_mesh_fault g ts ls f h (other_fault f o a) (other_fault h q b)

-- ---- one answer

module _ (m g : Map) (t : TableParts) (c : CertTwo) where
  -- all that is promised of an answer
  pub record IsPromised (v : AnyVerdict) : Type 0 where
    pub mesh : TellsMesh m g c v
    pub groups : TellsGroups m c v
    pub rays : InWordsOfOne (JudgesRays g c.cert) v
    pub trees : InWordsOfOne (JudgesTrees g c.cert) v
    pub pairs : InWordsOfOne (TellsPairsOfTwo g t c) v

  -- the stage at which a fault is told; yes is told last
  abbrev stage : AnyVerdict → ℕ
  stage (No (Check (Mesh f))) = 0
  stage (No (Group k)) = 1
  stage (No (Unused f)) = 2
  stage (No (Check (Ray a b why))) = 3
  stage (No (Check (OfTree s k))) = 4
  stage (No (Check (ListedSet a b))) = 5
  stage (No (Check (Unproved a b))) = 5
  stage (No (Check (Uncovered a b))) = 5
  stage (Yes totals) = 6

  stage_below : (v : AnyVerdict) → stage v < 7
  stage_below (No (Check (Mesh f))) = lit< tt
  stage_below (No (Group k)) = lit< tt
  stage_below (No (Unused f)) = lit< tt
  stage_below (No (Check (Ray a b why))) = lit< tt
  stage_below (No (Check (OfTree s k))) = lit< tt
  stage_below (No (Check (ListedSet a b))) = lit< tt
  stage_below (No (Check (Unproved a b))) = lit< tt
  stage_below (No (Check (Uncovered a b))) = lit< tt
  stage_below (Yes totals) = lit< tt

  no_yes : (f : AnyFault) → stage (No f) < 6
  no_yes (Check (Mesh f)) = lit< tt
  no_yes (Group k) = lit< tt
  no_yes (Unused f) = lit< tt
  no_yes (Check (Ray a b why)) = lit< tt
  no_yes (Check (OfTree s k)) = lit< tt
  no_yes (Check (ListedSet a b)) = lit< tt
  no_yes (Check (Unproved a b)) = lit< tt
  no_yes (Check (Uncovered a b)) = lit< tt

  abbrev IsRightMesh : Type 0
  IsRightMesh = ((s : Side) → HasTriangleAt m (triangles_of c.cert) s) × IsGoodMesh g (triangles_of c.cert) (labels_of c.cert)

  mesh_later : (v : AnyVerdict) → 0 < stage v → TellsMesh m g c v → IsRightMesh
  mesh_later (No (Check (Mesh f))) l h = absurd (omega (arith, l))
  mesh_later (No (Group k)) l h = h
  mesh_later (No (Unused f)) l h = h
  mesh_later (No (Check (Ray a b why))) l h = h
  mesh_later (No (Check (OfTree s k))) l h = h
  mesh_later (No (Check (ListedSet a b))) l h = h
  mesh_later (No (Check (Unproved a b))) l h = h
  mesh_later (No (Check (Uncovered a b))) l h = h
  mesh_later (Yes totals) l h = h

  abbrev AreListsRight : Type 0
  AreListsRight = (k : ℕ) → IsListRight m (triangles_of c.cert) c.groups (labels_of c.cert) k

  lists_later : (v : AnyVerdict) → 1 < stage v → TellsGroups m c v → AreListsRight
  lists_later (No (Check (Mesh f))) l h = absurd (omega (arith, l))
  lists_later (No (Group k)) l h = absurd (omega (arith, l))
  lists_later (No (Unused f)) l h = h.0
  lists_later (No (Check (Ray a b why))) l h = h.0
  lists_later (No (Check (OfTree s k))) l h = h.0
  lists_later (No (Check (ListedSet a b))) l h = h.0
  lists_later (No (Check (Unproved a b))) l h = h.0
  lists_later (No (Check (Uncovered a b))) l h = h.0
  lists_later (Yes totals) l h = h.0

  abbrev AreGroupsUsed : Type 0
  AreGroupsUsed = (f : ℕ) → IsUsedGroup (length c.groups) (labels_of c.cert) f

  used_later : (v : AnyVerdict) → 2 < stage v → TellsGroups m c v → AreGroupsUsed
  used_later (No (Check (Mesh f))) l h = absurd (omega (arith, l))
  used_later (No (Group k)) l h = absurd (omega (arith, l))
  used_later (No (Unused f)) l h = absurd (omega (arith, l))
  used_later (No (Check (Ray a b why))) l h = h.1
  used_later (No (Check (OfTree s k))) l h = h.1
  used_later (No (Check (ListedSet a b))) l h = h.1
  used_later (No (Check (Unproved a b))) l h = h.1
  used_later (No (Check (Uncovered a b))) l h = h.1
  used_later (Yes totals) l h = h.1

  sights_later : (v : AnyVerdict) → 3 < stage v → InWordsOfOne (JudgesRays g c.cert) v → AreSightRaysBelow g c.cert.rays (length c.cert.rays)
  sights_later (No (Check (Mesh f))) l h = absurd (omega (arith, l))
  sights_later (No (Group k)) l h = absurd (omega (arith, l))
  sights_later (No (Unused f)) l h = absurd (omega (arith, l))
  sights_later (No (Check (Ray a b why))) l h = absurd (omega (arith, l))
  sights_later (No (Check (OfTree s k))) l h = h
  sights_later (No (Check (ListedSet a b))) l h = h
  sights_later (No (Check (Unproved a b))) l h = h
  sights_later (No (Check (Uncovered a b))) l h = h
  sights_later (Yes totals) l h = h

  whole_later : (v : AnyVerdict) → 4 < stage v → InWordsOfOne (JudgesTrees g c.cert) v → AreTreesWhole g c.cert
  whole_later (No (Check (Mesh f))) l h = absurd (omega (arith, l))
  whole_later (No (Group k)) l h = absurd (omega (arith, l))
  whole_later (No (Unused f)) l h = absurd (omega (arith, l))
  whole_later (No (Check (Ray a b why))) l h = absurd (omega (arith, l))
  whole_later (No (Check (OfTree s k))) l h = absurd (omega (arith, l))
  whole_later (No (Check (ListedSet a b))) l h = h
  whole_later (No (Check (Unproved a b))) l h = h
  whole_later (No (Check (Uncovered a b))) l h = h
  whole_later (Yes totals) l h = h

  broken : (f : MeshFault) → IsRightMesh → IsFirstMeshFault m g (triangles_of c.cert) (labels_of c.cert) f → ⊥
  broken f right h = by (side_or_other f)
    where
      by : ((s : Side) × (f ≡ NoTriangle s)) ⊎ IsOther f → ⊥
      by (inl x) = (subst (λ (y : MeshFault). IsFirstMeshFault m g (triangles_of c.cert) (labels_of c.cert) y) x.1 h).3.against (right.0 x.0)
      by (inr o) = broken_rule g (record { n = g.sectors; bytes = [] }) c.cert refl (triangles_of c.cert) (labels_of c.cert) f right.1 (other_fault m g (triangles_of c.cert) (labels_of c.cert) f o h)

  earlier_stage : (v w : AnyVerdict) → stage v < stage w → IsPromised v → IsPromised w → ⊥
  earlier_stage (No (Check (Mesh f))) w l p q = broken f (mesh_later w l q.mesh) p.mesh
  earlier_stage (No (Group k)) w l p q = p.groups.against (lists_later w l q.groups k)
  earlier_stage (No (Unused f)) w l p q = p.groups.1.against (used_later w l q.groups f)
  earlier_stage (No (Check (Ray a b why))) w l p q = let s = sights_later w l q.rays in let f = p.rays in wrong_ray g a b why f.ray (s f.place f.ray (slice_get_within c.cert.rays f.place f.ray f.is) f.is) f.fault
  earlier_stage (No (Check (OfTree s k))) w l p q = let f = p.trees in let x = whole_later w l q.trees f.tree (member_at c.cert.trees f.place f.tree f.is) in f.not_whole x.0 x.1
  earlier_stage (No (Check (ListedSet a b))) (Yes totals) l p q = wrong_with_right g (IsInGroup c.groups) t c.listed c.cert a b totals (listed_wrong g (IsInGroup c.groups) t c.listed c.cert a b p.pairs) q.pairs
  earlier_stage (No (Check (Unproved a b))) (Yes totals) l p q = wrong_with_right g (IsInGroup c.groups) t c.listed c.cert a b totals (unproved_wrong g (IsInGroup c.groups) t c.listed c.cert a b p.pairs) q.pairs
  earlier_stage (No (Check (Uncovered a b))) (Yes totals) l p q = wrong_with_right g (IsInGroup c.groups) t c.listed c.cert a b totals (uncovered_wrong g (IsInGroup c.groups) t c.listed c.cert a b p.pairs) q.pairs
  earlier_stage (No (Check (ListedSet a b))) (No f) l p q = absurd (omega (arith, l, no_yes f))
  earlier_stage (No (Check (Unproved a b))) (No f) l p q = absurd (omega (arith, l, no_yes f))
  earlier_stage (No (Check (Uncovered a b))) (No f) l p q = absurd (omega (arith, l, no_yes f))
  earlier_stage (Yes totals) w l p q = absurd (omega (arith, l, stage_below w))

  not_group : (f : CheckFault) → stage (No (Check f)) ≡ 1 → ⊥
  not_group (Mesh f) e = omega (arith, e)
  not_group (Ray a b why) e = omega (arith, e)
  not_group (OfTree s k) e = omega (arith, e)
  not_group (ListedSet a b) e = omega (arith, e)
  not_group (Unproved a b) e = omega (arith, e)
  not_group (Uncovered a b) e = omega (arith, e)

  not_unused : (f : CheckFault) → stage (No (Check f)) ≡ 2 → ⊥
  not_unused (Mesh f) e = omega (arith, e)
  not_unused (Ray a b why) e = omega (arith, e)
  not_unused (OfTree s k) e = omega (arith, e)
  not_unused (ListedSet a b) e = omega (arith, e)
  not_unused (Unproved a b) e = omega (arith, e)
  not_unused (Uncovered a b) e = omega (arith, e)

  same_check : (f h : CheckFault) → stage (No (Check f)) ≡ stage (No (Check h)) → IsPromised (No (Check f)) → IsPromised (No (Check h)) → ◌≡◌ {A = AnyVerdict} (No (Check f)) (No (Check h))
  same_check (Mesh f) (Mesh h) e p q = ap (λ (x : MeshFault). No (Check (Mesh x))) (one_rule m g (triangles_of c.cert) (labels_of c.cert) f h p.mesh q.mesh)
  same_check (Ray a b x) (Ray d f y) e p q = ap (λ (r : CheckFault). No (Check r)) (one_ray_fault g c.cert.rays a b d f x y p.rays q.rays)
  same_check (OfTree s k) (OfTree u j) e p q = let o = one_wrong_tree g c.cert p.mesh.1 s k u j p.trees q.trees in (λ i. No (Check (OfTree (o.0 i) (o.1 i))))
  same_check (ListedSet a b) (ListedSet d f) e p q = ap (λ (r : CheckFault). No (Check r)) (one_pair_fault g (IsInGroup c.groups) t c.listed c.cert (ListedSet a b) (ListedSet d f) tt tt p.pairs q.pairs)
  same_check (ListedSet a b) (Unproved d f) e p q = ap (λ (r : CheckFault). No (Check r)) (one_pair_fault g (IsInGroup c.groups) t c.listed c.cert (ListedSet a b) (Unproved d f) tt tt p.pairs q.pairs)
  same_check (ListedSet a b) (Uncovered d f) e p q = ap (λ (r : CheckFault). No (Check r)) (one_pair_fault g (IsInGroup c.groups) t c.listed c.cert (ListedSet a b) (Uncovered d f) tt tt p.pairs q.pairs)
  same_check (Unproved a b) (ListedSet d f) e p q = ap (λ (r : CheckFault). No (Check r)) (one_pair_fault g (IsInGroup c.groups) t c.listed c.cert (Unproved a b) (ListedSet d f) tt tt p.pairs q.pairs)
  same_check (Unproved a b) (Unproved d f) e p q = ap (λ (r : CheckFault). No (Check r)) (one_pair_fault g (IsInGroup c.groups) t c.listed c.cert (Unproved a b) (Unproved d f) tt tt p.pairs q.pairs)
  same_check (Unproved a b) (Uncovered d f) e p q = ap (λ (r : CheckFault). No (Check r)) (one_pair_fault g (IsInGroup c.groups) t c.listed c.cert (Unproved a b) (Uncovered d f) tt tt p.pairs q.pairs)
  same_check (Uncovered a b) (ListedSet d f) e p q = ap (λ (r : CheckFault). No (Check r)) (one_pair_fault g (IsInGroup c.groups) t c.listed c.cert (Uncovered a b) (ListedSet d f) tt tt p.pairs q.pairs)
  same_check (Uncovered a b) (Unproved d f) e p q = ap (λ (r : CheckFault). No (Check r)) (one_pair_fault g (IsInGroup c.groups) t c.listed c.cert (Uncovered a b) (Unproved d f) tt tt p.pairs q.pairs)
  same_check (Uncovered a b) (Uncovered d f) e p q = ap (λ (r : CheckFault). No (Check r)) (one_pair_fault g (IsInGroup c.groups) t c.listed c.cert (Uncovered a b) (Uncovered d f) tt tt p.pairs q.pairs)
  same_check f h e p q = absurd (omega (arith, e))

  same_stage : (v w : AnyVerdict) → stage v ≡ stage w → IsPromised v → IsPromised w → v ≡ w
  same_stage (No (Check f)) (No (Check h)) e p q = same_check f h e p q
  same_stage (No (Group k)) (No (Group j)) e p q = ap (λ (x : ℕ). No (Group x)) (one_first _ k j p.groups q.groups)
  same_stage (No (Unused f)) (No (Unused h)) e p q = ap (λ (x : ℕ). No (Unused x)) (one_first _ f h p.groups.1 q.groups.1)
  same_stage (Yes x) (Yes y) e p q = ap Yes (one_totals t c.listed t.n x y p.pairs.1 q.pairs.1)
  same_stage (No (Check f)) (No (Group k)) e p q = absurd (not_group f e)
  same_stage (No (Group k)) (No (Check f)) e p q = absurd (not_group f (sym e))
  same_stage (No (Check f)) (No (Unused u)) e p q = absurd (not_unused f e)
  same_stage (No (Unused u)) (No (Check f)) e p q = absurd (not_unused f (sym e))
  same_stage (No (Group k)) (No (Unused u)) e p q = absurd (omega (arith, e))
  same_stage (No (Unused u)) (No (Group k)) e p q = absurd (omega (arith, e))
  same_stage (Yes x) (No f) e p q = absurd (omega (arith, e, no_yes f))
  same_stage (No f) (Yes x) e p q = absurd (omega (arith, e, no_yes f))

  -- two answers of which all is so that is promised are one
  pub one_two : (v w : AnyVerdict) → IsPromised v → IsPromised w → v ≡ w
  one_two v w p q = by (below_same_or_above (stage v) (stage w))
    where
      by : (stage v < stage w) ⊎ (stage v ≡ stage w) ⊎ (stage w < stage v) → v ≡ w
      by (inl l) = absurd (earlier_stage v w l p q)
      by (inr (inl e)) = same_stage v w e p q
      by (inr (inr l)) = absurd (earlier_stage w v l q p)
