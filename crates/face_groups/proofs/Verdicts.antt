-- From what the code made of a mesh to the groups of its map.
use Rattle.std.proofs.Common.{◌≡◌, ℕ, ◌<◌, List, [], length, slice_get, Option, Some, None, MatchOption, Bool, Result, Ok, Err, Contains, All, refl, sym, ap, ◌∙◌, subst, arith}
use Rattle.std.proofs.lemmas.Option.{slice_get_within, MatchOption-at_none}
use Rattle.sight_names.specs.declared.names.Side.{Side}
use Rattle.sight_names.specs.declared.names.Triangle.{Triangle}
use Rattle.sight_names.specs.Plan.{PlanParts, IsPlan}
use Rattle.sight_names.specs.Map.{Map, map_of}
use Rattle.sight_names.specs.Mesh.{IsPlainMesh, label_of, side_edge}
use Rattle.sight_names.proofs.Portals.{triangle_within}
use Rattle.mesh_base.proofs.GoodMesh.{PointFacts}
use Rattle.mesh_base.proofs.PlanFacts.{plan_facts}
use Rattle.mesh_shape.specs.Fills.{FillsSides}
use Rattle.face_groups.specs.declared.tri_sectors.faces.Walls.{Walls}
use Rattle.face_groups.specs.TriSectors.Classes.{class_of, AreLeast, IsBelow}
use Rattle.face_groups.specs.TriSectors.Faces.{AreWalls, AreFaces, AreMarkedFaces}
use Rattle.face_groups.specs.TriSectors.Sides.{IsSealedAt}
use Rattle.face_groups.proofs.TriSectors.GoodLabels.{HasNamedSide}
use Rattle.face_groups.specs.GroupsBase.Table.{NamedAreLabelled}
use Rattle.face_groups.proofs.GroupsBase.Ordered.{empty_has_none}
use Rattle.face_groups.proofs.GroupsBase.FaceSectors.{AreNamedOn}
use Rattle.face_groups.proofs.GroupsBase.NamedLists.{names_on}
use Rattle.face_groups.proofs.GroupsBase.Named.{names_are}
use Rattle.face_groups.proofs.GroupsBase.GroupLabels.{AreGroupLabels}
use Rattle.face_groups.proofs.GroupsBase.BuiltGroups.{open_verdict, groups_verdict}
use Rattle.face_groups.specs.declared.namings.Naming.{Naming}
use Rattle.face_groups.specs.declared.fault.GroupFault.{GroupFault}
use Rattle.face_groups.specs.declared.fault.GroupFault.TheVariants.{Open, Memory}
use Rattle.face_groups.specs.declared.grouping.Grouped.{Grouped}
use Rattle.face_groups.specs.Namings.{naming, AreNamings, AreSectorsOn, AreListsOn, AreOnFaces}
use Rattle.face_groups.specs.GroupsBase.Found.{AreFoundGroups}
use Rattle.face_groups.specs.NamedFaces.{AreListLabels}
use Rattle.face_groups.specs.Regrouped.{regrouped_plan}
use Rattle.face_groups.specs.Verdict.{AreFaceNames, IsGroupedVerdict, IsGroupsVerdict}
use Rattle.face_groups.proofs.RegroupedPlan.{names_the_labels}

module _ (m : Map) (ts : List Triangle) (fs : List ℕ) (ns : List Naming) (are : AreNamings m ts fs ns) where
  -- what sides name on the face of triangle k, in the two spellings
  named_of_said : (k a : ℕ) → Contains ns (naming (class_of fs k) a) → HasNamedSide m ts fs k a
  named_of_said k a c = let h = (are.exactly (class_of fs k) a).0 c in record { side = h.side; line = h.line; is = h.is; names = h.names; j = h.j; at = h.at; face = h.there }

  said_of_named : (k a : ℕ) → HasNamedSide m ts fs k a → Contains ns (naming (class_of fs k) a)
  said_of_named k a h = (are.exactly (class_of fs k) a).1 (record { side = h.side; line = h.line; is = h.is; names = h.names; j = h.j; at = h.at; there = h.face })

  named_of_sectors : (k : ℕ) (names : List ℕ) → AreSectorsOn ns (class_of fs k) names → AreNamedOn m ts fs k names
  named_of_sectors k names h = record { ascend = h.ascend; exactly = λ a. (λ c. named_of_said k a ((h.exactly a).0 c), λ w. (h.exactly a).1 (said_of_named k a w)) }

  sectors_of_named : (k : ℕ) (names : List ℕ) → AreNamedOn m ts fs k names → AreSectorsOn ns (class_of fs k) names
  sectors_of_named k names h = record { ascend = h.ascend; exactly = λ a. (λ c. said_of_named k a ((h.exactly a).0 c), λ w. (h.exactly a).1 (named_of_said k a w)) }

  -- the faces of which something is said
  pub on_faces : AreLeast fs → length fs ≡ length ts → All (IsBelow (length ts)) fs → AreOnFaces fs ns
  on_faces least count range face a c =
      let h = (are.exactly face a).0 c in
      let lt = triangle_within ts (side_edge m h.line h.side.left) h.j h.at in
      let inside : h.j < length fs = omega (arith, lt, count) in
      record {
        within = let r = range h.j 0 inside in let e = h.there in omega (arith, r, e, count);
        own = ap (class_of fs) h.there ∙ least.own h.j inside ∙ sym h.there;
      }

  -- each side that names a sector has its triangle, and that has a label
  pub named_are_labelled : (os : List Bool) → ((s : Side) → IsSealedAt m ts fs os s) → length fs ≡ length ts → (groups : List (List ℕ)) (ls : List (Option ℕ)) → AreListLabels ns fs groups ls → NamedAreLabelled m ts ls
  named_are_labelled os sealed count groups ls labels s l a is names =
      let w = sealed s l a is names in
      let lt = triangle_within ts (side_edge m l s.left) w.0 w.1 in
      let n = names_on m ts fs w.0 in
      let has : Contains n.0 a = (n.1.exactly a).1 (record { side = s; line = l; is = is; names = names; j = w.0; at = w.1; face = refl }) in
      (w.0, w.1, go w.0 n.0 has (labels.each w.0 n.0 (omega (arith, lt, count)) (sectors_of_named w.0 n.0 n.1)) (label_of ls w.0) refl)
    where
      go : (k : ℕ) (xs : List ℕ) → Contains xs a → MatchOption (label_of ls k) (xs ≡ []) (λ p. slice_get groups p ≡ Some xs) → (o : Option ℕ) → label_of ls k ≡ o → (f : ℕ) × (label_of ls k ≡ Some f)
      go k xs has h None e = absurd (empty_has_none xs a (MatchOption-at_none (xs ≡ []) (λ p. slice_get groups p ≡ Some xs) e h) has)
      go k xs has h (Some f) e = (f, e)

  group_labels : length fs ≡ length ts → (groups : List (List ℕ)) (ls : List (Option ℕ)) → AreListLabels ns fs groups ls → AreGroupLabels m ts fs groups ls
  group_labels count groups ls labels = record { one_each = labels.one_each ∙ count; each = λ k names lt n. labels.each k names (omega (arith, lt, count)) (sectors_of_named k names n) }

  -- the list of each triangle
  pub face_names : PointFacts m → IsPlainMesh m ts → (ws : List Walls) → AreWalls m ts ws → AreFaces ts ws fs → (lists : List (List ℕ)) → AreListsOn ns fs lists → AreFaceNames m ts lists
  face_names facts plain ws walls faces lists h k names at =
      let lt = slice_get_within lists k names at in
      let e = h.one_each in let c = faces.one_each in
      (names_are m ts ws fs (record { facts = facts; plain = plain; walls = walls; faces = faces }) k names (omega (arith, lt, e, c))).0 (named_of_sectors k names (h.each k names at))

-- the lists as the calls saw them
pub names_answer : (p : PlanParts) → IsPlan p → (ts : List Triangle) (ws w1 : List Walls) (fs f1 f2 : List ℕ) (ns n1 : List Naming) (lists : List (List ℕ)) → w1 ≡ ws → f1 ≡ fs → n1 ≡ ns → f2 ≡ fs
    → AreWalls (map_of p) ts ws → AreFaces ts w1 fs → AreNamings (map_of p) ts f1 ns → IsPlainMesh (map_of p) ts → AreListsOn n1 f2 lists → AreFaceNames (map_of p) ts lists
names_answer p is ts ws w1 fs f1 f2 ns n1 lists ew ef en eg walls faces are plain h =
    face_names (map_of p) ts fs ns (subst (λ (x : List ℕ). AreNamings (map_of p) ts x ns) ef are) (plan_facts p is) plain ws walls (subst (λ (x : List Walls). AreFaces ts x fs) ew faces) lists
    (subst (λ (x : List Naming). AreListsOn x fs lists) en (subst (λ (x : List ℕ). AreListsOn n1 x lists) eg h))

-- ---- the answer

module _ (p : PlanParts) (is : IsPlan p) (ts : List Triangle) (fs : List ℕ) (os : List Bool) (marked : AreMarkedFaces (map_of p) ts fs os) where
  count : length fs ≡ length ts
  count = marked.are_faces.one_each

  pub groups_answer : IsPlainMesh (map_of p) ts → FillsSides (map_of p) ts → (r : Result Grouped GroupFault) → IsGroupedVerdict p ts fs os r → IsGroupsVerdict (map_of p) ts r
  groups_answer plain filled (Err (Open s)) v = open_verdict (map_of p) ts fs os (plan_facts p is) plain filled marked s v
  groups_answer plain filled (Err (Memory _)) v = tt
  groups_answer plain filled (Ok g) v =
      subst (λ (q : PlanParts). AreFoundGroups (map_of p) ts g.groups (map_of q) g.labels) (sym v.plan)
      (groups_verdict (map_of p) ts fs os (plan_facts p is) plain filled marked v.sealed g.groups g.labels (group_labels (map_of p) ts fs v.namings v.are_namings count g.groups g.labels v.labels) v.labels.ascend
      (λ f at e. let u = v.labels.used f at e in (u.0, (u.1.0, (let lt = u.1.1 in omega (arith, lt, count)), u.1.2)))
      (map_of (regrouped_plan ts g.labels (length g.groups) p)) (names_the_labels p is ts g.groups g.labels))
