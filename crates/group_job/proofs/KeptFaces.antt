-- The labelled triangles of the mesh, which a certificate has, keep the rules of a table of groups: what the whole mesh says of faces they
-- say too, since no way from a labelled triangle across edges that are no lines leaves them.
use Rattle.std.proofs.Common.{◌≡◌, ℕ, ◌<◌, refl, sym, ap, ◌∙◌, subst, ◌↔◌, List, [], ◌∷◌, length, slice_get, Option, Some, None, MatchOption, Contains, option_and_then}
use Rattle.std.proofs.lemmas.Option.{slice_get_within, slice_get-get_or, same_Some, MatchOption-at_some, MatchOption-at_none}
use Rattle.sight_names.specs.declared.names.Side.{Side}
use Rattle.sight_names.specs.declared.names.Triangle.{Triangle}
use Rattle.sight_names.specs.Plan.{PlanParts, IsPlan}
use Rattle.sight_names.specs.Map.{Map, MapLine, line_at, map_of, named, Names}
use Rattle.sight_names.specs.Points.{Edge, reverse_of}
use Rattle.sight_names.specs.Mesh.{AreLabelsOf, HasEdge, HasMates, IsGoodMesh, IsMeshOf, IsPlainMesh, label_of, side_edge, triangle_at}
use Rattle.sight_names.specs.Groups.{AreGroups, HasClosedFaces, IsGroupedMap}
use Rattle.sight_names.proofs.OneMesh.{one_labels}
use Rattle.mesh_base.proofs.GoodMesh.{found_at}
use Rattle.mesh_base.proofs.PlanFacts.{plan_facts}
use Rattle.triangulate.proofs.MeshLaws.{mesh_plain, mesh_fills_sides}
use Rattle.face_groups.specs.declared.tri_sectors.faces.Walls.{Walls}
use Rattle.face_groups.proofs.TriSectors.FaceRegion.{Ground, only_one}
use Rattle.face_groups.specs.GroupsBase.Named.{AreAcross, IsWay, IsNamedAt, AreNamedAt}
use Rattle.face_groups.specs.GroupsBase.Table.{AreUsed, IsNamedByTable, IsTableFor, NamesLabels, NamesTheLabels}
use Rattle.face_groups.proofs.GroupsBase.FacesExist.{ground_exists}
use Rattle.face_groups.proofs.GroupsBase.FaceSectors.{NamedAreSealed, sealed_where_closed}
use Rattle.face_groups.proofs.GroupsBase.GroupLabels.{AreGroupLabels, good_for_groups, labels_of_groups}
use Rattle.face_groups.proofs.GroupsBase.GroupLaws.{HasLists, grouped_agree}
use Rattle.face_groups.proofs.GroupsBase.GroupTable.{table_is_groups}
use Rattle.face_groups.proofs.GroupsBase.GroupsExist.{groups_exist}
use Rattle.face_groups.proofs.GroupsBase.Named.{names_are}
use Rattle.face_groups.proofs.GroupsBase.NamedLists.{lists_exist, names_on}
use Rattle.face_groups.proofs.GroupsBase.Ordered.{empty_has_none, same_groups}
use Rattle.face_groups.proofs.GroupsBase.SameLines.{HaveSameLines, line_of, lines_alike}
use Rattle.face_groups.proofs.GroupsBase.SamePoints.{mesh_alike, no_line_edge, plain_alike, side_edge_alike}
use Rattle.cert_format.specs.declared.cert.Labelled.{Labelled}
use Rattle.group_job.specs.Labelled.{labelled_of}
use Rattle.group_job.proofs.GoodLabelled.{triangle_list, label_list, kept, placed, label_at, label_there, found_too, labelled_are_good}

module _ (p : PlanParts) (plan : IsPlan p) (faces : HasClosedFaces (map_of p)) (groups : List (List ℕ)) (are : AreGroups (map_of p) groups) (g : Map) (is : IsGroupedMap (map_of p) groups g)
    (ts : List Triangle) (mesh : IsMeshOf g ts) (ls : List (Option ℕ)) (labelled : AreLabelsOf g ts ls) where
  abbrev m : Map
  m = map_of p

  -- ---- the whole mesh

  own_mesh : IsMeshOf m ts
  own_mesh = mesh_alike g m (sym is.lines) ts mesh

  plain : IsPlainMesh m ts
  plain = mesh_plain m (plan_facts p plan) faces.ends ts own_mesh

  record Base : Type 0 where
    ws : List Walls
    fs : List ℕ
    ground : Ground m ts ws fs
    sealed : NamedAreSealed m ts ws fs
    lists : HasLists m
    labels : AreGroupLabels m ts fs groups ls
    used : AreUsed ts groups ls

  base : Base
  base =
      let x = ground_exists m ts (plan_facts p plan) plain in
      let filled = mesh_fills_sides m (plan_facts p plan) faces.ends ts own_mesh in
      let sealed = sealed_where_closed m ts x.0 x.1 x.2 filled faces.closed in
      let lists = lists_exist m ts x.0 x.1 x.2 sealed in
      let h = groups_exist m ts x.1 in
      let theirs = table_is_groups m ts x.0 x.1 x.2 sealed h.groups h.ls h.labels h.ascend h.used in
      let eg : h.groups ≡ groups = same_groups m h.groups groups theirs are in
      let in_groups : AreGroupLabels m ts x.1 groups h.ls = subst (λ (gs : List (List ℕ)). AreGroupLabels m ts x.1 gs h.ls) eg h.labels in
      let that = labels_of_groups m ts x.0 x.1 x.2 sealed groups are g is lists h.ls in_groups filled in
      let el : h.ls ≡ ls = one_labels g ts h.ls ls (grouped_agree m ts x.0 x.1 x.2 sealed groups are g is lists) mesh that labelled in record {
        ws = x.0;
        fs = x.1;
        ground = x.2;
        sealed = sealed;
        lists = lists;
        labels = subst (λ (ks : List (Option ℕ)). AreGroupLabels m ts x.1 groups ks) el in_groups;
        used = subst (λ (ks : List (Option ℕ)). AreUsed ts groups ks) el (subst (λ (gs : List (List ℕ)). AreUsed ts gs h.ls) eg h.used);
      }

  pub good_mesh : IsGoodMesh g ts ls
  good_mesh = good_for_groups m ts base.ws base.fs base.ground base.sealed groups are g is base.lists ls base.labels

  -- the group of a labelled triangle is the list of its face
  named_there : (k f : ℕ) → k < length ts → label_of ls k ≡ Some f → (at : List ℕ) × (slice_get groups f ≡ Some at) × AreNamedAt m ts k at
  named_there k f lt label =
      let n = names_on m ts base.fs k in
      (n.0, MatchOption-at_some (n.0 ≡ []) (λ x. slice_get groups x ≡ Some n.0) f label (base.labels.each k n.0 lt n.1), (names_are m ts base.ws base.fs base.ground k n.0 lt).0 n.1)

  -- a side that names a sector has a labelled triangle
  labelled_at : (s : Side) (l : MapLine) (a : ℕ) → line_at m s.line ≡ Some l → Names m s a → (k f : ℕ) × (triangle_at ts (side_edge m l s.left) ≡ Some k) × (label_of ls k ≡ Some f)
  labelled_at s l a at names =
      let r = base.sealed s l a at names in
      let u = found_at ts (side_edge m l s.left) r.0 r.1 in
      let n = names_on m ts base.fs r.0 in
      let has : Contains n.0 a = (n.1.exactly a).1 (record { side = s; line = l; is = at; names = names; j = r.0; at = r.1; face = refl }) in
      go r.0 r.1 n.0 has (base.labels.each r.0 n.0 (slice_get_within ts r.0 u.0 u.1) n.1) (label_of ls r.0) refl
    where
      go : (k : ℕ) → triangle_at ts (side_edge m l s.left) ≡ Some k → (names : List ℕ) → Contains names a → MatchOption (label_of ls k) (names ≡ []) (λ x. slice_get groups x ≡ Some names) → (o : Option ℕ) → label_of ls k ≡ o
          → (k f : ℕ) × (triangle_at ts (side_edge m l s.left) ≡ Some k) × (label_of ls k ≡ Some f)
      go k there names has h None e = absurd (empty_has_none names a (MatchOption-at_none (names ≡ []) (λ x. slice_get groups x ≡ Some names) e h) has)
      go k there names has h (Some f) e = (k, f, there, e)

  mates : HasMates m ts ls
  mates k f t e at label has none = good_mesh.mates k f t e at label has (no_line_edge g m (sym is.lines) e none)

  -- ---- the labelled triangles

  abbrev us : List Triangle
  us = triangle_list (labelled_of ts ls)

  abbrev ms : List (Option ℕ)
  ms = label_list (labelled_of ts ls)

  good_kept : IsGoodMesh g us ms
  good_kept = labelled_are_good g ts ls good_mesh

  plain_kept : IsPlainMesh m us
  plain_kept = plain_alike g m (sym is.lines) us good_kept.plain

  -- a way over the whole mesh from a labelled triangle is one over the labelled triangles
  record WayOn (k : ℕ) (j : ℕ) : Type 0 where
    steps : List ℕ
    i : ℕ
    u : Triangle
    at : slice_get ts j ≡ Some u
    there : slice_get us i ≡ Some u
    way : IsWay m us k steps i

  way_on : (k : ℕ) (ns : List ℕ) (j f : ℕ) → IsWay m ts k ns j → label_of ls k ≡ Some f → (t : Triangle) → slice_get ts k ≡ Some t → (i : ℕ) → slice_get us i ≡ Some t → WayOn i j
  way_on k [] j f e label t at i there = record { steps = []; i = i; u = t; at = subst (λ (x : ℕ). slice_get ts x ≡ Some t) e at; there = there; way = refl }
  way_on k (n ∷ ns) j f (step, rest) label t at i there =
      let mate = mates k f step.t step.e step.at label step.has step.free in
      let same : mate.0 ≡ n = same_Some mate.0 n (sym mate.1 ∙ only_one m ts plain (reverse_of step.e) n step.u step.at_too step.has_too) in
      let next : label_of ls n ≡ Some f = subst (λ (x : ℕ). label_of ls x ≡ Some f) same mate.2 in
      let q = placed ts ls n step.u f step.at_too (label_there ls n f next) in
      let r = way_on n ns j f rest next step.u step.at_too q.0 q.1 in
      let here : slice_get us i ≡ Some step.t = subst (λ (x : Triangle). slice_get us i ≡ Some x) (same_Some t step.t (sym at ∙ step.at)) there in
      let across : AreAcross m us i q.0 = record { t = step.t; u = step.u; e = step.e; at = here; at_too = q.1; has = step.has; free = step.free; has_too = step.has_too } in
      record { steps = q.0 ∷ r.steps; i = r.i; u = r.u; at = r.at; there = r.there; way = (across, r.way) }

  -- and the other way round
  record WayBack (k : ℕ) (i : ℕ) : Type 0 where
    steps : List ℕ
    j : ℕ
    u : Triangle
    at : slice_get ts j ≡ Some u
    there : slice_get us i ≡ Some u
    way : IsWay m ts k steps j

  way_back : (i : ℕ) (ns : List ℕ) (j : ℕ) → IsWay m us i ns j → (t : Triangle) → slice_get us i ≡ Some t → (k : ℕ) → slice_get ts k ≡ Some t → WayBack k j
  way_back i [] j e t there k at = record { steps = []; j = k; u = t; at = at; there = subst (λ (x : ℕ). slice_get us x ≡ Some t) e there; way = refl }
  way_back i (n ∷ ns) j (step, rest) t there k at =
      let q = kept ts ls n step.u step.at_too in
      let r = way_back n ns j rest step.u step.at_too q.1.at q.1.triangle in
      let here : slice_get ts k ≡ Some step.t = subst (λ (x : Triangle). slice_get ts k ≡ Some x) (same_Some t step.t (sym there ∙ step.at)) at in
      let across : AreAcross m ts k q.1.at = record { t = step.t; u = step.u; e = step.e; at = here; at_too = q.1.triangle; has = step.has; free = step.free; has_too = step.has_too } in
      record { steps = q.1.at ∷ r.steps; j = r.j; u = r.u; at = r.at; there = r.there; way = (across, r.way) }

  -- so the sides of a face name the same sectors
  named_kept : (k f i a : ℕ) (t : Triangle) → label_of ls k ≡ Some f → slice_get ts k ≡ Some t → slice_get us i ≡ Some t → IsNamedAt m ts k a ↔ IsNamedAt m us i a
  named_kept k f i a t label at there = (to, back)
    where
      to : IsNamedAt m ts k a → IsNamedAt m us i a
      to h =
          let r = way_on k h.face.0 h.j f h.face.1 label t at i there in
          let u = found_at ts (side_edge m h.line h.side.left) h.j h.at in
          let has : HasEdge r.u (side_edge m h.line h.side.left) = subst (λ (x : Triangle). HasEdge x (side_edge m h.line h.side.left)) (same_Some u.0 r.u (sym u.1 ∙ r.at)) u.2 in
          record { side = h.side; line = h.line; is = h.is; names = h.names; j = r.i; at = only_one m us plain_kept (side_edge m h.line h.side.left) r.i r.u r.there has; face = (r.steps, r.way) }

      back : IsNamedAt m us i a → IsNamedAt m ts k a
      back h =
          let r = way_back i h.face.0 h.j h.face.1 t there k at in
          let u = found_at us (side_edge m h.line h.side.left) h.j h.at in
          let has : HasEdge r.u (side_edge m h.line h.side.left) = subst (λ (x : Triangle). HasEdge x (side_edge m h.line h.side.left)) (same_Some u.0 r.u (sym u.1 ∙ r.there)) u.2 in
          record { side = h.side; line = h.line; is = h.is; names = h.names; j = r.j; at = only_one m ts plain (side_edge m h.line h.side.left) r.j r.u r.at has; face = (r.steps, r.way) }

  named_by : (i : ℕ) (t : Triangle) → slice_get us i ≡ Some t → IsNamedByTable m us groups ms i
  named_by i t there =
      let q = kept ts ls i t there in
      let label = label_at ls q.1.at q.0 q.1.label in
      let n = named_there q.1.at q.0 (slice_get_within ts q.1.at t q.1.triangle) label in record {
        f = q.0;
        at = n.0;
        label = label_at ms i q.0 q.2;
        there = n.1;
        named = record {
          ascend = n.2.ascend;
          exactly = λ a. let x = n.2.exactly a in let y = named_kept q.1.at q.0 i a t label q.1.triangle there in (λ c. y.0 (x.0 c), λ h. x.1 (y.1 h));
        };
      }

  used_kept : AreUsed us groups ms
  used_kept f at there =
      let u = base.used f at there in
      let label = label_there ls u.1.0 f u.1.2 in
      let t = slice_get-get_or ts u.1.0 (record { p = 0; q = 0; r = 0 }) u.1.1 in
      let q = placed ts ls u.1.0 _ f t label in
      (u.0, (q.0, slice_get_within us q.0 _ q.1, label_at ms q.0 f q.2))

  table_for : IsTableFor m us groups ms
  table_for = record {
    plain = plain_kept;
    one_each = good_kept.one_each;
    mates = λ k f t e at label has none. good_kept.mates k f t e at label has (no_line_edge g m (sym is.lines) e none);
    sides = λ s l a at names. let r = labelled_at s l a at names in let q = found_too g ts ls good_mesh (side_edge m l s.left) r.0 r.1 r.2 r.3 in (q.0, q.1);
    each = λ i lt. named_by i _ (slice_get-get_or us i (record { p = 0; q = 0; r = 0 }) lt);
    ascend = are.ascend;
    used = used_kept;
  }

  names_labels : NamesLabels m us ms g
  names_labels s l at =
      let same : HaveSameLines m g = lines_alike m g is.lines in
      let k = line_of m g same s.line l at in
      go k.0 k.1 (side_edge_alike m g is.lines l k.0 s.left k.2) (named g s) refl (triangle_at us (side_edge m l s.left)) refl
    where
      go : (k : MapLine) → line_at g s.line ≡ Some k → side_edge m l s.left ≡ side_edge g k s.left → (n : Option ℕ) → named g s ≡ n → (o : Option ℕ) → triangle_at us (side_edge m l s.left) ≡ o
          → named g s ≡ option_and_then (label_of ms) (triangle_at us (side_edge m l s.left))
      go k there edge None e None h = e ∙ sym (ap (option_and_then (label_of ms)) h)
      go k there edge None e (Some i) h =
          let none = good_kept.fits.no_sides s k i there e (subst (λ (x : Edge). triangle_at us x ≡ Some i) edge h) in
          e ∙ sym (ap (option_and_then (label_of ms)) h ∙ none)
      go k there edge (Some f) e o h =
          let r = good_kept.fits.sides s k f there e in
          e ∙ sym (ap (option_and_then (label_of ms)) (subst (λ (x : Edge). triangle_at us x ≡ Some r.0) (sym edge) r.1) ∙ r.2)

  names_the_labels : NamesTheLabels m us groups ms g
  names_the_labels = record { sectors = is.sectors; lines = is.lines; names = names_labels }

  -- in the words of a certificate's triangles
  pub kept_table : (cs : List Labelled) → cs ≡ labelled_of ts ls → IsTableFor m (triangle_list cs) groups (label_list cs)
  kept_table cs e = subst (λ (xs : List Labelled). IsTableFor m (triangle_list xs) groups (label_list xs)) (sym e) table_for

  pub kept_names : (cs : List Labelled) → cs ≡ labelled_of ts ls → NamesTheLabels m (triangle_list cs) groups (label_list cs) g
  kept_names cs e = subst (λ (xs : List Labelled). NamesTheLabels m (triangle_list xs) groups (label_list xs) g) (sym e) names_the_labels
