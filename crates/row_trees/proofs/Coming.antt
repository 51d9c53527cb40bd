-- Half-edges with which portal sequences of a source go on: its roots, and the ways behind a portal.
use Rattle.std.proofs.Common.{◌≡◌, ◌≢◌, ℕ, ◌≤◌, inl, inr, List, [], ◌∷◌, ◌++◌, Option, Some, None, Bool, true, false, not, Contains, length, slice_get, option_and_then, option_map, refl, sym, ◌∙◌, ap, subst, arith}
use Rattle.std.specs.List.{AllByRecursion, filter_map, cons_option}
use Rattle.std.proofs.lemmas.List.{length-map}
use Rattle.std.proofs.lemmas.Option.{same_Some}
use Rattle.math_base.proofs.Lists.{contains_here}
use Rattle.math_base.proofs.Numbers.{same_or_not}
use Rattle.math_base.proofs.Options.{one_value}
use Rattle.sight_names.proofs.Lists.{contains_tail}
use Rattle.sight_names.specs.declared.names.Side.{Side}
use Rattle.sight_names.specs.declared.names.Triangle.{Triangle}
use Rattle.sight_names.specs.Map.{MapLine, map_of, line_at}
use Rattle.sight_names.specs.Mesh.{label_of, side_edge, HasEdge, IsLineEdge}
use Rattle.sight_names.specs.Plan.{PlanParts}
use Rattle.sight_names.specs.Points.{Edge, place, reverse_of}
use Rattle.sight_names.specs.Sequence.{Portal, entry_edge, root_portal, roots, is_root, sides_of, third_point}
use Rattle.sight_names.specs.Splitting.{EndPoints, IsSplittable}
use Rattle.mesh_base.proofs.SightLaws.Plans.{line_below}
use Rattle.sight_lift.proofs.Sequences.{IsRoot, root_is, filter_passes}
use Rattle.sight_lift.proofs.Doors.{named_is}
use Rattle.mesh_base.proofs.GoodMesh.{found_at}
use Rattle.sight_lift.specs.SequenceLaws.Ways.{root_alone, one_way_on}
use Rattle.sight_lift.proofs.SequenceLaws.Depth.{few_portals}
use Rattle.mesh_shape.specs.declared.half_edges.table.HalfEdge.{HalfEdge}
use Rattle.mesh_shape.specs.HalfEdges.Numbers.{edge}
use Rattle.mesh_shape.specs.HalfEdges.Kinds.{IsEnteredAt, IsPassableAt}
use Rattle.mesh_shape.specs.HalfEdges.HalfEdges.{portal_into, way_outside, IsHalfEdge}
use Rattle.mesh_shape.proofs.HalfEdges.Reached.{other_edges}
use Rattle.gate_floods.specs.Gates.{other_side}
use Rattle.cert_checker.specs.TreeJudge.Roots.{root_edge, way_out_of}
use Rattle.portal_walk.specs.declared.scene.Way.{Way as WayOut}
use Rattle.portal_walk.specs.declared.scene.Way.TheVariants.{Left, Right}
use Rattle.portal_walk.specs.Pending.{way_in_sequence}
use Rattle.portal_walk.specs.Scene.{SceneParts, IsScene, IsEntry, IsNumber, EntersByEdge, behind, exit_of}
use Rattle.portal_walk.specs.Sides.{IsExit}
use Rattle.portal_walk.specs.Walk.{half_edge_ends}
use Rattle.portal_walk.proofs.Lists.{last_pushed}
use Rattle.portal_walk.proofs.Alone.{not_solid, one_record}
use Rattle.portal_walk.proofs.Portals.{found_behind, found_on}
use Rattle.portal_walk.proofs.Sequences.{comes_on, comes_first}
use Rattle.gate_floods.specs.RowJudge.Words.{is_away}
use Rattle.row_trees.specs.Going.{GoesOnByRoot}
use Rattle.row_trees.specs.Path.{HasEndOfLast}
use Rattle.row_trees.specs.Walkable.{Scene, Search, IsWalkable}

module _ (c : Scene) (s : Search) (w : IsWalkable s.ground c.edges c.roots c.firsts s.source) where
  abbrev p : PlanParts
  p = s.ground.plan

  abbrev parts : SceneParts
  parts = record { plan = s.ground.plan; mesh = record { points = 0; triangles = s.ground.triangles }; labels = s.ground.labels; source = s.source; edges = c.edges }

  is_scene : IsScene parts
  is_scene = record { rules = w.plan; good = w.good; edges = w.edges }

  -- what stands at a number is a half-edge
  half_at : (k : ℕ) (x : HalfEdge) → IsNumber s.ground.triangles k → slice_get c.edges k ≡ Some x → (e : Edge) × IsHalfEdge s.ground.plan s.ground.triangles s.ground.labels c.edges e x
  half_at k x (e, number) there = let h = w.edges.each e k number in (e, subst (IsHalfEdge s.ground.plan s.ground.triangles s.ground.labels c.edges e) (one_value (slice_get c.edges k) h.0 x h.1 there) h.2)

  pub label_at : (k : ℕ) (x : HalfEdge) → IsNumber s.ground.triangles k → slice_get c.edges k ≡ Some x → label_of s.ground.labels x.triangle ≡ x.sector
  label_at k x number there = (half_at k x number there).1.label

  -- ---- where no line is, one stays in the sector

  third_is : (x : HalfEdge) → IsEntry s.ground.plan s.ground.triangles s.ground.labels s.source x → (t : Triangle) → slice_get s.ground.triangles x.triangle ≡ Some t → third_point (entry_edge (portal_into x)) t ≡ x.apex
  third_is x i t there = same_Some (third_point (entry_edge (portal_into x)) t) x.apex (sym (ap (λ (o : Option ℕ). option_map (third_point (entry_edge (portal_into x))) (option_and_then (slice_get s.ground.triangles) o)) i.triangle ∙ ap (option_map (third_point (entry_edge (portal_into x)))) there) ∙ i.third)

  -- the triangle behind an exit, and the reverse of the exit's edge
  back_edge : (x : HalfEdge) → IsEntry s.ground.plan s.ground.triangles s.ground.labels s.source x → (way : WayOut) → (t : Triangle) × (slice_get s.ground.triangles x.triangle ≡ Some t) × HasEdge t (reverse_of (entry_edge (exit_of x way)))
  back_edge x i way = by way (found_at s.ground.triangles (entry_edge (portal_into x)) x.triangle i.triangle)
    where
      by : (way : WayOut) → (t : Triangle) × (slice_get s.ground.triangles x.triangle ≡ Some t) × HasEdge t (entry_edge (portal_into x)) → (t : Triangle) × (slice_get s.ground.triangles x.triangle ≡ Some t) × HasEdge t (reverse_of (entry_edge (exit_of x way)))
      by Left (t, there, has) = (t, there, subst (λ (n : ℕ). HasEdge t (edge n x.left)) (third_is x i t there) (other_edges t (entry_edge (portal_into x)) has).0)
      by Right (t, there, has) = (t, there, subst (λ (n : ℕ). HasEdge t (edge x.right n)) (third_is x i t there) (other_edges t (entry_edge (portal_into x)) has).1)

  one_triangle : (i j : ℕ) (t u : Triangle) (e : Edge) → slice_get s.ground.triangles i ≡ Some t → slice_get s.ground.triangles j ≡ Some u → HasEdge t e → HasEdge u e → i ≡ j
  one_triangle i j t u e f g h k = elim (same_or_not i j) [
    | inl same ↦ same
    | inr other ↦ absurd (w.good.plain.once i j t u e other f g h k)
  ]

  pub same_sector : (x y : HalfEdge) (way : WayOut) → IsEntry s.ground.plan s.ground.triangles s.ground.labels s.source x → IsEntry s.ground.plan s.ground.triangles s.ground.labels s.source y → portal_into y ≡ exit_of x way → y.entered ≡ None → (a : ℕ) → label_of s.ground.labels y.triangle ≡ Some a
      → label_of s.ground.labels x.triangle ≡ Some a
  same_sector x y way ix iy by free a labelled =
      let t = found_at s.ground.triangles (entry_edge (portal_into y)) y.triangle iy.triangle in
      let unlined : ¬ IsLineEdge (map_of s.ground.plan) (entry_edge (portal_into y)) = subst (IsEnteredAt s.ground.plan (portal_into y)) free iy.entered in
      let m = w.good.mates y.triangle a t.0 (entry_edge (portal_into y)) t.1 labelled t.2 unlined in
      let u = found_at s.ground.triangles (reverse_of (entry_edge (portal_into y))) m.0 m.1 in
      let b = back_edge x ix way in
      let same : m.0 ≡ x.triangle = one_triangle m.0 x.triangle u.0 b.0 (reverse_of (entry_edge (exit_of x way))) u.1 b.1 (subst (λ (d : Portal). HasEdge u.0 (reverse_of (entry_edge d))) by u.2) b.2 in
      subst (λ (k : ℕ). label_of s.ground.labels k ≡ Some a) same m.2

  -- ---- a way behind a portal

  -- the half-edge that is found goes on, and where no line is, one doesn't come into what the row has
  pub record OnBy (number root : ℕ) (ends : List EndPoints) (x : HalfEdge) : Type 0 where
    pub edge : HalfEdge
    pub there : slice_get c.edges number ≡ Some edge
    pub number_is : IsNumber s.ground.triangles number
    pub goes_on : GoesOnByRoot c s root ends edge
    pub joins : HasEndOfLast ends edge.left_at edge.right_at
    pub away : edge.entered ≡ None → (row : List ℕ) → is_away row x.sector ≡ true → is_away row edge.sector ≡ true

  away_same : (x y : HalfEdge) (row : List ℕ) → ((a : ℕ) → y.sector ≡ Some a → x.sector ≡ Some a) → is_away row x.sector ≡ true → is_away row y.sector ≡ true
  away_same x y row same h = by y.sector refl
    where
      by : (o : Option ℕ) → y.sector ≡ o → is_away row y.sector ≡ true
      by None e = ap (is_away row) e
      by (Some a) e = ap (is_away row) (e ∙ sym (same a e)) ∙ h

  -- behind a portal the next one keeps one of its ends
  joined : (ends : List EndPoints) (x y : HalfEdge) (way : WayOut) → IsEntry s.ground.plan s.ground.triangles s.ground.labels s.source x → IsEntry s.ground.plan s.ground.triangles s.ground.labels s.source y → portal_into y ≡ exit_of x way → HasEndOfLast (ends ++ half_edge_ends x ∷ []) y.left_at y.right_at
  joined ends x y Left ix iy by = inr (inl (half_edge_ends x, last_pushed ends (half_edge_ends x), ix.left_at ∙ sym (iy.left_at ∙ ap (λ (d : Portal). place (map_of s.ground.plan) d.left) by)))
  joined ends x y Right ix iy by = inr (inr (half_edge_ends x, last_pushed ends (half_edge_ends x), ix.right_at ∙ sym (iy.right_at ∙ ap (λ (d : Portal). place (map_of s.ground.plan) d.right) by)))

  pub way_on : (k root : ℕ) (ends : List EndPoints) (x : HalfEdge) → slice_get c.edges k ≡ Some x → IsNumber s.ground.triangles k → GoesOnByRoot c s root ends x → (way : WayOut) (i : ℕ) → way_outside c.edges s.source (behind x way) ≡ Some i → OnBy i root (ends ++ half_edge_ends x ∷ []) x
  way_on k root ends x there number on way i is = by (found_on parts is_scene k number x there way (Some i) (sym is) x there)
    where
      by : EntersByEdge parts (exit_of x way) i → OnBy i root (ends ++ half_edge_ends x ∷ []) x
      by f = record {
        edge = f.edge;
        there = f.there;
        number_is = (entry_edge (exit_of x way), f.number);
        goes_on = record {
          sequence = one_way_on on.sequence (way_in_sequence way);
          comes = comes_on s.ground.plan s.ground.triangles s.ground.labels s.source on.sequence x (ends ++ half_edge_ends x ∷ []) on.comes way f.edge f.portal f.entry (not_solid s.ground.plan w.plan w.audited (portal_into f.edge) f.edge.entered f.entry.entered);
          exit = on.exit;
          leaves = on.leaves;
        };
        joins = joined ends x f.edge way on.comes.entry f.entry f.portal;
        away = λ free row h. away_same x f.edge row (λ a e. sym (label_at k x number there) ∙ same_sector x f.edge way on.comes.entry f.entry f.portal free a (label_at i f.edge (entry_edge (exit_of x way), f.number) f.there ∙ e)) h;
      }

  -- no sequence that a line passes is longer than there are triangles
  pub not_long : (root : ℕ) (ends : List EndPoints) (x : HalfEdge) → GoesOnByRoot c s root ends x → IsSplittable (ends ++ half_edge_ends x ∷ []) → length (ends ++ half_edge_ends x ∷ []) ≤ length s.ground.triangles
  not_long root ends x on splits =
      let ps : List Portal = on.comes.before ++ portal_into x ∷ [] in
      let l : length ps ≤ length s.ground.triangles = few_portals (map_of s.ground.plan) s.ground.triangles s.ground.labels s.source w.good.plain.turn on.sequence ps on.comes.sequence (subst (λ (es : List EndPoints). IsSplittable es) on.comes.ends splits) in
      let e : length (ends ++ half_edge_ends x ∷ []) ≡ length ps = ap (λ (es : List EndPoints). length es) on.comes.ends ∙ length-map ps (λ (q : Portal). let r : EndPoints = record { left = place (map_of s.ground.plan) q.left; right = place (map_of s.ground.plan) q.right } in r) in
      omega (arith, l, e)

  -- ---- roots

  turned : (l : MapLine) (d : Portal) → d.left ≢ d.right → (a b : Bool) → side_edge (map_of s.ground.plan) l a ≡ entry_edge d → side_edge (map_of s.ground.plan) l (not b) ≡ entry_edge d → not a ≡ b
  turned l d differ true false e f = refl
  turned l d differ false true e f = refl
  turned l d differ true true e f = absurd (differ (sym (ap (λ (q : Edge). q.from) e) ∙ ap (λ (q : Edge). q.to) f))
  turned l d differ false false e f = absurd (differ (sym (ap (λ (q : Edge). q.from) e) ∙ ap (λ (q : Edge). q.to) f))

  -- the root's half-edge
  pub record IsRootBy (number : ℕ) : Type 0 where
    pub edge : HalfEdge
    pub there : slice_get c.edges number ≡ Some edge
    pub number_is : IsNumber s.ground.triangles number
    pub goes_on : GoesOnByRoot c s number [] edge
    pub lined : edge.entered ≢ None

  root_by : (side : Side) → Contains (roots (map_of s.ground.plan) s.source) side → (i : ℕ) → root_edge s.ground.triangles c.edges (map_of s.ground.plan) s.source side ≡ Some i → IsRootBy i
  root_by side listed i is = by (found_behind parts is_scene d (Some i) (sym (sym (ap (option_and_then (λ (q : Portal). way_out_of s.ground.triangles c.edges s.source (entry_edge q))) portal) ∙ is)))
    where
      r : IsRoot (map_of s.ground.plan) s.source side
      r = root_is (map_of s.ground.plan) s.source side listed

      l : MapLine
      l = r.line

      d : Portal
      d = record { left = (side_edge (map_of s.ground.plan) r.line (not side.left)).from; right = (side_edge (map_of s.ground.plan) r.line (not side.left)).to }

      portal : root_portal (map_of s.ground.plan) side ≡ Some d
      portal = ap (option_map (λ (x : MapLine). let e = side_edge (map_of s.ground.plan) x (not side.left) in let q : Portal = record { left = e.from; right = e.to } in q)) r.is

      exit : IsExit s.ground.plan s.source side
      exit = record {
        within = line_below s.ground.plan side.line r.line r.is;
        names = named_is (map_of s.ground.plan) side.line r.line side.left s.source r.is r.names;
        is_root = filter_passes (is_root (map_of s.ground.plan) s.source) (sides_of (map_of s.ground.plan)) side listed;
      }

      by : EntersByEdge parts d i → IsRootBy i
      by f = record {
        edge = f.edge;
        there = f.there;
        number_is = (entry_edge d, f.number);
        goes_on = record {
          sequence = root_alone side;
          comes = comes_first s.ground.plan s.ground.triangles s.ground.labels s.source (record { side = side; left = d.left; right = d.right }) (record { exit = exit; portal = portal }) f.edge f.portal f.entry (not_solid s.ground.plan w.plan w.audited (portal_into f.edge) f.edge.entered f.entry.entered);
          exit = exit;
          leaves = ap (option_and_then (λ (x : HalfEdge). option_map other_side x.entered)) f.there ∙ leaves f.edge.entered refl;
        };
        lined = λ none. lined (subst (IsEnteredAt s.ground.plan (portal_into f.edge)) none f.entry.entered);
      }
        where
          lined : ¬ IsLineEdge (map_of s.ground.plan) (entry_edge (portal_into f.edge)) → ⊥
          lined n = n (side.line, r.line, not side.left, r.is, ap entry_edge f.portal)

          proper : f.edge.left ≢ f.edge.right
          proper same = f.entry.proper (f.entry.left_at ∙ ap (place (map_of s.ground.plan)) same ∙ sym f.entry.right_at)

          leaves : (o : Option Side) → f.edge.entered ≡ o → option_map other_side f.edge.entered ≡ Some side
          leaves None e = absurd (lined (subst (IsEnteredAt s.ground.plan (portal_into f.edge)) e f.entry.entered))
          leaves (Some t) e = ap (option_map other_side) e ∙ ap (λ (q : Side). let u : Option Side = Some q in u) same
            where
              at : IsPassableAt s.ground.plan (entry_edge (portal_into f.edge)) t
              at = subst (IsEnteredAt s.ground.plan (portal_into f.edge)) e f.entry.entered

              here : side_edge (map_of s.ground.plan) r.line (not side.left) ≡ entry_edge (portal_into f.edge)
              here = ap entry_edge (sym f.portal)

              number : t.line ≡ side.line
              number = one_record s.ground.plan w.plan w.audited (portal_into f.edge) t.line side.line at.line r.line t.left (not side.left) at.is_line r.is at.edge here

              one : at.line ≡ r.line
              one = same_Some at.line r.line (sym at.is_line ∙ ap (line_at (map_of s.ground.plan)) number ∙ r.is)

              same : other_side t ≡ side
              same = λ j. record { line = number j; left = turned r.line (portal_into f.edge) proper t.left side.left (subst (λ (x : MapLine). side_edge (map_of s.ground.plan) x t.left ≡ entry_edge (portal_into f.edge)) one at.edge) here j }

  pub all_roots : (ss : List Side) → ((side : Side) → Contains ss side → Contains (roots (map_of s.ground.plan) s.source) side) → AllByRecursion IsRootBy (filter_map (root_edge s.ground.triangles c.edges (map_of s.ground.plan) s.source) ss)
  all_roots [] all = tt
  all_roots (side ∷ ss) all = by (root_edge s.ground.triangles c.edges (map_of s.ground.plan) s.source side) refl (all_roots ss (λ r h. all r (contains_tail side r ss h)))
    where
      by : (o : Option ℕ) → root_edge s.ground.triangles c.edges (map_of s.ground.plan) s.source side ≡ o → AllByRecursion IsRootBy (filter_map (root_edge s.ground.triangles c.edges (map_of s.ground.plan) s.source) ss) → AllByRecursion IsRootBy (cons_option o (filter_map (root_edge s.ground.triangles c.edges (map_of s.ground.plan) s.source) ss))
      by None e later = later
      by (Some i) e later = (root_by side (all side (contains_here side ss)) i e, later)
