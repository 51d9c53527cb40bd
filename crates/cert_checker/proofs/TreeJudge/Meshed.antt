-- Half-edges of a good mesh: what is behind the portal of a sequence, and behind its two ways out.
use Rattle.std.proofs.Common.{◌≡◌, ◌≢◌, ℕ, ◌⊎◌, inl, inr, List, Option, Some, None, Bool, true, false, not, IsTrue, refl, sym, ◌∙◌, ap, subst, if◌then◌else◌}
use Rattle.std.specs.List.{slice_get}
use Rattle.std.specs.Prelude.{option_and_then, option_map}
use Rattle.std.proofs.lemmas.Bool.{true≢false}
use Rattle.std.proofs.lemmas.Option.{none-some, same_Some}
use Rattle.sight_names.specs.declared.names.Triangle.{Triangle}
use Rattle.sight_names.specs.Plan.{PlanParts}
use Rattle.sight_names.specs.Points.{Edge, place, reverse_of}
use Rattle.sight_names.specs.Map.{MapLine, map_of, line_at, sector_on, IsMapLine}
use Rattle.sight_names.specs.Mesh.{triangle_at, label_of, side_edge, HasEdge, IsLineEdge}
use Rattle.sight_names.specs.Sequence.{Portal, Left, Right, entry_edge, way_out, third_point, names_it, IsSolidLine}
use Rattle.sight_names.proofs.PlanMap.{plan_is_map}
use Rattle.mesh_base.proofs.PlanFacts.{plan_facts}
use Rattle.mesh_shape.specs.declared.half_edges.table.HalfEdge.{HalfEdge}
use Rattle.mesh_shape.specs.HalfEdges.Numbers.{edge}
use Rattle.mesh_shape.specs.HalfEdges.HalfEdges.{entering, way_outside, IsHalfEdge, AreOfGoodMesh}
use Rattle.mesh_shape.proofs.HalfEdges.Reached.{IsReached, reached, not_reached, outside_is, other_edges}
use Rattle.block_evidence.specs.SightTree.WholeTree.{HasNoNode}
use Rattle.cert_checker.specs.TreeJudge.Roots.{way_out_of}
use Rattle.sight_names.proofs.Roots.{is_named, names_true}
use Rattle.mesh_base.proofs.GoodMesh.{found_at}

-- whoever goes through the portal enters triangle k by half-edge i
pub record Enters (p : PlanParts) (ts : List Triangle) (ls : List (Option ℕ)) (xs : List HalfEdge) (q : Portal) (i : ℕ) : Type 0 where
  pub k : ℕ
  pub t : Triangle
  pub x : HalfEdge
  pub found : triangle_at ts (entry_edge q) ≡ Some k
  pub there : slice_get ts k ≡ Some t
  pub is : slice_get xs i ≡ Some x
  pub left : x.left ≡ q.left
  pub right : x.right ≡ q.right
  pub left_at : x.left_at ≡ place (map_of p) q.left
  pub right_at : x.right_at ≡ place (map_of p) q.right
  pub third : third_point (entry_edge q) t ≡ x.apex
  pub label : label_of ls k ≡ x.sector
  pub left_way : x.left_way ≡ entering ts xs (edge q.left x.apex)
  pub right_way : x.right_way ≡ entering ts xs (edge x.apex q.right)
  pub left_edge : HasEdge t (edge x.apex q.left)
  pub right_edge : HasEdge t (edge q.right x.apex)

-- each triangle has a sector
abbrev pub AreAllNamed : List Triangle → List (Option ℕ) → Type 0
AreAllNamed ts ls = (k : ℕ) (t : Triangle) → slice_get ts k ≡ Some t → (a : ℕ) × (label_of ls k ≡ Some a)

-- ---- whether a sector is the source

module _ (p : PlanParts) (ts : List Triangle) (xs : List HalfEdge) (w : AreOfGoodMesh p ts xs) where
  -- the sectors of the triangles
  abbrev ls : List (Option ℕ)
  ls = w.labels

  -- the half-edge along an edge is what one finds there
  enters_by : (q : Portal) (i : ℕ) (x : HalfEdge) → slice_get xs i ≡ Some x → IsHalfEdge p ts ls xs (entry_edge q) x → Enters p ts ls xs q i
  enters_by q i x at is = by (found_at ts (entry_edge q) x.triangle is.triangle)
    where
      left : x.left ≡ q.left
      left = ap (λ (r : Portal). r.left) is.portal

      right : x.right ≡ q.right
      right = ap (λ (r : Portal). r.right) is.portal

      by : (t : Triangle) × (slice_get ts x.triangle ≡ Some t) × HasEdge t (entry_edge q) → Enters p ts ls xs q i
      by (t, there, has) = record {
        k = x.triangle;
        t = t;
        x = x;
        found = is.triangle;
        there = there;
        is = at;
        left = left;
        right = right;
        left_at = is.left_at ∙ ap (place (map_of p)) left;
        right_at = is.right_at ∙ ap (place (map_of p)) right;
        third = third;
        label = is.label;
        left_way = is.left_way ∙ ap (λ (n : ℕ). entering ts xs (edge n x.apex)) left;
        right_way = is.right_way ∙ ap (λ (n : ℕ). entering ts xs (edge x.apex n)) right;
        left_edge = subst (λ (n : ℕ). HasEdge t (edge n q.left)) third others.0;
        right_edge = subst (λ (n : ℕ). HasEdge t (edge q.right n)) third others.1;
      }
        where
          third : third_point (entry_edge q) t ≡ x.apex
          third = same_Some (third_point (entry_edge q) t) x.apex (sym (ap (λ (o : Option ℕ). option_map (third_point (entry_edge q)) (option_and_then (slice_get ts) o)) is.triangle ∙ ap (option_map (third_point (entry_edge q))) there)
              ∙ ap (λ (r : Portal). option_map (third_point (entry_edge r)) (option_and_then (slice_get ts) (triangle_at ts (entry_edge r)))) (sym is.portal) ∙ is.third)

          others : HasEdge t (edge (third_point (entry_edge q) t) q.left) × HasEdge t (edge q.right (third_point (entry_edge q) t))
          others = other_edges t (entry_edge q) has

  pub entered_by : (q : Portal) (i : ℕ) → IsReached p ts ls xs (entry_edge q) i → Enters p ts ls xs q i
  entered_by q i r = enters_by q i r.x r.at r.is

  -- ---- portals with a triangle behind them

  -- it is a solid line, or there is a triangle behind it
  abbrev pub IsInner : Portal → Type 0
  IsInner q = IsSolidLine (map_of p) q ⊎ ((k : ℕ) × (triangle_at ts (entry_edge q) ≡ Some k))

  -- the passable line's other side has a triangle too
  pub passable : (i : ℕ) (l : MapLine) (left : Bool) → line_at (map_of p) i ≡ Some l → l.solid ≡ false → (k : ℕ) × (triangle_at ts (side_edge (map_of p) l left) ≡ Some k)
  passable i l left e s = by left (named left)
    where
      fits : IsMapLine p.sectors l
      fits = plan_is_map p w.plan i l e

      no : IsTrue l.solid → ⊥
      no h = opposite (sym s ∙ h)
        where
          opposite : ◌≡◌ {A = Bool} false true → ⊥
          opposite q = cc

      some : (o : Option ℕ) → (o ≡ None → IsTrue l.solid) → (a : ℕ) × (o ≡ Some a)
      some None f = absurd (no (f refl))
      some (Some a) f = (a, refl)

      named : (b : Bool) → (a : ℕ) × (sector_on l b ≡ Some a)
      named true = some l.left fits.solid_left
      named false = some l.right fits.solid_right

      by : (b : Bool) → (a : ℕ) × (sector_on l b ≡ Some a) → (k : ℕ) × (triangle_at ts (side_edge (map_of p) l b) ≡ Some k)
      by b (a, h) = let f = w.good.fits.sides (record { line = i; left = b }) l a e (ap (option_and_then (λ (x : MapLine). sector_on x b)) e ∙ h) in (f.0, f.1)

  -- the reverse of an edge of a labelled triangle
  behind_edge : (k a : ℕ) (t : Triangle) (u v : ℕ) → slice_get ts k ≡ Some t → label_of ls k ≡ Some a → HasEdge t (edge u v) → IsInner (record { left = v; right = u })
  behind_edge k a t u v e f h = elim ((plan_facts p w.plan).dec_line (edge u v)) as (λ _. IsInner (record { left = v; right = u })) [
    | inl d ↦ of_line d
    | inr n ↦ (let g = w.good.mates k a t (edge u v) e f h n in inr (g.0, g.1))
  ]
    where
      turned : (l : MapLine) (left : Bool) → edge u v ≡ side_edge (map_of p) l left → side_edge (map_of p) l (not left) ≡ edge v u
      turned l true g = ap reverse_of (sym g)
      turned l false g = ap reverse_of (sym g)

      of_line : IsLineEdge (map_of p) (edge u v) → IsInner (record { left = v; right = u })
      of_line (i, l, left, is, g) = at l.solid refl
        where
          at : (b : Bool) → l.solid ≡ b → IsInner (record { left = v; right = u })
          at true s = inl (i, l, not left, is, s, turned l left g)
          at false s = let f = passable i l (not left) is s in inr (f.0, subst (λ (d : Edge). triangle_at ts d ≡ Some f.0) (turned l left g) f.1)

  pub left_inner : AreAllNamed ts ls → (q : Portal) (i : ℕ) (n : Enters p ts ls xs q i) → IsInner (way_out q Left n.x.apex)
  left_inner named q i n = let a = named n.k n.t n.there in behind_edge n.k a.0 n.t n.x.apex q.left n.there a.1 n.left_edge

  pub right_inner : AreAllNamed ts ls → (q : Portal) (i : ℕ) (n : Enters p ts ls xs q i) → IsInner (way_out q Right n.x.apex)
  right_inner named q i n = let a = named n.k n.t n.there in behind_edge n.k a.0 n.t q.right n.x.apex n.there a.1 n.right_edge

  -- ---- half-edges that are asked, and portals without a node

  behind : (a : ℕ) (e : Edge) (i : ℕ) (x : HalfEdge) → entering ts xs e ≡ Some i → slice_get xs i ≡ Some x → way_out_of ts xs a e ≡ (let o : Option ℕ = if names_it x.sector a then None else Some i in o)
  behind a e i x h at = ap (way_outside xs a) h ∙ outside_is xs a i x at

  inside : (a i : ℕ) (x : HalfEdge) (b : Bool) → names_it x.sector a ≡ b → (let o : Option ℕ = if names_it x.sector a then None else Some i in o) ≡ (if b then None else Some i)
  inside a i x b e = ap (λ (c : Bool). let o : Option ℕ = if c then None else Some i in o) e

  nowhere : (a : ℕ) (e : Edge) → entering ts xs e ≡ None → way_out_of ts xs a e ≡ None
  nowhere a e h = ap (way_outside xs a) h

  -- a portal that isn't asked has no node
  pub not_asked : (a : ℕ) (q : Portal) → IsInner q → way_out_of ts xs a (entry_edge q) ≡ None → HasNoNode (map_of p) ts ls a q
  not_asked a q inner e = at (entering ts xs (entry_edge q)) refl
    where
      no_triangle : IsInner q → triangle_at ts (entry_edge q) ≡ None → HasNoNode (map_of p) ts ls a q
      no_triangle (inl s) h = inl s
      no_triangle (inr (k, f)) h = absurd (none-some k (sym h ∙ f))

      test : (i : ℕ) (r : IsReached p ts ls xs (entry_edge q) i) → entering ts xs (entry_edge q) ≡ Some i → (b : Bool) → names_it r.x.sector a ≡ b → HasNoNode (map_of p) ts ls a q
      test i r h true n = inr (r.x.triangle, r.is.triangle, r.is.label ∙ names_true r.x.sector a n)
      test i r h false n = absurd (none-some i (sym e ∙ behind a (entry_edge q) i r.x h r.at ∙ inside a i r.x false n))

      at : (o : Option ℕ) → entering ts xs (entry_edge q) ≡ o → HasNoNode (map_of p) ts ls a q
      at None h = elim (not_reached p ts ls xs w.edges (entry_edge q) h) as (λ _. HasNoNode (map_of p) ts ls a q) [ inl n ↦ no_triangle inner n | inr s ↦ inl s ]
      at (Some i) h = let r = reached p ts ls xs w.edges (entry_edge q) i h in test i r h (names_it r.x.sector a) refl

  -- a portal that is asked enters a triangle that isn't one of the source, and no wall stands in it
  pub record IsAsked (a : ℕ) (q : Portal) (i : ℕ) : Type 0 where
    pub enters : Enters p ts ls xs q i
    pub no_wall : ¬ IsSolidLine (map_of p) q
    pub outside : enters.x.sector ≡ Some a → ⊥

  pub asked : (a : ℕ) (q : Portal) (i : ℕ) → way_out_of ts xs a (entry_edge q) ≡ Some i → IsAsked a q i
  unfolding entered_by enters_by
  asked a q i e = at (entering ts xs (entry_edge q)) refl
    where
      test : (j : ℕ) (r : IsReached p ts ls xs (entry_edge q) j) → entering ts xs (entry_edge q) ≡ Some j → (b : Bool) → names_it r.x.sector a ≡ b → IsAsked a q i
      test j r h true n = absurd (none-some i (sym (behind a (entry_edge q) j r.x h r.at ∙ inside a j r.x true n) ∙ e))
      test j r h false n = subst (IsAsked a q) (same_Some j i (sym (behind a (entry_edge q) j r.x h r.at ∙ inside a j r.x false n) ∙ e)) (record {
        enters = entered_by q j r;
        no_wall = λ s. r.no_wall (subst (IsSolidLine (map_of p)) (sym r.is.portal) s);
        outside = λ s. true≢false (sym (is_named r.x.sector a s) ∙ n);
      })

      at : (o : Option ℕ) → entering ts xs (entry_edge q) ≡ o → IsAsked a q i
      at None h = absurd (none-some i (sym (nowhere a (entry_edge q) h) ∙ e))
      at (Some j) h = let r = reached p ts ls xs w.edges (entry_edge q) j h in test j r h (names_it r.x.sector a) refl

  -- a portal that has no node isn't asked
  pub no_node_unasked : (a : ℕ) (q : Portal) → HasNoNode (map_of p) ts ls a q → way_out_of ts xs a (entry_edge q) ≡ None
  no_node_unasked a q none = at (entering ts xs (entry_edge q)) refl
    where
      by : (i : ℕ) (r : IsReached p ts ls xs (entry_edge q) i) → entering ts xs (entry_edge q) ≡ Some i → HasNoNode (map_of p) ts ls a q → way_out_of ts xs a (entry_edge q) ≡ None
      by i r h (inl s) = absurd (r.no_wall (subst (IsSolidLine (map_of p)) (sym r.is.portal) s))
      by i r h (inr (k, found, label)) = behind a (entry_edge q) i r.x h r.at ∙ inside a i r.x true (is_named r.x.sector a (sym r.is.label ∙ ap (label_of ls) (same_Some r.x.triangle k (sym r.is.triangle ∙ found)) ∙ label))

      at : (o : Option ℕ) → entering ts xs (entry_edge q) ≡ o → way_out_of ts xs a (entry_edge q) ≡ None
      at None h = nowhere a (entry_edge q) h
      at (Some i) h = by i (reached p ts ls xs w.edges (entry_edge q) i h) h none

  -- a portal that has one is
  pub node_asked : (a : ℕ) (q : Portal) (k : ℕ) → ¬ IsSolidLine (map_of p) q → triangle_at ts (entry_edge q) ≡ Some k → label_of ls k ≢ Some a → (i : ℕ) × (way_out_of ts xs a (entry_edge q) ≡ Some i)
  node_asked a q k open_ found outside = at (entering ts xs (entry_edge q)) refl
    where
      test : (i : ℕ) (r : IsReached p ts ls xs (entry_edge q) i) → entering ts xs (entry_edge q) ≡ Some i → (b : Bool) → names_it r.x.sector a ≡ b → (i : ℕ) × (way_out_of ts xs a (entry_edge q) ≡ Some i)
      test i r h true n = absurd (outside (ap (label_of ls) (same_Some k r.x.triangle (sym found ∙ r.is.triangle)) ∙ r.is.label ∙ names_true r.x.sector a n))
      test i r h false n = (i, behind a (entry_edge q) i r.x h r.at ∙ inside a i r.x false n)

      at : (o : Option ℕ) → entering ts xs (entry_edge q) ≡ o → (i : ℕ) × (way_out_of ts xs a (entry_edge q) ≡ Some i)
      at None h = elim (not_reached p ts ls xs w.edges (entry_edge q) h) as (λ _. (i : ℕ) × (way_out_of ts xs a (entry_edge q) ≡ Some i)) [ inl n ↦ absurd (none-some k (sym n ∙ found)) | inr s ↦ absurd (open_ s) ]
      at (Some i) h = let r = reached p ts ls xs w.edges (entry_edge q) i h in test i r h (names_it r.x.sector a) refl
