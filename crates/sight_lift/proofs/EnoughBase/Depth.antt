-- A line that splits the ends of a sequence enters no triangle twice: so the portals are at most the triangles.
use Rattle.std.proofs.Common.{◌≡◌, ℕ, ◌<◌, ◌≤◌, ℤ, pos, ◌<ℤ◌, sym, ◌∙◌, subst, List, [], ◌∷◌, length, Some, slice_get}
use Rattle.std.specs.List.{AllByRecursion}
use Rattle.std.proofs.lemmas.Option.{same_Some, slice_get_within}
use Rattle.sight_names.specs.declared.names.Triangle.{Triangle}
use Rattle.sight_names.specs.Point.{point_of, turn_at, value_at}
use Rattle.sight_names.specs.Map.{Map}
use Rattle.sight_names.specs.Points.{place}
use Rattle.sight_names.specs.Mesh.{HasEdge, triangle_at, IsCounterclockwise}
use Rattle.sight_names.specs.Splitting.{EndPoints, IsParted}
use Rattle.sight_names.specs.Sequence.{Portal, Way, Left, Right, entry_edge, third_point, apex, way_out}
use Rattle.mesh_base.proofs.CleanMesh.{turned_to_third}
use Rattle.sight_lift.proofs.EnoughBase.Few.{Differ, few}
use Rattle.sight_lift.proofs.EnoughBase.Crossings.{wide, Later, never_later, later_trans, crossed_left, crossed_right}
use Rattle.sight_lift.proofs.EnoughBase.Thirds.{behind, third_on_left, one_way_in}
use Rattle.sight_lift.proofs.EnoughBase.Linked.{Follows, Linked}

abbrev pub ends_at : Map → Portal → EndPoints
ends_at m p = record { left = place m p.left; right = place m p.right }

-- each triangle is counterclockwise
abbrev pub AllTurn : Map → List Triangle → Type 0
AllTurn m ts = (k : ℕ) (t : Triangle) → slice_get ts k ≡ Some t → IsCounterclockwise m t

-- a triangle is behind the portal
abbrev pub HasTriangle : List Triangle → Portal → Type 0
HasTriangle ts p = (k : ℕ) × (triangle_at ts (entry_edge p) ≡ Some k)

module _ (m : Map) (ts : List Triangle) (turns : AllTurn m ts) (a b c : ℤ) where
  abbrev Parted : Portal → Type 0
  Parted p = IsParted a b c (ends_at m p)

  abbrev After : Portal → Portal → Type 0
  After p q = Later a b c (ends_at m p) (ends_at m q)

  after_way : (p : Portal) → Parted p → HasTriangle ts p → (w : Way) (t : ℕ) → apex ts p ≡ Some t → After p (way_out p w t)
  after_way p h (k, e) w t is =
      let n = behind ts p k e in
      let i = turned_to_third n.triangle p.left p.right n.edge in
      let same : third_point (entry_edge p) n.triangle ≡ t = same_Some (third_point (entry_edge p) n.triangle) t (sym n.third ∙ is) in
      let l = third_on_left m n.triangle p.left p.right (third_point (entry_edge p) n.triangle) (turns k n.triangle n.there) i in
      let on_left : pos 0 <ℤ turn_at (place m p.left) (place m p.right) (point_of (place m t)) = subst (λ (x : ℕ). pos 0 <ℤ turn_at (place m p.left) (place m p.right) (point_of (place m x))) same l in
      go w on_left
    where
      go : (w : Way) → pos 0 <ℤ turn_at (place m p.left) (place m p.right) (point_of (place m t)) → After p (way_out p w t)
      go Left o = crossed_left a b c (place m p.left) (place m p.right) (place m t) o h
      go Right o = crossed_right a b c (place m p.left) (place m p.right) (place m t) o h

  after_next : (p q : Portal) → Parted p → HasTriangle ts p → Follows ts p q → After p q
  after_next p q h t f = subst (After p) (sym f.is) (after_way p h t f.way f.third f.is_apex)

  after_all : (p q : Portal) → Parted p → Parted q → After p q → (qs : List Portal) → AllByRecursion Parted qs → AllByRecursion (After q) qs → AllByRecursion (After p) qs
  after_all p q hp hq k [] h l = tt
  after_all p q hp hq k (r ∷ rs) h l = (
    later_trans a b c (ends_at m p) (ends_at m q) (ends_at m r) (wide a b c (ends_at m p) hp) (wide a b c (ends_at m q) hq) (wide a b c (ends_at m r) h.0) k l.0,
    after_all p q hp hq k rs h.1 l.1,
  )

  -- all portals behind the first are crossed later
  pub crossed_later : (p : Portal) (ps : List Portal) → Linked ts p ps → AllByRecursion Parted (p ∷ ps) → AllByRecursion (HasTriangle ts) (p ∷ ps) → AllByRecursion (After p) ps
  crossed_later p [] l h t = tt
  crossed_later p (q ∷ qs) l h t =
      let k = after_next p q h.0 t.0 l.0 in
      (k, after_all p q h.0 h.1.0 k qs h.1.1 (crossed_later q qs l.1 h.1 t.1))

  other : (p : Portal) (ps : List Portal) → AllByRecursion (After p) ps → AllByRecursion (λ q. ¬ (p ≡ q)) ps
  other p [] h = tt
  other p (q ∷ qs) h = ((λ e. never_later a b c (ends_at m p) (subst (After p) (sym e) h.0)), other p qs h.1)

  -- no portal comes twice
  pub differ : (p : Portal) (ps : List Portal) → Linked ts p ps → AllByRecursion Parted (p ∷ ps) → AllByRecursion (HasTriangle ts) (p ∷ ps) → Differ (p ∷ ps)
  differ p [] l h t = (tt, tt)
  differ p (q ∷ qs) l h t = (other p (q ∷ qs) (crossed_later p (q ∷ qs) l h t), differ q qs l.1 h.1 t.1)

  -- the portal leads into the triangle, and the line crosses it
  abbrev Into : Portal → ℕ → Type 0
  Into p k = (triangle_at ts (entry_edge p) ≡ Some k) × Parted p

  -- by one portal alone
  pub one_portal : (p q : Portal) (k : ℕ) → Into p k → Into q k → p ≡ q
  one_portal p q k i j =
      let x = behind ts p k i.0 in
      let y = behind ts q k j.0 in
      let same : y.triangle ≡ x.triangle = same_Some y.triangle x.triangle (sym y.there ∙ x.there) in
      let e = turned_to_third x.triangle p.left p.right x.edge in
      let f = turned_to_third x.triangle q.left q.right (subst (λ (t : Triangle). HasEdge t (entry_edge q)) same y.edge) in
      let r = one_way_in (λ n. value_at a b c (point_of (place m n))) x.triangle p.left p.right (third_point (entry_edge p) x.triangle) q.left q.right (third_point (entry_edge q) x.triangle) e f i.1.0 i.1.1 j.1.0 j.1.1 in
      λ d. record { left = r.0 d; right = r.1 d }

  coded : (ps : List Portal) → AllByRecursion Parted ps → AllByRecursion (HasTriangle ts) ps → AllByRecursion (λ p. (k : ℕ) × (k < length ts) × Into p k) ps
  coded [] h t = tt
  coded (p ∷ ps) h t = (let n = behind ts p t.0.0 t.0.1 in (t.0.0, slice_get_within ts t.0.0 n.triangle n.there, (t.0.1, h.0)), coded ps h.1 t.1)

  pub few_portals : (p : Portal) (ps : List Portal) → Linked ts p ps → AllByRecursion Parted (p ∷ ps) → AllByRecursion (HasTriangle ts) (p ∷ ps) → length (p ∷ ps) ≤ length ts
  few_portals p ps l h t = few Into (length ts) one_portal (p ∷ ps) (coded (p ∷ ps) h t) (differ p ps l h t)
