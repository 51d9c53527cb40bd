-- A stabbable sequence is told by its root, its tangent's two points and its length: so a source has few of them.
use Rattle.std.proofs.Common.{◌≡◌, ℕ, ◌+◌, ◌*◌, ◌<◌, ℤ, arith, refl, sym, ap, ◌∙◌, subst, inl, inr, List, [], ◌∷◌, length, Option, Some, None}
use Rattle.std.specs.List.{AllByRecursion}
use Rattle.std.proofs.lemmas.Option.{none-some, same_Some}
use Rattle.sight_names.specs.declared.names.Triangle.{Triangle}
use Rattle.sight_names.specs.Map.{Map}
use Rattle.sight_names.specs.Points.{points_of, place}
use Rattle.sight_names.specs.Mesh.{AreTriangles}
use Rattle.sight_names.specs.Splitting.{IsParted}
use Rattle.sight_names.specs.Sequence.{Portal, IsSequence, Sequence, LeadsOutside, Splits, entry_edge, third_point, portals_from, root_portal}
use Rattle.sight_names.specs.Found.{IsStabbableSequence}
use Rattle.plane_base.specs.Arrows.{Arrow}
use Rattle.plane_base.proofs.Every.{all_in, all_weaker}
use Rattle.sight_lift.proofs.EnoughBase.Tangents.{IsTangent, Tangent, tangent_parts, tangent_exists}
use Rattle.sight_lift.proofs.EnoughBase.Crossings.{arrow_to, normal, ahead}
use Rattle.mesh_base.proofs.CleanMesh.{turned_to_third, turned_below}
use Rattle.sight_lift.proofs.EnoughBase.Thirds.{behind}
use Rattle.sight_lift.proofs.EnoughBase.Linked.{Linked, begun, same_or_crossed}
use Rattle.sight_lift.proofs.EnoughBase.Depth.{ends_at, AllTurn, HasTriangle, few_portals}
use Rattle.sight_lift.proofs.EnoughBase.Numbers.{digit_below, same_digits}

-- ---- the inner tangent of portals that a line splits

abbrev pub left_end : Map → Portal → Arrow
left_end m p = arrow_to (place m p.left)

abbrev pub right_end : Map → Portal → Arrow
right_end m p = arrow_to (place m p.right)

parted_each : (m : Map) (a b c : ℤ) (ps : List Portal) → Splits m ps a b c → AllByRecursion (λ p. IsParted a b c (ends_at m p)) ps
parted_each m a b c [] h = tt
parted_each m a b c (p ∷ ps) h = (h.0, parted_each m a b c ps h.1)

pub tangent_by : (m : Map) (p : Portal) (ps : List Portal) (a b c : ℤ) → AllByRecursion (λ q. IsParted a b c (ends_at m q)) (p ∷ ps) → Tangent (left_end m) (right_end m) (p ∷ ps)
tangent_by m p ps a b c h = tangent_exists (left_end m) (right_end m) (normal a b c) p ps
    (λ q r i j. ahead a b c (ends_at m q) (ends_at m r) (all_in (λ q. IsParted a b c (ends_at m q)) (p ∷ ps) h q i) (all_in (λ q. IsParted a b c (ends_at m q)) (p ∷ ps) h r j))

-- ---- what a stabbable sequence is made of

module _ (m : Map) (ts : List Triangle) where
  -- the portals of a sequence, the ends of which a line splits
  pub record Split (s : Sequence) (ps : List Portal) (a b c : ℤ) : Type 0 where
    pub first : Portal
    pub rest : List Portal
    pub is : ps ≡ first ∷ rest
    pub is_first : root_portal m s.root ≡ Some first
    pub goes_on : portals_from ts (Some first) s.ways ≡ Some (first ∷ rest)
    pub linked : Linked ts first rest
    pub as_long : length rest ≡ length s.ways
    pub parted : AllByRecursion (λ p. IsParted a b c (ends_at m p)) (first ∷ rest)
    pub triangles : AllByRecursion (HasTriangle ts) (first ∷ rest)

  pub split_of : (ls : List (Option ℕ)) (a : ℕ) (s : Sequence) (ps : List Portal) → IsSequence m ts ls a s ps → (x y z : ℤ) → Splits m ps x y z → Split s ps x y z
  split_of ls a s ps is x y z splits = go (root_portal m s.root) refl is.portals
    where
      go : (o : Option Portal) → root_portal m s.root ≡ o → portals_from ts o s.ways ≡ Some ps → Split s ps x y z
      go None e h = absurd (none-some ps h)
      go (Some p) e h =
          let r = begun ts p s.ways ps h in
          record {
            first = p;
            rest = r.rest;
            is = r.is;
            is_first = e;
            goes_on = h ∙ ap Some r.is;
            linked = r.linked;
            as_long = r.as_long;
            parted = parted_each m x y z (p ∷ r.rest) (subst (λ (qs : List Portal). Splits m qs x y z) r.is splits);
            triangles = subst (AllByRecursion (HasTriangle ts)) r.is (all_weaker (LeadsOutside ts ls a) (HasTriangle ts) (λ q l. (l.0, l.1)) ps is.outside);
          }

  -- a sequence whose ends some line splits
  pub record Stabbed (s : Sequence) : Type 0 where
    pub portals : List Portal
    pub a : ℤ
    pub b : ℤ
    pub c : ℤ
    pub split : Split s portals a b c

  pub stabbed : (ls : List (Option ℕ)) (a : ℕ) (s : Sequence) → IsStabbableSequence m ts ls a s → Stabbed s
  stabbed ls a s (ps, is, (x, y, z, splits)) = record { portals = ps; a = x; b = y; c = z; split = split_of ls a s ps is x y z splits }

  pub tangent_of : (s : Sequence) (h : Stabbed s) → Tangent (left_end m) (right_end m) (h.split.first ∷ h.split.rest)
  tangent_of s h = tangent_by m h.split.first h.split.rest h.a h.b h.c h.split.parted

  -- two stabbable sequences of one root, of equal lengths and with equal tangents, are one
  pub same_ways : (s t : Sequence) (g : Stabbed s) (h : Stabbed t) (l r : Arrow) → s.root ≡ t.root → length s.ways ≡ length t.ways → IsTangent (left_end m) (right_end m) (g.split.first ∷ g.split.rest) l r → IsTangent (left_end m) (right_end m) (h.split.first ∷ h.split.rest) l r → s.ways ≡ t.ways
  same_ways s t g h l r e k x y =
      let first : h.split.first ≡ g.split.first = same_Some h.split.first g.split.first (sym h.split.is_first ∙ ap (root_portal m) (sym e) ∙ g.split.is_first) in
      let goes : portals_from ts (Some g.split.first) t.ways ≡ Some (h.split.first ∷ h.split.rest) = subst (λ (p : Portal). portals_from ts (Some p) t.ways ≡ Some (h.split.first ∷ h.split.rest)) first h.split.goes_on in
      elim (same_or_crossed ts g.split.first s.ways t.ways (g.split.first ∷ g.split.rest) (h.split.first ∷ h.split.rest) k g.split.goes_on goes) as (λ _. s.ways ≡ t.ways) [
        | inl w ↦ w
        | inr c ↦ absurd (elim c as (λ _. ⊥) [
          | inl q ↦ tangent_parts (left_end m) (right_end m) (g.split.first ∷ g.split.rest) (h.split.first ∷ h.split.rest) l r x y q.0 q.1 q.2 q.3 (ap (λ (n : ℕ). arrow_to (place m n)) q.4)
          | inr q ↦ tangent_parts (left_end m) (right_end m) (h.split.first ∷ h.split.rest) (g.split.first ∷ g.split.rest) l r y x q.0 q.1 q.2 q.3 (ap (λ (n : ℕ). arrow_to (place m n)) q.4)
        ])
      ]

  -- ---- its code

  abbrev points : ℕ
  points = length (points_of m)

  -- the tangent's points and the number of ways, as one number
  pub record IsCode (s : Sequence) (code : ℕ) : Type 0 where
    pub stabbed : Stabbed s
    pub left : ℕ
    pub right : ℕ
    pub left_below : left < points
    pub right_below : right < points
    pub short : length s.ways < length ts
    pub tangent : IsTangent (left_end m) (right_end m) (stabbed.split.first ∷ stabbed.split.rest) (arrow_to (place m left)) (arrow_to (place m right))
    pub is : code ≡ (left * points + right) * length ts + length s.ways

  ends_of_portal : AreTriangles points ts → (p : Portal) → HasTriangle ts p → (p.left < points) × (p.right < points)
  ends_of_portal are p (k, e) =
      let n = behind ts p k e in
      turned_below points n.triangle p.left p.right (third_point (entry_edge p) n.triangle) (are.each k n.triangle n.there) (turned_to_third n.triangle p.left p.right n.edge)

  pub code_of : AreTriangles points ts → AllTurn m ts → (s : Sequence) → Stabbed s → (code : ℕ) × (code < points * points * length ts) × IsCode s code
  code_of are turns s h =
      let t = tangent_of s h in
      let i = ends_of_portal are t.at_left (all_in (HasTriangle ts) (h.split.first ∷ h.split.rest) h.split.triangles t.at_left t.in_left) in
      let j = ends_of_portal are t.at_right (all_in (HasTriangle ts) (h.split.first ∷ h.split.rest) h.split.triangles t.at_right t.in_right) in
      let n = few_portals m ts turns h.a h.b h.c h.split.first h.split.rest h.split.linked h.split.parted h.split.triangles in
      let e = h.split.as_long in
      let short : length s.ways < length ts = omega arith in (
        (t.at_left.left * points + t.at_right.right) * length ts + length s.ways,
        digit_below (points * points) (length ts) (t.at_left.left * points + t.at_right.right) (length s.ways) (digit_below points points t.at_left.left t.at_right.right i.0 j.1) short,
        record { stabbed = h; left = t.at_left.left; right = t.at_right.right; left_below = i.0; right_below = j.1; short = short; tangent = t.tangent; is = refl },
      )

  pub code_tells : (s t : Sequence) (c : ℕ) → s.root ≡ t.root → IsCode s c → IsCode t c → s ≡ t
  code_tells s t c e g h =
      let d = same_digits (length ts) (g.left * points + g.right) (length s.ways) (h.left * points + h.right) (length t.ways) g.short h.short (sym g.is ∙ h.is) in
      let f = same_digits points g.left g.right h.left h.right g.right_below h.right_below d.0 in
      let y : IsTangent (left_end m) (right_end m) (h.stabbed.split.first ∷ h.stabbed.split.rest) (arrow_to (place m g.left)) (arrow_to (place m g.right)) =
      subst (λ (n : ℕ). IsTangent (left_end m) (right_end m) (h.stabbed.split.first ∷ h.stabbed.split.rest) (arrow_to (place m n)) (arrow_to (place m g.right))) (sym f.0)
      (subst (λ (n : ℕ). IsTangent (left_end m) (right_end m) (h.stabbed.split.first ∷ h.stabbed.split.rest) (arrow_to (place m h.left)) (arrow_to (place m n))) (sym f.1) h.tangent) in
      let w = same_ways s t g.stabbed h.stabbed (arrow_to (place m g.left)) (arrow_to (place m g.right)) e d.1 g.tangent y in
      λ i. record { root = e i; ways = w i }
