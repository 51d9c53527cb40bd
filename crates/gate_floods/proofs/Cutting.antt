-- What is behind a triangle of b on the way to c is a shorter sequence of b; and a sequence walked back is one.
use Rattle.std.proofs.Common.{◌≡◌, ◌≢◌, ℕ, suc, ◌+◌, ◌≤◌, ◌⊎◌, inl, inr, List, [], ◌∷◌, length, slice_get, Option, Some, option_map, option_and_then, Bool, true, false, not, Contains, refl, sym, ap, ◌∙◌, subst, arith, ℤ, pos, neg_ℤ, ◌<ℤ◌}
use Rattle.std.specs.List.{AllByRecursion}
use borrow.Author.Differences.{ints}
use Rattle.sight_names.specs.declared.names.Triangle.{Triangle}
use Rattle.sight_names.specs.Point.{point_of}
use Rattle.sight_names.specs.Map.{Map, IsMap, sector_on}
use Rattle.sight_names.specs.Points.{place, reverse_of}
use Rattle.sight_names.specs.Mesh.{IsGoodMesh, triangle_at, label_of, side_edge}
use Rattle.sight_names.specs.Sequence.{Portal, Way, Left, Right, Sequence, IsSequence, IsSolidLine, LeadsOutside, Splits, entry_edge, way_out, portals_from, reached}
use Rattle.sight_names.proofs.Affine.{neg_value}
use Rattle.mesh_base.proofs.GoodMesh.{PointFacts, same_or_not}
use Rattle.mesh_base.proofs.MapFacts.{map_facts}
use Rattle.math_base.proofs.Options.{some_is_same}
use Rattle.sight_lift.proofs.Behind.{Third, Behind, behind, behind_third, third_turned}
use Rattle.sight_lift.proofs.Doors.{Door, Link, way_over, other_edge, named_is}
use Rattle.sight_lift.proofs.Sequences.{next_portals, begun, begun_door, cons_same as tail_same}
use Rattle.sight_lift.proofs.Tails.{IsCrossed, root_listed, root_portal_is}
use Rattle.gate_floods.specs.Reaching.{ReachesWithin, SequencesTurn}
use Rattle.cert_checker.proofs.Seeing.{all_at}

pub alone : (ts : List Triangle) (p : Portal) (qs : List Portal) → portals_from ts (Some p) [] ≡ Some (p ∷ qs) → [] ≡ qs
alone ts p qs e = tail_same p p [] qs (some_is_same (p ∷ []) (p ∷ qs) e)

module _ (m : Map) (is_map : IsMap m) (ts : List Triangle) (ls : List (Option ℕ)) (good : IsGoodMesh m ts ls) where
  facts : PointFacts m
  facts = map_facts m is_map

  abbrev pub NoWalls : List Portal → Type 0
  NoWalls ps = AllByRecursion (λ (q : Portal). ¬ IsSolidLine m q) ps

  -- the last portal leads into label c
  pub last_label : (p : Portal) (k d c : ℕ) → triangle_at ts (entry_edge p) ≡ Some k → label_of ls k ≡ Some d → reached ts ls (p ∷ []) ≡ Some c → d ≡ c
  last_label p k d c found label arrives = some_is_same d c (sym label ∙ sym (ap (λ (o : Option ℕ). option_and_then (label_of ls) o) found) ∙ arrives)

  other_label : (p : Portal) (k d b : ℕ) → triangle_at ts (entry_edge p) ≡ Some k → label_of ls k ≡ Some d → ¬ (d ≡ b) → LeadsOutside ts ls b p
  other_label p k d b found label n = (k, found, λ e. n (some_is_same d b (sym label ∙ e)))

  -- portals that begin with a passable line out of a are those of a sequence
  pub rooted : (x y z : ℤ) (n a b c : ℕ) (p : Portal) (ws : List Way) (qs : List Portal) → Door m a c p → ¬ (c ≡ a) → portals_from ts (Some p) ws ≡ Some (p ∷ qs) → NoWalls (p ∷ qs) → AllByRecursion (LeadsOutside ts ls a) (p ∷ qs)
      → Splits m (p ∷ qs) x y z → reached ts ls (p ∷ qs) ≡ Some b → suc (length qs) ≤ n → ReachesWithin m ts ls n a b
  rooted x y z n a b c p ws qs d differ from walls outside split arrives few = record {
    sequence = record { root = record { line = d.number; left = d.left }; ways = ws };
    portals = p ∷ qs;
    is = record {
      root = root_listed m a c d.number d.line d.left d.is d.passable d.from d.to differ;
      portals = ap (λ (o : Option Portal). portals_from ts o ws) (root_portal_is m d.number d.line d.left p d.is d.edge) ∙ from;
      no_wall = walls;
      outside = outside;
    };
    line = (x, y, z, split);
    arrives = arrives;
    few = few;
  }

  -- ---- cut off what comes before b is left for the last time

  module _ (x y z : ℤ) (b c : ℕ) (differ : ¬ (c ≡ b)) where
    -- a sequence of b with fewer portals, or b is never entered
    abbrev pub Cut : ℕ → Portal → List Portal → Type 0
    Cut d p qs = ReachesWithin m ts ls (length qs) b c ⊎ ((¬ (d ≡ b)) × AllByRecursion (LeadsOutside ts ls b) (p ∷ qs))

    longer : (i n : ℕ) → i ≤ n → ReachesWithin m ts ls i b c → ReachesWithin m ts ls n b c
    longer i n l r = record { sequence = r.sequence; portals = r.portals; is = r.is; line = r.line; arrives = r.arrives; few = let k = r.few in omega arith }

    pub cut : (ws : List Way) (p : Portal) (qs : List Portal) (k d : ℕ) → portals_from ts (Some p) ws ≡ Some (p ∷ qs) → triangle_at ts (entry_edge p) ≡ Some k → label_of ls k ≡ Some d
        → NoWalls (p ∷ qs) → Splits m (p ∷ qs) x y z → reached ts ls (p ∷ qs) ≡ Some c → Cut d p qs
    cut [] p qs k d from found label walls split arrives =
        let none = alone ts p qs from in
        let is_c : d ≡ c = last_label p k d c found label (subst (λ (rs : List Portal). reached ts ls (p ∷ rs) ≡ Some c) (sym none) arrives) in
        let n : ¬ (d ≡ b) = λ e. differ (sym is_c ∙ e) in
        inr (n, subst (λ (rs : List Portal). AllByRecursion (LeadsOutside ts ls b) (p ∷ rs)) none (other_label p k d b found label n, tt))
    cut (w ∷ ws) p qs k d from found label walls split arrives =
        let h = behind m ts ls good p k found in
        let q = way_out p w h.0 in
        let nx = next_portals ts p w ws qs h.0 h.1.tip from in
        let walls2 : NoWalls (p ∷ q ∷ nx.0) = subst (λ (rs : List Portal). NoWalls (p ∷ rs)) nx.1 walls in
        let split2 : Splits m (p ∷ q ∷ nx.0) x y z = subst (λ (rs : List Portal). Splits m (p ∷ rs) x y z) nx.1 split in
        let arrives2 : reached ts ls (q ∷ nx.0) ≡ Some c = subst (λ (rs : List Portal). reached ts ls (p ∷ rs) ≡ Some c) nx.1 arrives in
        let o = way_over m is_map facts ts ls good p k h.0 d w h.1 label walls2.1.0 in
        let count : length qs ≡ suc (length nx.0) = ap (λ (rs : List Portal). length rs) nx.1 in
        elim (cut ws q nx.0 o.k o.b nx.2 o.found o.label walls2.1 split2.1 arrives2) as (λ _. Cut d p qs) [
          | inl s ↦ inl (longer (length nx.0) (length qs) (omega arith) s)
          | inr r ↦ elim (same_or_not d b) as (λ _. Cut d p qs) [
            | inl e ↦ elim o.link as (λ _. Cut d p qs) [
              | inl same ↦ absurd (r.0 (sym same ∙ e))
              | inr door ↦ inl (rooted x y z (length qs) b c o.b q ws nx.0 (subst (λ (i : ℕ). Door m i o.b q) e door) r.0 nx.2 walls2.1 r.1 split2.1 arrives2 (omega arith))
            ]
            | inr n ↦ inr (n, subst (λ (rs : List Portal). AllByRecursion (LeadsOutside ts ls b) (p ∷ rs)) (sym nx.1) (other_label p k d b found label n, r.1))
          ]
        ]

    -- a sequence of a that comes through a triangle of b on its way to c
    pub cut_behind : (a n : ℕ) (s : Sequence) (ps : List Portal) (p : Portal) (k : ℕ) → IsSequence m ts ls a s ps → Splits m ps x y z → reached ts ls ps ≡ Some c → length ps ≤ suc n
        → Contains ps p → triangle_at ts (entry_edge p) ≡ Some k → label_of ls k ≡ Some b → ReachesWithin m ts ls n b c
    cut_behind a n s ps p k is split arrives few there into label =
        let g = begun m is_map ts ls good a s ps is in
        let count : length ps ≡ suc (length g.rest) = ap (λ (rs : List Portal). length rs) g.all in
        elim (cut s.ways g.p g.rest g.k g.c g.from g.found g.label (subst NoWalls g.all is.no_wall) (subst (λ (rs : List Portal). Splits m rs x y z) g.all split)
        (subst (λ (rs : List Portal). reached ts ls rs ≡ Some c) g.all arrives)) as (λ _. ReachesWithin m ts ls n b c) [
          | inl r ↦ longer (length g.rest) n (omega arith) r
          | inr r ↦
              let outside : LeadsOutside ts ls b p = all_at (LeadsOutside ts ls b) p (g.p ∷ g.rest) r.1 (subst (λ (rs : List Portal). Contains rs p) g.all there) in
              absurd (outside.2 (ap (label_of ls) (some_is_same outside.0 k (sym outside.1 ∙ into)) ∙ label))
        ]

  -- ---- walked back

  -- the portal as one sees it who walks through it from behind
  abbrev flip : Portal → Portal
  flip p = record { left = p.right; right = p.left }

  not_not : (b : Bool) → not (not b) ≡ b
  not_not true = refl
  not_not false = refl

  flip_wall : (p : Portal) → ¬ IsSolidLine m p → ¬ IsSolidLine m (flip p)
  flip_wall p wall (i, l, left, is, solid, e) = wall (i, l, not left, is, solid, sym (other_edge m l left) ∙ ap reverse_of e)

  flip_door : (a b : ℕ) (p : Portal) → Door m a b p → Door m b a (flip p)
  flip_door a b p d = record {
    number = d.number;
    line = d.line;
    left = not d.left;
    is = d.is;
    passable = d.passable;
    from = d.to;
    to = ap (sector_on d.line) (not_not d.left) ∙ d.from;
    edge = ap reverse_of d.edge ∙ other_edge m d.line (not d.left);
  }

  module _ (x y z : ℤ) where
    flip_crossed : (p : Portal) → IsCrossed m x y z p → IsCrossed m (neg_ℤ x) (neg_ℤ y) (neg_ℤ z) (flip p)
    flip_crossed p (h, k) = (
      (let e = neg_value x y z (point_of (place m p.right)) in subst (λ (v : ℤ). pos 0 <ℤ v) (sym e) (omega (arith, ints))),
      (let e = neg_value x y z (point_of (place m p.left)) in subst (λ (v : ℤ). v <ℤ pos 0) (sym e) (omega (arith, ints))),
    )

    -- the portals back from p to a, none of them into c
    record Back (a c : ℕ) (p : Portal) (n : ℕ) : Type 0 where
      pub ways : List Way
      pub rest : List Portal
      pub from : portals_from ts (Some p) ways ≡ Some (p ∷ rest)
      pub walls : NoWalls (p ∷ rest)
      pub outside : AllByRecursion (LeadsOutside ts ls c) (p ∷ rest)
      pub split : Splits m (p ∷ rest) (neg_ℤ x) (neg_ℤ y) (neg_ℤ z)
      pub arrives : reached ts ls (p ∷ rest) ≡ Some a
      pub count : length rest ≡ n

    back_more : (a c n : ℕ) (p : Portal) (k d t u : ℕ) (tri : Triangle) (q : Portal) (w : Way) → slice_get ts k ≡ Some tri → Third tri q.right q.left u → way_out (flip q) w u ≡ flip p → label_of ls k ≡ Some d → ¬ (d ≡ c) → ¬ IsSolidLine m q → IsCrossed m x y z q
        → Back a c (flip p) n → Back a c (flip q) (suc n)
    back_more a c n p k d t u tri q w is third turn label differ wall crossed h =
        let r = behind_third m ts ls good (flip q) k u tri is third in
        record {
          ways = w ∷ h.ways;
          rest = flip p ∷ h.rest;
          from = ap (λ (o : Option ℕ). option_map (λ (ps : List Portal). flip q ∷ ps) (portals_from ts (option_map (way_out (flip q) w) o) h.ways)) r.tip ∙ ap (λ (s : Portal). option_map (λ (ps : List Portal). flip q ∷ ps) (portals_from ts (Some s) h.ways)) turn
              ∙ ap (option_map (λ (ps : List Portal). flip q ∷ ps)) h.from;
          walls = (flip_wall q wall, h.walls);
          outside = (other_label (flip q) k d c r.found label differ, h.outside);
          split = (flip_crossed q crossed, h.split);
          arrives = h.arrives;
          count = ap suc h.count;
        }

    -- through the triangle behind p: the way back from the next portal
    back_over : (a c n : ℕ) (p : Portal) (k d t : ℕ) (w : Way) → Behind m ts p k t → label_of ls k ≡ Some d → ¬ (d ≡ c) → ¬ IsSolidLine m (way_out p w t) → IsCrossed m x y z (way_out p w t) → Back a c (flip p) n → Back a c (flip (way_out p w t)) (suc n)
    back_over a c n p k d t Left h label differ wall crossed b =
        back_more a c n p k d t p.right h.tri (way_out p Left t) Right h.is (third_turned h.tri p.right t p.left (third_turned h.tri p.left p.right t h.third)) refl label differ wall crossed b
    back_over a c n p k d t Right h label differ wall crossed b =
        back_more a c n p k d t p.left h.tri (way_out p Right t) Left h.is (third_turned h.tri p.left p.right t h.third) refl label differ wall crossed b

    module _ (a c : ℕ) (differ : ¬ (a ≡ c)) where
      -- c is entered here
      enter : (p : Portal) (d e n i j : ℕ) → d ≡ c → ¬ (e ≡ c) → Link m e d p → Back a c (flip p) i → suc (i + j) ≤ n → ReachesWithin m ts ls n c a
      enter p d e n i j same apart link h few = elim link as (λ _. ReachesWithin m ts ls n c a) [
        | inl eq ↦ absurd (apart (eq ∙ same))
        | inr door ↦ rooted (neg_ℤ x) (neg_ℤ y) (neg_ℤ z) n c a e (flip p) h.ways h.rest (flip_door e c p (subst (λ (j : ℕ). Door m e j p) same door)) apart h.from h.walls h.outside h.split h.arrives (let l = h.count in omega arith)
      ]

      -- on until c is entered for the first time
      back : (ws : List Way) (p : Portal) (qs : List Portal) (k d e n i : ℕ) → portals_from ts (Some p) ws ≡ Some (p ∷ qs) → triangle_at ts (entry_edge p) ≡ Some k → label_of ls k ≡ Some d → NoWalls (p ∷ qs) → Splits m (p ∷ qs) x y z → reached ts ls (p ∷ qs) ≡ Some c
          → ¬ (e ≡ c) → Link m e d p → Back a c (flip p) i → suc (i + length qs) ≤ n → ReachesWithin m ts ls n c a
      back [] p qs k d e n i from found label walls split arrives apart link h few =
          enter p d e n i (length qs) (last_label p k d c found label (subst (λ (rs : List Portal). reached ts ls (p ∷ rs) ≡ Some c) (sym (alone ts p qs from)) arrives)) apart link h few
      back (w ∷ ws) p qs k d e n i from found label walls split arrives apart link h few = elim (same_or_not d c) as (λ _. ReachesWithin m ts ls n c a) [
        | inl same ↦ enter p d e n i (length qs) same apart link h few
        | inr other ↦
            let b = behind m ts ls good p k found in
            let q = way_out p w b.0 in
            let nx = next_portals ts p w ws qs b.0 b.1.tip from in
            let walls2 : NoWalls (p ∷ q ∷ nx.0) = subst (λ (rs : List Portal). NoWalls (p ∷ rs)) nx.1 walls in
            let split2 : Splits m (p ∷ q ∷ nx.0) x y z = subst (λ (rs : List Portal). Splits m (p ∷ rs) x y z) nx.1 split in
            let arrives2 : reached ts ls (q ∷ nx.0) ≡ Some c = subst (λ (rs : List Portal). reached ts ls (p ∷ rs) ≡ Some c) nx.1 arrives in
            let o = way_over m is_map facts ts ls good p k b.0 d w b.1 label walls2.1.0 in
            let count : length qs ≡ suc (length nx.0) = ap (λ (rs : List Portal). length rs) nx.1 in
            back ws q nx.0 o.k o.b d n (suc i) nx.2 o.found o.label walls2.1 split2.1 arrives2 other o.link (back_over a c i p k d b.0 w b.1 label other walls2.1.0 split2.1.0 h) (omega arith)
      ]

  -- a sequence of a that reaches c, walked back: one of c that reaches a, with no more portals
  pub turned_back : (n a c : ℕ) → a ≢ c → ReachesWithin m ts ls n a c → ReachesWithin m ts ls n c a
  turned_back n a c differ r =
      let g = begun m is_map ts ls good a r.sequence r.portals r.is in
      let l = g.root.line in
      let x = r.line.0 in let y = r.line.1 in let z = r.line.2 in
      let split : Splits m (g.p ∷ g.rest) x y z = subst (λ (rs : List Portal). Splits m rs x y z) g.all r.line.3 in
      let walls : NoWalls (g.p ∷ g.rest) = subst NoWalls g.all r.is.no_wall in
      let side = r.sequence.root in
      let near = good.fits.sides side l a g.root.is (named_is m side.line l side.left a g.root.is g.root.names) in
      let edge : entry_edge (flip g.p) ≡ side_edge m l side.left = ap reverse_of g.edge ∙ other_edge m l (not side.left) ∙ ap (side_edge m l) (not_not side.left) in
      let found : triangle_at ts (entry_edge (flip g.p)) ≡ Some near.0 = ap (triangle_at ts) edge ∙ near.1 in
      let count : length r.portals ≡ suc (length g.rest) = ap (λ (rs : List Portal). length rs) g.all in
      let few = r.few in
      back x y z a c differ r.sequence.ways g.p g.rest g.k g.c a n 0 g.from g.found g.label walls split (subst (λ (rs : List Portal). reached ts ls rs ≡ Some c) g.all r.arrives) differ (inr (begun_door m ts ls a r.sequence r.portals g))
      (record {
        ways = [];
        rest = [];
        from = refl;
        walls = (flip_wall g.p walls.0, tt);
        outside = (other_label (flip g.p) near.0 a c found near.2 differ, tt);
        split = (flip_crossed x y z g.p split.0, tt);
        arrives = ap (option_and_then (label_of ls)) found ∙ near.2;
        count = refl;
      })
      (omega arith)

pub sequences_turn : SequencesTurn
sequences_turn m ts ls n a b is_map good differ r = turned_back m is_map ts ls good n a b differ r
