-- What a sequence reaches behind a gate lies beyond that gate, where no claim is shown wrong by a shorter sequence.
use Rattle.std.proofs.Common.{◌≡◌, ◌≢◌, ℕ, suc, ◌≤◌, inl, inr, List, [], ◌∷◌, ◌++◌, length, Option, Some, not, Contains, refl, sym, ap, ◌∙◌, subst, arith, ℤ}
use Rattle.std.specs.Prelude.{option_map, option_and_then}
use Rattle.std.proofs.lemmas.List.{length-append}
use Rattle.sight_names.specs.declared.names.Triangle.{Triangle}
use Rattle.sight_names.specs.Map.{Map, MapLine, IsMap, line_at, sector_on}
use Rattle.sight_names.specs.Points.{Edge, reverse_of}
use Rattle.sight_names.specs.Mesh.{IsGoodMesh, triangle_at, label_of, side_edge}
use Rattle.sight_names.specs.Sequence.{Portal, Way, Splits, IsSolidLine, way_out, entry_edge, apex, portals_from, reached}
use Rattle.sight_names.proofs.Lists.{contains_cases}
use Rattle.math_base.proofs.Bools.{not_not}
use Rattle.math_base.proofs.Options.{some_is_same}
use Rattle.math_base.proofs.Lists.{contains_none, all_front}
use Rattle.mesh_base.proofs.GoodMesh.{PointFacts, same_or_not}
use Rattle.mesh_base.proofs.MapFacts.{map_facts}
use Rattle.sight_lift.proofs.Behind.{behind}
use Rattle.sight_lift.proofs.Doors.{Door, Link, way_over, other_edge, named_is}
use Rattle.sight_lift.proofs.Sequences.{next_portals, root_is}
use Rattle.sight_lift.proofs.Tails.{IsCrossed, root_listed, root_portal_is}
use Rattle.gate_floods.specs.Reaching.{ReachesWithin}
use Rattle.gate_floods.proofs.Cutting.{NoWalls, cut, rooted, last_label, alone}
use Rattle.gate_floods.specs.Gates.{IsGate, IsBeyond, here, further, MayFollow}
use Rattle.gate_floods.proofs.Fronts.{IsLater, IsFrom, may_follow, way_later, later_on}

-- ---- gates and doors

pub gate_of_door : (m : Map) (b d : ℕ) (p : Portal) → Door m b d p → ¬ (d ≡ b) → IsGate m b d p
gate_of_door m b d p h differ = record {
  side = record { line = h.number; left = h.left };
  root = root_listed m b d h.number h.line h.left h.is h.passable h.from h.to differ;
  portal = root_portal_is m h.number h.line h.left p h.is h.edge;
  far = ap (option_and_then (λ (l : MapLine). sector_on l (not h.left))) h.is ∙ h.to;
}

pub door_of_gate : (m : Map) (b d : ℕ) (p : Portal) → IsGate m b d p → Door m b d p
door_of_gate m b d p g =
    let r = root_is m b g.side g.root in
    record {
      number = g.side.line;
      line = r.line;
      left = g.side.left;
      is = r.is;
      passable = r.passable;
      from = r.names;
      to = ap (option_and_then (λ (l : MapLine). sector_on l (not g.side.left))) (sym r.is) ∙ g.far;
      edge = edge_is r.line r.is;
    }
  where
    edge_is : (l : MapLine) → line_at m g.side.line ≡ Some l → entry_edge p ≡ side_edge m l (not g.side.left)
    edge_is l is = ap (λ (q : Portal). entry_edge q) (some_is_same p (of l) (sym g.portal ∙ ap (option_map of) is))
      where
        of : MapLine → Portal
        of k = let e = side_edge m k (not g.side.left) in record { left = e.from; right = e.to }

-- ---- the triangles on both sides of a gate

module _ (m : Map) (ts : List Triangle) (ls : List (Option ℕ)) (good : IsGoodMesh m ts ls) where
  -- a gate leads into a triangle of its far sector
  pub gate_enters : (b d : ℕ) (p : Portal) → IsGate m b d p → (k : ℕ) × (triangle_at ts (entry_edge p) ≡ Some k) × (label_of ls k ≡ Some d)
  gate_enters b d p g =
      let h = door_of_gate m b d p g in
      let f = good.fits.sides (record { line = h.number; left = not h.left }) h.line d h.is (named_is m h.number h.line (not h.left) d h.is h.to) in
      (f.0, ap (triangle_at ts) h.edge ∙ f.1, f.2)

  -- and comes out of one of its near sector
  gate_leaves : (b d : ℕ) (p : Portal) → IsGate m b d p → (k : ℕ) × (triangle_at ts (reverse_of (entry_edge p)) ≡ Some k) × (label_of ls k ≡ Some b)
  gate_leaves b d p g =
      let h = door_of_gate m b d p g in
      let f = good.fits.sides (record { line = h.number; left = h.left }) h.line b h.is (named_is m h.number h.line h.left b h.is h.from) in
      (f.0, ap (λ (e : Edge). triangle_at ts (reverse_of e)) h.edge ∙ ap (triangle_at ts) (other_edge m h.line (not h.left) ∙ ap (side_edge m h.line) (not_not h.left)) ∙ f.1, f.2)

  -- so a portal is a gate between two sectors at most
  pub one_gate : (b d e f : ℕ) (p : Portal) → IsGate m b d p → IsGate m e f p → (b ≡ e) × (d ≡ f)
  one_gate b d e f p g h =
      let x = gate_leaves b d p g in
      let y = gate_leaves e f p h in
      let v = gate_enters b d p g in
      let w = gate_enters e f p h in
      (some_is_same b e (sym x.2 ∙ ap (label_of ls) (some_is_same x.0 y.0 (sym x.1 ∙ y.1)) ∙ y.2), some_is_same d f (sym v.2 ∙ ap (label_of ls) (some_is_same v.0 w.0 (sym v.1 ∙ w.1)) ∙ w.2))

-- ---- what splits all portals splits those in front

front_splits : (m : Map) (x y z : ℤ) (front back : List Portal) → Splits m (front ++ back) x y z → Splits m front x y z
front_splits m x y z [] back h = tt
front_splits m x y z (p ∷ front) back h = (h.0, front_splits m x y z front back h.1)

module _ (m : Map) (is_map : IsMap m) (ts : List Triangle) (ls : List (Option ℕ)) (good : IsGoodMesh m ts ls) where
  facts : PointFacts m
  facts = map_facts m is_map

  module _ (Claims : ℕ → ℕ → Type 0) (x y z : ℤ) where
    -- no sector reached before the last of these portals is claimed unseen by b
    abbrev NoneClaimed : ℕ → Portal → List Portal → Type 0
    NoneClaimed b p qs = (us : List Way) (front back : List Portal) (r : Portal) (e : ℕ) → portals_from ts (Some p) us ≡ Some (p ∷ front) → qs ≡ front ++ r ∷ back → reached ts ls (p ∷ front) ≡ Some e → ¬ Claims b e

    -- one portal further on
    fewer_claimed : (b t : ℕ) (p : Portal) (w : Way) (qs rs : List Portal) → apex ts p ≡ Some t → qs ≡ way_out p w t ∷ rs → NoneClaimed b p qs → NoneClaimed b (way_out p w t) rs
    fewer_claimed b t p w qs rs tip parts none us front back r e from is reach =
        none (w ∷ us) (way_out p w t ∷ front) back r e
        (ap (λ (o : Option ℕ). option_map (λ (ps : List Portal). p ∷ ps) (portals_from ts (option_map (way_out p w) o) us)) tip ∙ ap (option_map (λ (ps : List Portal). p ∷ ps)) from)
        (parts ∙ ap (λ (ps : List Portal). way_out p w t ∷ ps) is) reach

    module _ (b d : ℕ) (gate : Portal) (crossed : IsCrossed m x y z gate) where
      abbrev Beyond : ℕ → Type 0
      Beyond = IsBeyond m Claims b d gate

      -- over one edge
      beyond_over : (e o : ℕ) (q : Portal) → Beyond e → ¬ Claims b e → Link m e o q → MayFollow m gate q → Beyond o
      beyond_over e o q h none (inl same) may = subst Beyond same h
      beyond_over e o q h none (inr door) may = elim (same_or_not o e) as (λ _. Beyond o) [
        | inl same ↦ subst Beyond (sym same) h
        | inr differ ↦ further e q h none (gate_of_door m e o q door differ) may
      ]

      flooded : (ws : List Way) (p : Portal) (qs : List Portal) (k e c : ℕ) → portals_from ts (Some p) ws ≡ Some (p ∷ qs) → triangle_at ts (entry_edge p) ≡ Some k → label_of ls k ≡ Some e → Beyond e → IsFrom m x y z gate p
          → NoWalls m is_map ts ls good (p ∷ qs) → Splits m (p ∷ qs) x y z → reached ts ls (p ∷ qs) ≡ Some c → NoneClaimed b p qs → Beyond c
      flooded [] p qs k e c from found label h since walls split arrives none =
          subst Beyond (last_label m is_map ts ls good p k e c found label (subst (λ (rs : List Portal). reached ts ls (p ∷ rs) ≡ Some c) (sym (alone ts p qs from)) arrives)) h
      flooded (w ∷ ws) p qs k e c from found label h since walls split arrives none =
          let v = behind m ts ls good p k found in
          let q = way_out p w v.0 in
          let nx = next_portals ts p w ws qs v.0 v.1.tip from in
          let walls2 : NoWalls m is_map ts ls good (p ∷ q ∷ nx.0) = subst (λ (rs : List Portal). NoWalls m is_map ts ls good (p ∷ rs)) nx.1 walls in
          let split2 : Splits m (p ∷ q ∷ nx.0) x y z = subst (λ (rs : List Portal). Splits m (p ∷ rs) x y z) nx.1 split in
          let arrives2 : reached ts ls (q ∷ nx.0) ≡ Some c = subst (λ (rs : List Portal). reached ts ls (p ∷ rs) ≡ Some c) nx.1 arrives in
          let o = way_over m is_map facts ts ls good p k v.0 e w v.1 label walls2.1.0 in
          let later : IsLater m x y z gate q = later_on m x y z gate p q crossed split2.0 split2.1.0 since (way_later m x y z ts p k v.0 w v.1 split2.0) in
          let unclaimed : ¬ Claims b e = none [] [] nx.0 q e refl nx.1 (ap (option_and_then (label_of ls)) found ∙ label) in
          flooded ws q nx.0 o.k o.b c nx.2 o.found o.label (beyond_over e o.b q h unclaimed o.link (may_follow m x y z gate q crossed split2.1.0 later)) (inr later) walls2.1 split2.1 arrives2 (fewer_claimed b v.0 p w qs nx.0 v.1.tip nx.1 none)

    -- ---- whatever is claimed differs, and no claim is shown wrong by a sequence with at most n portals

    module _ (differ : (a b : ℕ) → Claims a b → a ≢ b) (n : ℕ) (none_within : (a b : ℕ) → Claims a b → ReachesWithin m ts ls n a b → ⊥) where
      -- what follows a gate of b reaches, before its last portal, nothing that b is claimed not to see
      none_claimed : (b d : ℕ) (p : Portal) (qs : List Portal) → IsGate m b d p → NoWalls m is_map ts ls good (p ∷ qs) → Splits m (p ∷ qs) x y z → length qs ≤ n → NoneClaimed b p qs
      none_claimed b d p qs gate walls split few us front back r e from parts reach claim =
          let k = gate_enters m ts ls good b d p gate in
          let other : ¬ (e ≡ b) = λ s. differ b e claim (sym s) in
          let walls2 : NoWalls m is_map ts ls good (p ∷ front) = all_front (λ (q : Portal). ¬ IsSolidLine m q) (p ∷ front) (r ∷ back) (subst (λ (rs : List Portal). NoWalls m is_map ts ls good (p ∷ rs)) parts walls) in
          let split2 : Splits m (p ∷ front) x y z = front_splits m x y z (p ∷ front) (r ∷ back) (subst (λ (rs : List Portal). Splits m (p ∷ rs) x y z) parts split) in
          let count : length qs ≡ length (front ++ r ∷ back) = ap (λ (rs : List Portal). length rs) parts in
          let total = length-append front (r ∷ back) in
          let low : suc (length front) ≤ n = omega (arith, count, total, few) in
          elim (cut m is_map ts ls good x y z b e other us p front k.0 d from k.1 k.2 walls2 split2 reach) as (λ _. ⊥) [
            | inl short ↦ none_within b e claim (record { sequence = short.sequence; portals = short.portals; is = short.is; line = short.line; arrives = short.arrives; few = let l = short.few in omega (arith, l, low) })
            | inr whole ↦ none_within b e claim (rooted m is_map ts ls good x y z n b e d p us front (door_of_gate m b d p gate) whole.0 from walls2 whole.1 split2 reach low)
          ]

      -- what follows the gate reaches lies beyond it
      beyond_here : (b d c : ℕ) (p : Portal) → IsGate m b d p → (ws : List Way) (qs : List Portal) → portals_from ts (Some p) ws ≡ Some (p ∷ qs) → NoWalls m is_map ts ls good (p ∷ qs) → Splits m (p ∷ qs) x y z → reached ts ls (p ∷ qs) ≡ Some c → length qs ≤ n → IsBeyond m Claims b d p c
      beyond_here b d c p gate ws qs from walls split arrives few =
          let e = gate_enters m ts ls good b d p gate in
          flooded b d p split.0 ws p qs e.0 d c from e.1 e.2 (here refl) (inl refl) walls split arrives (none_claimed b d p qs gate walls split few)

      -- and so of each gate on the way
      pub beyond_each : (b d c : ℕ) (gate : Portal) → IsGate m b d gate → (ws : List Way) (p : Portal) (qs : List Portal) (k e : ℕ) → portals_from ts (Some p) ws ≡ Some (p ∷ qs) → triangle_at ts (entry_edge p) ≡ Some k → label_of ls k ≡ Some e
          → NoWalls m is_map ts ls good (p ∷ qs) → Splits m (p ∷ qs) x y z → reached ts ls (p ∷ qs) ≡ Some c → length qs ≤ n → Contains (p ∷ qs) gate → IsBeyond m Claims b d gate c
      beyond_each b d c gate is_gate [] p qs k e from found label walls split arrives few there = elim (contains_cases p gate qs there) as (λ _. IsBeyond m Claims b d gate c) [
        | inl same ↦ subst (λ (h : Portal). IsBeyond m Claims b d h c) same (beyond_here b d c p (subst (λ (h : Portal). IsGate m b d h) (sym same) is_gate) [] qs from walls split arrives few)
        | inr behind_it ↦ absurd (contains_none gate (subst (λ (rs : List Portal). Contains rs gate) (sym (alone ts p qs from)) behind_it))
      ]
      beyond_each b d c gate is_gate (w ∷ ws) p qs k e from found label walls split arrives few there = elim (contains_cases p gate qs there) as (λ _. IsBeyond m Claims b d gate c) [
        | inl same ↦ subst (λ (h : Portal). IsBeyond m Claims b d h c) same (beyond_here b d c p (subst (λ (h : Portal). IsGate m b d h) (sym same) is_gate) (w ∷ ws) qs from walls split arrives few)
        | inr behind_it ↦
            let v = behind m ts ls good p k found in
            let q = way_out p w v.0 in
            let nx = next_portals ts p w ws qs v.0 v.1.tip from in
            let walls2 : NoWalls m is_map ts ls good (p ∷ q ∷ nx.0) = subst (λ (rs : List Portal). NoWalls m is_map ts ls good (p ∷ rs)) nx.1 walls in
            let split2 : Splits m (p ∷ q ∷ nx.0) x y z = subst (λ (rs : List Portal). Splits m (p ∷ rs) x y z) nx.1 split in
            let arrives2 : reached ts ls (q ∷ nx.0) ≡ Some c = subst (λ (rs : List Portal). reached ts ls (p ∷ rs) ≡ Some c) nx.1 arrives in
            let o = way_over m is_map facts ts ls good p k v.0 e w v.1 label walls2.1.0 in
            let count : length qs ≡ suc (length nx.0) = ap (λ (rs : List Portal). length rs) nx.1 in
            beyond_each b d c gate is_gate ws q nx.0 o.k o.b nx.2 o.found o.label walls2.1 split2.1 arrives2 (omega (arith, count, few)) (subst (λ (rs : List Portal). Contains rs gate) nx.1 behind_it)
      ]
