-- The portals of a sequence that a line splits are crossed in order: each later one may follow each earlier one.
use Rattle.std.proofs.Common.{◌≡◌, ℕ, inl, inr, List, [], ◌∷◌, ◌++◌, Option, Some, refl, sym, ◌∙◌, subst, ℤ}
use Rattle.std.specs.List.{AllByRecursion}
use Rattle.sight_names.specs.declared.names.Triangle.{Triangle}
use Rattle.sight_names.specs.Map.{Map}
use Rattle.sight_names.specs.Mesh.{IsGoodMesh}
use Rattle.sight_names.specs.Sequence.{Portal, Way, LeadsOutside, Splits, way_out, portals_from}
use Rattle.sight_lift.proofs.Behind.{behind}
use Rattle.sight_lift.proofs.Sequences.{next_portals, begun, cons_same as tail_same}
use Rattle.sight_lift.proofs.Tails.{IsCrossed}
use Rattle.gate_floods.proofs.Cutting.{alone}
use Rattle.gate_floods.specs.Gates.{MayFollow}
use Rattle.gate_floods.specs.Laws.{LaterMayFollow}
use Rattle.gate_floods.proofs.Fronts.{IsLater, IsFrom, may_follow, way_later, later_on}

head_same : (p q : Portal) (ps qs : List Portal) → p ∷ ps ≡ q ∷ qs → p ≡ q
head_same p q ps qs e = cc

not_empty : (xs ys : List Portal) (q : Portal) → [] ≡ xs ++ q ∷ ys → ⊥
not_empty [] ys q e = cc
not_empty (x ∷ xs) ys q e = cc

module _ (m : Map) (ts : List Triangle) (ls : List (Option ℕ)) (good : IsGoodMesh m ts ls) (x y z : ℤ) (a : ℕ) where
  -- the next portal is crossed later than a first one, and what comes behind it goes on from there
  record Next (first p : Portal) (ws : List Way) (qs : List Portal) : Type 0 where
    pub r : Portal
    pub rest : List Portal
    pub all : qs ≡ r ∷ rest
    pub from : portals_from ts (Some r) ws ≡ Some (r ∷ rest)
    pub outs : AllByRecursion (LeadsOutside ts ls a) (r ∷ rest)
    pub split : Splits m (r ∷ rest) x y z
    pub later : IsLater m x y z first r

  next_later : (first : Portal) → IsCrossed m x y z first → (w : Way) (ws : List Way) (p : Portal) (qs : List Portal) → portals_from ts (Some p) (w ∷ ws) ≡ Some (p ∷ qs) → AllByRecursion (LeadsOutside ts ls a) (p ∷ qs) → Splits m (p ∷ qs) x y z
      → IsFrom m x y z first p → Next first p ws qs
  next_later first crossed w ws p qs from outs split since =
      let h = behind m ts ls good p outs.0.0 outs.0.1 in
      let r = way_out p w h.0 in
      let nx = next_portals ts p w ws qs h.0 h.1.tip from in
      let outs2 : AllByRecursion (LeadsOutside ts ls a) (p ∷ r ∷ nx.0) = subst (λ (rs : List Portal). AllByRecursion (LeadsOutside ts ls a) (p ∷ rs)) nx.1 outs in
      let split2 : Splits m (p ∷ r ∷ nx.0) x y z = subst (λ (rs : List Portal). Splits m (p ∷ rs) x y z) nx.1 split in
      record { r = r; rest = nx.0; all = nx.1; from = nx.2; outs = outs2.1; split = split2.1; later = later_on m x y z first p r crossed split2.0 split2.1.0 since (way_later m x y z ts p outs.0.0 h.0 w h.1 split2.0) }

  -- the portals behind p may follow a first one
  rest_later : (first : Portal) → IsCrossed m x y z first → (ws : List Way) (p : Portal) (qs between back : List Portal) (q : Portal) → portals_from ts (Some p) ws ≡ Some (p ∷ qs) → AllByRecursion (LeadsOutside ts ls a) (p ∷ qs) → Splits m (p ∷ qs) x y z
      → IsFrom m x y z first p → qs ≡ between ++ q ∷ back → MayFollow m first q
  rest_later first crossed [] p qs between back q from outs split since parts = absurd (not_empty between back q (alone ts p qs from ∙ parts))
  rest_later first crossed (w ∷ ws) p qs [] back q from outs split since parts =
      let n = next_later first crossed w ws p qs from outs split since in
      subst (MayFollow m first) (head_same n.r q n.rest back (sym n.all ∙ parts)) (may_follow m x y z first n.r crossed n.split.0 n.later)
  rest_later first crossed (w ∷ ws) p qs (b ∷ bs) back q from outs split since parts =
      let n = next_later first crossed w ws p qs from outs split since in
      rest_later first crossed ws n.r n.rest bs back q n.from n.outs n.split (inr n.later) (tail_same n.r b n.rest (bs ++ q ∷ back) (sym n.all ∙ parts))

  in_order : (front : List Portal) (ws : List Way) (r p q : Portal) (qs between back : List Portal) → portals_from ts (Some r) ws ≡ Some (r ∷ qs) → AllByRecursion (LeadsOutside ts ls a) (r ∷ qs) → Splits m (r ∷ qs) x y z
      → r ∷ qs ≡ front ++ p ∷ (between ++ q ∷ back) → MayFollow m p q
  in_order [] ws r p q qs between back from outs split parts =
      subst (λ (s : Portal). MayFollow m s q) (head_same r p qs (between ++ q ∷ back) parts) (rest_later r split.0 ws r qs between back q from outs split (inl refl) (tail_same r p qs (between ++ q ∷ back) parts))
  in_order (f ∷ front) [] r p q qs between back from outs split parts = absurd (not_empty front (between ++ q ∷ back) p (alone ts r qs from ∙ tail_same r f qs (front ++ p ∷ (between ++ q ∷ back)) parts))
  in_order (f ∷ front) (w ∷ ws) r p q qs between back from outs split parts =
      let h = behind m ts ls good r outs.0.0 outs.0.1 in
      let s = way_out r w h.0 in
      let nx = next_portals ts r w ws qs h.0 h.1.tip from in
      let outs2 : AllByRecursion (LeadsOutside ts ls a) (r ∷ s ∷ nx.0) = subst (λ (rs : List Portal). AllByRecursion (LeadsOutside ts ls a) (r ∷ rs)) nx.1 outs in
      let split2 : Splits m (r ∷ s ∷ nx.0) x y z = subst (λ (rs : List Portal). Splits m (r ∷ rs) x y z) nx.1 split in
      in_order front ws s p q nx.0 between back nx.2 outs2.1 split2.1 (sym nx.1 ∙ tail_same r f qs (front ++ p ∷ (between ++ q ∷ back)) parts)

pub later_may_follow : LaterMayFollow
later_may_follow m ts ls a s ps front between back p q is_map good is (x, y, z, split) parts =
    let g = begun m is_map ts ls good a s ps is in
    in_order m ts ls good x y z a front s.ways g.p p q g.rest between back g.from (subst (AllByRecursion (LeadsOutside ts ls a)) g.all is.outside) (subst (λ (rs : List Portal). Splits m rs x y z) g.all split) (sym g.all ∙ parts)
