-- Arrows round torn corners: how a turn is followed, corner after corner, and that there is one list of them.
use Rattle.std.proofs.Common.{◌≡◌, ◌≢◌, ℕ, ◌+◌, ◌<◌, ◌≤◌, inl, inr, List, [], ◌∷◌, ◌++◌, length, take, get_or, Option, Some, None, refl, sym, ap, ap₂, ◌∙◌, subst, arith}
use Rattle.std.proofs.lemmas.List.{append-nil, append_assoc, take_all, take_more}
use Rattle.std.proofs.lemmas.Option.{none-some, same_Some}
use Rattle.sight_names.specs.declared.names.Side.{Side}
use Rattle.sight_names.specs.declared.names.Triangle.{Triangle}
use Rattle.sight_names.specs.Map.{Map, map_of, named}
use Rattle.sight_names.specs.Plan.{PlanParts}
use Rattle.sight_names.specs.Points.{Edge}
use Rattle.sight_names.specs.Sequence.{apex}
use Rattle.mesh_shape.specs.HalfEdges.Numbers.{edge}
use Rattle.mesh_shape.specs.HalfEdges.Kinds.{portal_on}
use Rattle.map_faults.specs.declared.tears.Tear.{Tear}
use Rattle.map_faults.specs.EdgeSides.{side_by}
use Rattle.map_faults.specs.Tears.{DoesName, IsBorder, IsTear, TurnsRound, IsTurnWithin}
use Rattle.map_faults.proofs.OneOfEach.{one_way, turn_too}
use Rattle.map_picture.specs.declared.arrows.Arrow.{Arrow}
use Rattle.fault_marks.specs.Arrows.{AddsArrows, AreArrowsAt, AreArrowsOf, arrow_round, arrows_round}

-- ---- one turn

module _ (ts : List Triangle) (ss : List (Option Side)) (point w : ℕ) where
  -- behind the arrows that there are these are left, and all together are these
  pub record IsLeft (x n : ℕ) (all ws : List Arrow) : Type 0 where
    pub rest : List ℕ
    pub turn : TurnsRound ts ss point x rest w
    pub short : length rest + n < length ts
    pub joined : ws ++ arrows_round point x rest w ≡ all

  pub all_left : (x : ℕ) (ys : List ℕ) (old : List Arrow) → IsTurnWithin ts ss point x ys w → IsLeft x 0 (old ++ arrows_round point x ys w) old
  all_left x ys old h = record { rest = ys; turn = h.0; short = let lt = h.1 in omega arith; joined = refl }

  border_at_end : (x : ℕ) (ys : List ℕ) → TurnsRound ts ss point x ys w → IsBorder ts ss (edge point w)
  border_at_end x [] h = h.1
  border_at_end x (y ∷ ys) h = border_at_end y ys h.2

  pub never_out : (x n : ℕ) (all ws : List Arrow) → IsLeft x n all ws → apex ts (portal_on (edge x point)) ≡ None → ⊥
  never_out x n all ws h at = go h.rest h.turn
    where
      go : (rest : List ℕ) → TurnsRound ts ss point x rest w → ⊥
      go [] turn = none-some w (sym at ∙ turn.0)
      go (y ∷ rest) turn = none-some y (sym at ∙ turn.0)

  pub never_long : (x n : ℕ) (all ws : List Arrow) → IsLeft x n all ws → length ts ≤ n → ⊥
  never_long x n all ws h past = let lt = h.short in omega arith

  pub one_less : (x n z : ℕ) (all ws new : List Arrow) → IsLeft x n all ws → apex ts (portal_on (edge x point)) ≡ Some z → z ≢ w → new ≡ ws ++ arrow_round x point z ∷ [] → IsLeft z (n + 1) all new
  one_less x n z all ws new h at other made = go h.rest h.turn h.short h.joined
    where
      go : (rest : List ℕ) → TurnsRound ts ss point x rest w → length rest + n < length ts → ws ++ arrows_round point x rest w ≡ all → IsLeft z (n + 1) all new
      go [] turn short joined = absurd (other (same_Some z w (sym at ∙ turn.0)))
      go (y ∷ rest) turn short joined =
          let e : y ≡ z = same_Some y z (sym turn.0 ∙ at) in
          record {
            rest = rest;
            turn = subst (λ (u : ℕ). TurnsRound ts ss point u rest w) e turn.2;
            short = omega arith;
            joined = ap (λ (l : List Arrow). l ++ arrows_round point z rest w) made ∙ append_assoc ws (arrow_round x point z ∷ []) (arrows_round point z rest w)
                ∙ ap (λ (u : ℕ). ws ++ arrow_round x point u ∷ arrows_round point u rest w) (sym e) ∙ joined;
          }

  pub none_left : (x n z : ℕ) (all ws new : List Arrow) → IsLeft x n all ws → apex ts (portal_on (edge x point)) ≡ Some z → z ≡ w → new ≡ ws ++ arrow_round x point z ∷ [] → new ≡ all
  none_left x n z all ws new h at same made = go h.rest h.turn h.joined
    where
      go : (rest : List ℕ) → TurnsRound ts ss point x rest w → ws ++ arrows_round point x rest w ≡ all → new ≡ all
      go [] turn joined = made ∙ ap (λ (u : ℕ). ws ++ arrow_round x point u ∷ []) same ∙ joined
      go (y ∷ rest) turn joined = absurd (turn.1 (subst (λ (u : ℕ). IsBorder ts ss (edge point u)) (sym same ∙ same_Some z y (sym at ∙ turn.0)) (border_at_end y rest turn.2)))

-- ---- corner after corner

module _ (p : PlanParts) (ts : List Triangle) (ss : List (Option Side)) where
  abbrev m : Map
  m = map_of p

  pub with_name : (t : Tear) (a : ℕ) (old new : List Arrow) → named m t.side ≡ Some a → (h : IsTear p ts ss t) → new ≡ old ++ arrows_round t.point t.from h.torn.way t.to → AddsArrows m ts ss t old new
  with_name t a old new names h made = (arrows_round t.point t.from h.torn.way t.to, inl ((a, names), (h.torn.way, h.torn.turn.0, refl)), made)

  pub without_name : (t : Tear) (old : List Arrow) → named m t.side ≡ None → AddsArrows m ts ss t old old
  without_name t old none = ([], inr ((λ (d : DoesName m (Some t.side)). none-some d.0 (sym none ∙ d.1)), refl), sym (append-nil old))

  joined_behind : (tears : List Tear) (t : Tear) (ws first : List Arrow) → AreArrowsOf m ts ss tears ws → AreArrowsAt m ts ss t first → AreArrowsOf m ts ss (tears ++ t ∷ []) (ws ++ first)
  joined_behind [] t ws first h k = (first, [], k, refl, ap (λ (l : List Arrow). l ++ first) h ∙ sym (append-nil first))
  joined_behind (u ∷ tears) t ws first h k =
      let r = joined_behind tears t h.1 first h.3 k in
      (h.0, h.1 ++ first, h.2, r, ap (λ (l : List Arrow). l ++ first) h.4 ∙ append_assoc h.0 h.1 first)

  pub one_corner_more : (tears : List Tear) (n : ℕ) (d : Tear) (old new : List Arrow) → n < length tears → AreArrowsOf m ts ss (take n tears) old → AddsArrows m ts ss (get_or tears n d) old new → AreArrowsOf m ts ss (take (n + 1) tears) new
  one_corner_more tears n d old new lt h k =
      subst (λ (us : List Tear). AreArrowsOf m ts ss us new) (sym (take_more tears n d lt))
      (subst (λ (ws : List Arrow). AreArrowsOf m ts ss (take n tears ++ get_or tears n d ∷ []) ws) (sym k.2) (joined_behind (take n tears) (get_or tears n d) old k.0 h k.1))

  pub all_corners : (tears : List Tear) (n : ℕ) (ws : List Arrow) → length tears ≤ n → AreArrowsOf m ts ss (take n tears) ws → AreArrowsOf m ts ss tears ws
  all_corners tears n ws past h = subst (λ (us : List Tear). AreArrowsOf m ts ss us ws) (take_all n tears past) h

-- ---- one list of them

module _ (m : Map) (ts : List Triangle) (ss us : List (Option Side)) (same : (e : Edge) → side_by ts ss e ≡ side_by ts us e) where
  one_round : (t : Tear) (vs ws : List Arrow) → AreArrowsAt m ts ss t vs → AreArrowsAt m ts us t ws → vs ≡ ws
  one_round t vs ws (inl h) (inl k) =
      let way : h.1.0 ≡ k.1.0 = one_way ts us t.point t.from h.1.0 k.1.0 t.to (turn_too ts ss us same t.point t.from h.1.0 t.to h.1.1) k.1.1 in
      h.1.2 ∙ ap (λ (ys : List ℕ). arrows_round t.point t.from ys t.to) way ∙ sym k.1.2
  one_round t vs ws (inl h) (inr k) = absurd (k.0 h.0)
  one_round t vs ws (inr h) (inl k) = absurd (h.0 k.0)
  one_round t vs ws (inr h) (inr k) = h.1 ∙ sym k.1

  pub one_arrows : (tears : List Tear) (vs ws : List Arrow) → AreArrowsOf m ts ss tears vs → AreArrowsOf m ts us tears ws → vs ≡ ws
  one_arrows [] vs ws h k = h ∙ sym k
  one_arrows (t ∷ tears) vs ws h k =
      h.4 ∙ ap₂ (λ (first rest : List Arrow). first ++ rest) (one_round t h.0 k.0 h.2 k.2) (one_arrows tears h.1 k.1 h.3 k.3) ∙ sym k.4
