-- A half-edge of a good mesh finds the mask of its portal.
use Rattle.std.proofs.Common.{◌≡◌, ℕ, List, Option, Some, None, Bool, false, not, refl, sym, ap, ◌∙◌, subst}
use Rattle.std.specs.Prelude.{option_and_then}
use Rattle.sight_names.specs.declared.names.Side.{Side}
use Rattle.sight_names.specs.declared.names.Triangle.{Triangle}
use Rattle.sight_names.specs.Map.{Map, MapLine, IsMap, line_at, map_of, sector_on}
use Rattle.sight_names.specs.Mesh.{IsGoodMesh, label_of, side_edge, triangle_at}
use Rattle.sight_names.specs.Points.{reverse_of}
use Rattle.sight_names.specs.Sequence.{Portal, entry_edge}
use Rattle.sight_names.proofs.PlanMap.{plan_is_map}
use Rattle.sight_lift.proofs.Doors.{has_name, named_is, other_edge}
use Rattle.math_base.proofs.Bools.{not_not}
use Rattle.math_base.proofs.Options.{some_is_same}
use Rattle.mesh_shape.specs.HalfEdges.HalfEdges.{portal_into}
use Rattle.mesh_shape.specs.HalfEdges.Kinds.{IsEnteredAt}
use Rattle.gate_floods.specs.Gates.{IsGate, other_side}
use Rattle.gate_floods.specs.declared.gate_masks.masks.Row.{Row}
use Rattle.gate_floods.specs.GateMasks.Masks.{AreSideMasks, IsLeftOut, IsMaskAt, mask_of_side}
use Rattle.gate_floods.specs.GateMasks.Behind.{IsMaskBehind, MasksAreFoundBehind}
use Rattle.gate_floods.proofs.GateMasks.AtSide.{GateLine, gate_of_line, line_of_gate}

module _ (m : Map) (is_map : IsMap m) (ts : List Triangle) (ls : List (Option ℕ)) (good : IsGoodMesh m ts ls) where
  -- two sides with one edge name one sector
  one_name : (i j : ℕ) (k l : MapLine) (b c : Bool) (x y : ℕ) → line_at m i ≡ Some k → line_at m j ≡ Some l → side_edge m k b ≡ side_edge m l c → sector_on k b ≡ Some x → sector_on l c ≡ Some y → x ≡ y
  one_name i j k l b c x y at_k at_l same names_x names_y =
      let f = good.fits.sides (record { line = i; left = b }) k x at_k (named_is m i k b x at_k names_x) in
      let g = good.fits.sides (record { line = j; left = c }) l y at_l (named_is m j l c y at_l names_y) in
      let one : f.0 ≡ g.0 = some_is_same f.0 g.0 (sym f.1 ∙ ap (triangle_at ts) same ∙ g.1) in
      some_is_same x y (sym f.2 ∙ ap (label_of ls) one ∙ g.2)

  turned : (k l : MapLine) (b c : Bool) → side_edge m k b ≡ side_edge m l c → side_edge m k (not b) ≡ side_edge m l (not c)
  turned k l b c same = sym (other_edge m k b) ∙ ap reverse_of same ∙ other_edge m l c

  -- a gate through a portal is one at whichever passable line is the portal
  gate_here : (b d : ℕ) (q : Portal) → IsGate m b d q → (s : Side) (l : MapLine) → line_at m s.line ≡ Some l → l.solid ≡ false → side_edge m l s.left ≡ entry_edge q → GateLine m b d q (other_side s)
  gate_here b d q gate s l at passes edge =
      let h = line_of_gate m b d q gate in
      let u = gate.side in
      let to = has_name m.sectors l s.left (is_map s.line l at) passes in
      let from = has_name m.sectors l (not s.left) (is_map s.line l at) passes in
      let ahead : side_edge m l s.left ≡ side_edge m h.line (not gate.side.left) = edge ∙ h.edge in
      let back : side_edge m l (not s.left) ≡ side_edge m h.line gate.side.left = subst (λ (c : Bool). side_edge m l (not s.left) ≡ side_edge m h.line c) (not_not gate.side.left) (turned l h.line s.left (not gate.side.left) ahead) in
      let far : to.0 ≡ d = one_name s.line gate.side.line l h.line s.left (not gate.side.left) to.0 d at h.is ahead to.1 h.to in
      let near : from.0 ≡ b = one_name s.line gate.side.line l h.line (not s.left) gate.side.left from.0 b at h.is back from.1 h.from in
      record {
        line = l;
        is = at;
        passable = passes;
        from = from.1 ∙ ap (λ (n : ℕ). Some n) near;
        to = subst (λ (c : Bool). sector_on l c ≡ Some d) (sym (not_not s.left)) (to.1 ∙ ap (λ (n : ℕ). Some n) far);
        edge = sym edge ∙ ap (side_edge m l) (sym (not_not s.left));
        differ = h.differ;
      }

  module _ (Claims : ℕ → ℕ → Type 0) (masks : List (Option Row)) (are : AreSideMasks m Claims masks) (q : Portal) (s : Side) (l : MapLine) (at : line_at m s.line ≡ Some l) (passes : l.solid ≡ false) (edge : side_edge m l s.left ≡ entry_edge q) where
    -- a gate at that side is this portal
    same_portal : (b d : ℕ) (r : Portal) → GateLine m b d r (other_side s) → r ≡ q
    same_portal b d r h =
        let line : h.line ≡ l = some_is_same h.line l (sym h.is ∙ at) in
        let e : entry_edge r ≡ entry_edge q = h.edge ∙ ap (λ (k : MapLine). side_edge m k (not (not s.left))) line ∙ ap (side_edge m l) (not_not s.left) ∙ edge in
        λ i. record { left = (e i).from; right = (e i).to }

    behind_side : (o : Option Row) → IsMaskAt m Claims (other_side s) o → IsMaskBehind m Claims q o
    behind_side None none = λ b d gate. none b d q (gate_of_line m b d q (other_side s) (gate_here b d q gate s l at passes edge)) refl
    behind_side (Some row) ((b, d, r, gate, same), bits) = (
      (b, d, subst (IsGate m b d) (same_portal b d r (subst (GateLine m b d r) same (line_of_gate m b d r gate))) gate),
      (λ x y g. bits x y q (gate_of_line m x y q (other_side s) (gate_here x y q g s l at passes edge)) refl),
    )

pub masks_behind : MasksAreFoundBehind
masks_behind p ts labels xs joined masks e x is good are h open_edge = at x.entered (h.entered open_edge)
  where
    at : (o : Option Side) → IsEnteredAt p (portal_into x) o → IsMaskBehind (map_of p) (IsLeftOut joined) (portal_into x) (option_and_then (λ (s : Side). mask_of_side masks (other_side s)) o)
    at None none = λ b d gate. let g = line_of_gate (map_of p) b d (portal_into x) gate in none (gate.side.line, g.line, not gate.side.left, g.is, g.edge)
    at (Some s) passable = behind_side (map_of p) (plan_is_map p is) ts labels good (IsLeftOut joined) masks are (portal_into x) s passable.line passable.is_line passable.passable passable.edge (mask_of_side masks (other_side s)) (are (other_side s))
