-- The gate at a side of a line of a plan.
use Rattle.std.proofs.Common.{◌≡◌, ℕ, ◌↔◌, List, Option, Some, None, Bool, true, false, not, ◌&&◌, refl, sym, ap, ◌∙◌, subst, slice_get}
use Rattle.std.specs.Prelude.{option_map, option_and_then, IsFalse, ◌==◌, if◌then◌else◌}
use Rattle.std.proofs.lemmas.Option.{none-some, same_Some, slice_get-map}
use Rattle.sight_names.specs.declared.names.Pair.{Pair}
use Rattle.sight_names.specs.declared.names.Pt.{Pt}
use Rattle.sight_names.specs.declared.names.Side.{Side}
use Rattle.sight_names.specs.declared.plan.Line.{Line}
use Rattle.sight_names.specs.Plan.{PlanParts, IsPlan}
use Rattle.sight_names.specs.Map.{Map, MapLine, line_at, looked_up, map_of, sector_on}
use Rattle.sight_names.specs.Mesh.{side_edge}
use Rattle.sight_names.specs.Points.{Edge, place, reverse_of}
use Rattle.sight_names.specs.Sequence.{Portal, entry_edge, is_root, names_it, sides_of}
use Rattle.sight_names.proofs.PlanMap.{line_of_plan}
use Rattle.sight_names.proofs.PlanNumbers.{line_edge_of_plan}
use Rattle.sight_names.proofs.Roots.{root_test}
use Rattle.sight_lift.proofs.Doors.{named_is}
use Rattle.sight_lift.proofs.Sequences.{filter_passes, root_is}
use Rattle.sight_lift.proofs.Tails.{root_listed, root_portal_is}
use Rattle.math_base.proofs.Bools.{by_value, not_both_values, second_true, false_of_not}
use Rattle.math_base.proofs.Numbers.{tells_same, tells_other}
use Rattle.math_base.proofs.Options.{some_is_same}
use Rattle.gate_floods.specs.Gates.{IsGate}
use Rattle.gate_floods.specs.declared.gate_masks.gate.Gate.{Gate}
use Rattle.gate_floods.specs.GateMasks.Gates.{crossing_between, crossing_of, ends_by_side, portal_of_gate, turned_pair, IsGateOf}

-- ---- a gate of a map by its line

pub record GateLine (m : Map) (b d : ℕ) (p : Portal) (s : Side) : Type 0 where
  pub line : MapLine
  pub is : line_at m s.line ≡ Some line
  pub passable : IsFalse line.solid
  pub from : sector_on line s.left ≡ Some b
  pub to : sector_on line (not s.left) ≡ Some d
  pub edge : entry_edge p ≡ side_edge m line (not s.left)
  pub differ : ¬ (d ≡ b)

pub line_of_gate : (m : Map) (b d : ℕ) (p : Portal) (g : IsGate m b d p) → GateLine m b d p g.side
line_of_gate m b d p g =
    let r = root_is m b g.side g.root in
    let to : sector_on r.line (not g.side.left) ≡ Some d = ap (option_and_then (λ (l : MapLine). sector_on l (not g.side.left))) (sym r.is) ∙ g.far in
    record {
      line = r.line;
      is = r.is;
      passable = r.passable;
      from = r.names;
      to = to;
      edge = edge_is r.line r.is;
      differ = λ e. other r.line r.is (ap (λ (o : Option ℕ). names_it o b) to ∙ tells_same d b e);
    }
  where
    edge_is : (l : MapLine) → line_at m g.side.line ≡ Some l → entry_edge p ≡ side_edge m l (not g.side.left)
    edge_is l is = ap (λ (q : Portal). entry_edge q) (some_is_same p (of l) (sym g.portal ∙ ap (option_map of) is))
      where
        of : MapLine → Portal
        of k = let e = side_edge m k (not g.side.left) in record { left = e.from; right = e.to }

    other : (l : MapLine) → line_at m g.side.line ≡ Some l → names_it (sector_on l (not g.side.left)) b ≡ true → ⊥
    other l is named =
        let passes = sym (root_test m b g.side l is) ∙ filter_passes (is_root m b) (sides_of m) g.side g.root in
        let apart = second_true (not l.solid && names_it (sector_on l g.side.left) b) (not (names_it (sector_on l (not g.side.left)) b)) passes in
        not_both_values (names_it (sector_on l (not g.side.left)) b) named (false_of_not (names_it (sector_on l (not g.side.left)) b) apart)

abbrev pub gate_of_line : (m : Map) (b d : ℕ) (p : Portal) (s : Side) → GateLine m b d p s → IsGate m b d p
gate_of_line m b d p s h = record {
  side = s;
  root = root_listed m b d s.line h.line s.left h.is h.passable h.from h.to h.differ;
  portal = root_portal_is m s.line h.line s.left p h.is h.edge;
  far = named_is m s.line h.line (not s.left) d h.is h.to;
}

-- ---- the plan's line

-- the sector on a side of a line of the plan
abbrev pub on_side : Line → Bool → Option ℕ
on_side l true = l.left
on_side l false = l.right

looked_up_side : (points : List Pt) (l : Line) (b : Bool) → sector_on (looked_up points l) b ≡ on_side l b
looked_up_side points l true = refl
looked_up_side points l false = refl

abbrev pub edge_of : Pair → Edge
edge_of q = record { from = q.a; to = q.b }

ends_edge : (p : PlanParts) → IsPlan p → (k : ℕ) (l : Line) (left : Bool) → slice_get p.lines k ≡ Some (Some l) → side_edge (map_of p) (looked_up p.points l) (not left) ≡ edge_of (ends_by_side l left)
ends_edge p is k l false e = line_edge_of_plan p is k l e
ends_edge p is k l true e = ap reverse_of (line_edge_of_plan p is k l e)

-- what a crossing is
pub record Crosses (l : Line) (left : Bool) (q : Pair) : Type 0 where
  pub passable : l.solid ≡ false
  pub from : on_side l left ≡ Some q.a
  pub to : on_side l (not left) ≡ Some q.b
  pub differ : ¬ (q.b ≡ q.a)

crossed_between : (side : Bool) (right left : Option ℕ) (q : Pair) → crossing_between side right left ≡ Some q → (a : ℕ) × (b : ℕ) × (right ≡ Some a) × (left ≡ Some b) × ¬ (a ≡ b) × (turned_pair side a b ≡ q)
crossed_between side None left q e = absurd (none-some q e)
crossed_between side (Some a) None q e = absurd (none-some q e)
crossed_between side (Some a) (Some b) q e = by_value (a == b)
    (λ same. absurd (none-some q (ap (λ (t : Bool). let o : Option Pair = if t then None else Some (turned_pair side a b) in o) (sym same) ∙ e)))
    (λ other. (a, b, refl, refl, (λ same. not_both_values (a == b) (tells_same a b same) other), same_Some (turned_pair side a b) q (ap (λ (t : Bool). let o : Option Pair = if t then None else Some (turned_pair side a b) in o) (sym other) ∙ e)))

crossing_found : (l : Line) (left : Bool) (q : Pair) → crossing_of l left ≡ Some q → Crosses l left q
crossing_found l left q e = by_value l.solid
    (λ solid. absurd (none-some q (ap (λ (t : Bool). let o : Option Pair = if t then None else crossing_between left l.right l.left in o) (sym solid) ∙ e)))
    (λ passes. at left passes (crossed_between left l.right l.left q (ap (λ (t : Bool). let o : Option Pair = if t then None else crossing_between left l.right l.left in o) (sym passes) ∙ e)))
  where
    at : (side : Bool) → l.solid ≡ false → (a : ℕ) × (b : ℕ) × (l.right ≡ Some a) × (l.left ≡ Some b) × ¬ (a ≡ b) × (turned_pair side a b ≡ q) → Crosses l side q
    at true passes (a, b, right, left, differ, is) =
        let x : b ≡ q.a = ap (λ (r : Pair). r.a) is in
        let y : a ≡ q.b = ap (λ (r : Pair). r.b) is in
        record { passable = passes; from = left ∙ ap (λ (n : ℕ). Some n) x; to = right ∙ ap (λ (n : ℕ). Some n) y; differ = λ s. differ (y ∙ s ∙ sym x) }
    at false passes (a, b, right, left, differ, is) =
        let x : a ≡ q.a = ap (λ (r : Pair). r.a) is in
        let y : b ≡ q.b = ap (λ (r : Pair). r.b) is in
        record { passable = passes; from = right ∙ ap (λ (n : ℕ). Some n) x; to = left ∙ ap (λ (n : ℕ). Some n) y; differ = λ s. differ (x ∙ sym s ∙ sym y) }

between_both : (side : Bool) (right left : Option ℕ) (a b : ℕ) → right ≡ Some a → left ≡ Some b → ¬ (a ≡ b) → crossing_between side right left ≡ Some (turned_pair side a b)
between_both side None left a b e f n = absurd (none-some a e)
between_both side (Some x) None a b e f n = absurd (none-some b f)
between_both side (Some x) (Some y) a b e f n =
    let p = same_Some x a e in
    let q = same_Some y b f in
    ap (λ (t : Bool). let o : Option Pair = if t then None else Some (turned_pair side x y) in o) (tells_other x y (λ s. n (sym p ∙ s ∙ q)))
    ∙ ap (λ (n : ℕ). Some (turned_pair side n y)) p ∙ ap (λ (n : ℕ). Some (turned_pair side a n)) q

crossing_there : (l : Line) (left : Bool) (b d : ℕ) → l.solid ≡ false → on_side l left ≡ Some b → on_side l (not left) ≡ Some d → ¬ (d ≡ b) → crossing_of l left ≡ Some (record { a = b; b = d })
crossing_there l true b d passes from to n = ap (λ (t : Bool). let o : Option Pair = if t then None else crossing_between true l.right l.left in o) passes ∙ between_both true l.right l.left d b to from n
crossing_there l false b d passes from to n = ap (λ (t : Bool). let o : Option Pair = if t then None else crossing_between false l.right l.left in o) passes ∙ between_both false l.right l.left b d from to (λ s. n (sym s))

-- ---- the gate at a side

abbrev pub entry_of : PlanParts → ℕ → Option Line
entry_of p k = option_and_then (λ l. l) (slice_get p.lines k)

entry_there : (o : Option (Option Line)) (l : Line) → option_and_then (λ (x : Option Line). x) o ≡ Some l → o ≡ Some (Some l)
entry_there None l h = absurd (none-some l h)
entry_there (Some o) l h = ap Some h

module _ (p : PlanParts) (is : IsPlan p) (s : Side) where
  abbrev pub gate_by : Pair → Pair → Pt → Pt → Gate
  gate_by q ends left_at right_at = record { near = q.a; far = q.b; side = s; left = ends.a; right = ends.b; left_at = left_at; right_at = right_at }

  -- what the line and the side of a gate are
  pub record FoundAt (e : Gate) : Type 0 where
    pub line : Line
    pub entry : entry_of p s.line ≡ Some line
    pub crosses : crossing_of line s.left ≡ Some (record { a = e.near; b = e.far })
    pub ends : ends_by_side line s.left ≡ record { a = e.left; b = e.right }

  found_at : (e : Gate) (t : Side) → GateLine (map_of p) e.near e.far (portal_of_gate e) t → t ≡ s → FoundAt e
  found_at e t g same =
      let h : GateLine (map_of p) e.near e.far (portal_of_gate e) s = subst (GateLine (map_of p) e.near e.far (portal_of_gate e)) same g in
      let k = line_of_plan p.points p.lines s.line h.line h.is in
      let solid : k.0.solid ≡ false = ap (λ (x : MapLine). x.solid) k.2 ∙ h.passable in
      let from : on_side k.0 s.left ≡ Some e.near = sym (looked_up_side p.points k.0 s.left) ∙ ap (λ (x : MapLine). sector_on x s.left) k.2 ∙ h.from in
      let to : on_side k.0 (not s.left) ≡ Some e.far = sym (looked_up_side p.points k.0 (not s.left)) ∙ ap (λ (x : MapLine). sector_on x (not s.left)) k.2 ∙ h.to in
      let edge : edge_of (ends_by_side k.0 s.left) ≡ entry_edge (portal_of_gate e) = sym (ends_edge p is s.line k.0 s.left k.1) ∙ ap (λ (x : MapLine). side_edge (map_of p) x (not s.left)) k.2 ∙ sym h.edge in
      record {
        line = k.0;
        entry = ap (option_and_then (λ (x : Option Line). x)) k.1;
        crosses = crossing_there k.0 s.left e.near e.far solid from to h.differ;
        ends = λ i. record { a = (edge i).from; b = (edge i).to };
      }

  pub gate_found : (e : Gate) → IsGateOf (map_of p) e → e.side ≡ s → FoundAt e
  gate_found e g same = found_at e g.gate.side (line_of_gate (map_of p) e.near e.far (portal_of_gate e) g.gate) (g.side ∙ same)

  pub gate_there : (l : Line) (q ends : Pair) (left_at right_at : Pt) → entry_of p s.line ≡ Some l → crossing_of l s.left ≡ Some q → ends ≡ ends_by_side l s.left → left_at ≡ place (map_of p) ends.a → right_at ≡ place (map_of p) ends.b
      → IsGateOf (map_of p) (gate_by q ends left_at right_at)
  gate_there l q ends left_at right_at entry crossing ends_is left right =
      let at = entry_there (slice_get p.lines s.line) l entry in
      let c = crossing_found l s.left q crossing in
      let edge : entry_edge (record { left = ends.a; right = ends.b }) ≡ side_edge (map_of p) (looked_up p.points l) (not s.left) = ap edge_of ends_is ∙ sym (ends_edge p is s.line l s.left at) in
      record {
        gate = gate_of_line (map_of p) q.a q.b (record { left = ends.a; right = ends.b }) s (record {
          line = looked_up p.points l;
          is = line_there l at;
          passable = c.passable;
          from = looked_up_side p.points l s.left ∙ c.from;
          to = looked_up_side p.points l (not s.left) ∙ c.to;
          edge = edge;
          differ = c.differ;
        });
        side = refl;
        left_at = left;
        right_at = right;
      }
    where
      line_there : (l : Line) → slice_get p.lines s.line ≡ Some (Some l) → line_at (map_of p) s.line ≡ Some (looked_up p.points l)
      line_there l at = ap (option_and_then (λ (k : Option MapLine). k)) (slice_get-map (option_map (looked_up p.points)) p.lines s.line ∙ ap (option_map (option_map (looked_up p.points))) at)

  -- what holds of the gate that the code gives, and of no other
  pub tells_gate : (l : Line) (q ends : Pair) (left_at right_at : Pt) → entry_of p s.line ≡ Some l → crossing_of l s.left ≡ Some q → ends ≡ ends_by_side l s.left → left_at ≡ place (map_of p) ends.a → right_at ≡ place (map_of p) ends.b
      → (e : Gate) → (Some (gate_by q ends left_at right_at) ≡ Some e) ↔ (IsGateOf (map_of p) e × (e.side ≡ s))
  tells_gate l q ends left_at right_at entry crossing ends_is left right e = (there, back)
    where
      there : Some (gate_by q ends left_at right_at) ≡ Some e → IsGateOf (map_of p) e × (e.side ≡ s)
      there h = subst (λ (x : Gate). IsGateOf (map_of p) x × (x.side ≡ s)) (same_Some (gate_by q ends left_at right_at) e h) (gate_there l q ends left_at right_at entry crossing ends_is left right, refl)

      back : IsGateOf (map_of p) e × (e.side ≡ s) → Some (gate_by q ends left_at right_at) ≡ Some e
      back (g, same) =
          let f = gate_found e g same in
          let line : l ≡ f.line = same_Some l f.line (sym entry ∙ f.entry) in
          let cross : q ≡ record { a = e.near; b = e.far } = same_Some q (record { a = e.near; b = e.far }) (sym crossing ∙ ap (λ (x : Line). crossing_of x s.left) line ∙ f.crosses) in
          let both : ends ≡ record { a = e.left; b = e.right } = ends_is ∙ ap (λ (x : Line). ends_by_side x s.left) line ∙ f.ends in
          let at_left : left_at ≡ e.left_at = left ∙ ap (λ (x : Pair). place (map_of p) x.a) both ∙ sym g.left_at in
          let at_right : right_at ≡ e.right_at = right ∙ ap (λ (x : Pair). place (map_of p) x.b) both ∙ sym g.right_at in
          let all : gate_by q ends left_at right_at ≡ e = λ i. record { near = (cross i).a; far = (cross i).b; side = sym same i; left = (both i).a; right = (both i).b; left_at = at_left i; right_at = at_right i } in
          ap (λ (x : Gate). Some x) all

  pub tells_no_crossing : (l : Line) → entry_of p s.line ≡ Some l → crossing_of l s.left ≡ None → (e : Gate) → ¬ (IsGateOf (map_of p) e × (e.side ≡ s))
  tells_no_crossing l entry none e (g, same) =
      let f = gate_found e g same in
      let line : l ≡ f.line = same_Some l f.line (sym entry ∙ f.entry) in
      none-some (record { a = e.near; b = e.far }) (sym none ∙ ap (λ (x : Line). crossing_of x s.left) line ∙ f.crosses)
