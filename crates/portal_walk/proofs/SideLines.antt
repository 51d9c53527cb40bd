-- Sides of a plan's lines, as edges of the map, as roots and as arrivals.
use Rattle.std.proofs.Common.{◌≡◌, ℕ, ◌<◌, List, slice_get, Option, Some, None, Bool, true, false, IsTrue, refl, sym, ap, ◌∙◌, subst, option_and_then, option_map, true≢false, eqb-true, IfSome, All}
use Rattle.std.specs.Option.{option_eq}
use lib.Dec.{eqb}
use Rattle.std.proofs.lemmas.Option.{same_Some, slice_get_within, get_or_from_slice_get}
use Rattle.sight_names.specs.declared.names.Side.{Side}
use Rattle.sight_names.specs.declared.names.Triangle.{Triangle}
use Rattle.sight_names.specs.declared.plan.Line.{Line}
use Rattle.sight_names.specs.Plan.{PlanParts, IsPlan}
use Rattle.sight_names.specs.Map.{MapLine, map_of, looked_up, named, sector_on, IsMapLine}
use Rattle.sight_names.specs.Points.{Edge, line_edge}
use Rattle.sight_names.specs.Mesh.{IsGoodMesh, triangle_at, label_of}
use Rattle.sight_names.specs.Sequence.{Portal, entry_edge, names_it}
use Rattle.sight_names.proofs.PlanMap.{plan_is_map}
use Rattle.sight_names.proofs.PlanNumbers.{line_edge_of_plan}
use Rattle.mesh_shape.proofs.RuleLemmas.{plan_line_at}
use Rattle.mesh_shape.specs.HalfEdges.Kinds.{IsEnteredAt, IsPassableAt}
use Rattle.portal_walk.specs.Sides.{IsRootOf, IsArrival, ArrivesAt}
use Rattle.math_base.proofs.Bools.{only_middle}
use Rattle.sight_names.proofs.Roots.{root_test}

-- ---- roots

pub names_test : (o : Option ℕ) (a : ℕ) → names_it o a ≡ option_eq eqb o (Some a)
names_test None a = refl
names_test (Some b) a = refl

pub named_true : (o : Option ℕ) (a : ℕ) → option_eq eqb o (Some a) ≡ true → o ≡ Some a
named_true None a e = absurd (true≢false (sym e))
named_true (Some b) a e = ap Some (eqb-true b a e)

pub root_by_right : (p : PlanParts) → IsPlan p → (k a : ℕ) (l : Line) → slice_get p.lines k ≡ Some (Some l) → l.solid ≡ false → option_eq eqb l.right (Some a) ≡ true → option_eq eqb l.left (Some a) ≡ false
    → IsRootOf p a (record { side = record { line = k; left = false }; left = l.a; right = l.b })
root_by_right p is k a l e solid right left = record {
  exit = record {
    within = slice_get_within p.lines k (Some l) e;
    names = ap (option_and_then (λ (x : MapLine). x.right)) (plan_line_at p k l e) ∙ named_true l.right a right;
    is_root = root_test (map_of p) a (record { line = k; left = false }) (looked_up p.points l) (plan_line_at p k l e) ∙ only_middle l.solid (names_it l.right a) (names_it l.left a) solid (names_test l.right a ∙ right) (names_test l.left a ∙ left);
  };
  portal = ap (option_map (λ (x : MapLine). let q : Portal = record { left = (line_edge (map_of p) x).from; right = (line_edge (map_of p) x).to } in q)) (plan_line_at p k l e)
      ∙ ap (λ (d : Edge). let q : Portal = record { left = d.from; right = d.to } in Some q) (line_edge_of_plan p is k l e);
}

pub root_by_left : (p : PlanParts) → IsPlan p → (k a : ℕ) (l : Line) → slice_get p.lines k ≡ Some (Some l) → l.solid ≡ false → option_eq eqb l.right (Some a) ≡ false → option_eq eqb l.left (Some a) ≡ true
    → IsRootOf p a (record { side = record { line = k; left = true }; left = l.b; right = l.a })
root_by_left p is k a l e solid right left = record {
  exit = record {
    within = slice_get_within p.lines k (Some l) e;
    names = ap (option_and_then (λ (x : MapLine). x.left)) (plan_line_at p k l e) ∙ named_true l.left a left;
    is_root = root_test (map_of p) a (record { line = k; left = true }) (looked_up p.points l) (plan_line_at p k l e) ∙ only_middle l.solid (names_it l.left a) (names_it l.right a) solid (names_test l.left a ∙ left) (names_test l.right a ∙ right);
  };
  portal = ap (option_map (λ (x : MapLine). let q : Portal = record { left = (line_edge (map_of p) x).to; right = (line_edge (map_of p) x).from } in q)) (plan_line_at p k l e)
      ∙ ap (λ (d : Edge). let q : Portal = record { left = d.to; right = d.from } in Some q) (line_edge_of_plan p is k l e);
}

-- ---- arrivals

has_name : (n : ℕ) (l : MapLine) (left : Bool) → IsMapLine n l → l.solid ≡ false → (a : ℕ) × (sector_on l left ≡ Some a) × (a < n)
has_name n l true h solid = one l.left h.left h.solid_left
  where
    one : (o : Option ℕ) → IfSome o (λ a. a < n) → (o ≡ None → IsTrue l.solid) → (a : ℕ) × (o ≡ Some a) × (a < n)
    one None f g = absurd (true≢false (sym (g refl) ∙ solid))
    one (Some a) f g = (a, refl, f)
has_name n l false h solid = one l.right h.right h.solid_right
  where
    one : (o : Option ℕ) → IfSome o (λ a. a < n) → (o ≡ None → IsTrue l.solid) → (a : ℕ) × (o ≡ Some a) × (a < n)
    one None f g = absurd (true≢false (sym (g refl) ∙ solid))
    one (Some a) f g = (a, refl, f)

arrival : (p : PlanParts) → IsPlan p → (ts : List Triangle) (ls : List (Option ℕ)) → IsGoodMesh (map_of p) ts ls → (d : Edge) (k : ℕ) (s : Side) → IsPassableAt p d s → triangle_at ts d ≡ Some k → IsArrival p ls k s
arrival p is ts ls good d k s h at =
    let n = has_name p.sectors h.line s.left (plan_is_map p is s.line h.line h.is_line) h.passable in
    let names : named (map_of p) s ≡ Some n.0 = ap (option_and_then (λ (l : MapLine). sector_on l s.left)) h.is_line ∙ n.1 in
    let t = good.fits.sides s h.line n.0 h.is_line names in
    let same : t.0 ≡ k = same_Some t.0 k (sym t.1 ∙ ap (triangle_at ts) h.edge ∙ at) in
    record {
      within = h.within;
      line = h.line;
      is_line = h.is_line;
      passable = h.passable;
      sector = n.0;
      names = names;
      label = subst (λ (j : ℕ). label_of ls j ≡ Some n.0) same t.2;
      exists = n.2;
    }

pub arrives : (p : PlanParts) → IsPlan p → (ts : List Triangle) (ls : List (Option ℕ)) → IsGoodMesh (map_of p) ts ls → (d : Portal) (k : ℕ) (o : Option Side) → IsEnteredAt p d o → triangle_at ts (entry_edge d) ≡ Some k → ArrivesAt p ls k o
arrives p is ts ls good d k None h at = tt
arrives p is ts ls good d k (Some s) h at = arrival p is ts ls good (entry_edge d) k s h at

-- what holds of all holds of the one that stands there
pub all_at : {X : Type 0} (P : X → Type 0) (xs : List X) (k : ℕ) (x : X) → All P xs → slice_get xs k ≡ Some x → P x
all_at P xs k x h e = subst P (get_or_from_slice_get xs k x x e) (h k x (slice_get_within xs k x e))
