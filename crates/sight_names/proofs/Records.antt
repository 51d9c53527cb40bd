-- Points and edges are their numbers.
use Rattle.std.proofs.Common.{◌≡◌, ℕ, ◌≤◌, ◌^◌, nat_abs, Option, Some, None, arith}
use Rattle.std.proofs.lemmas.Int.{ints}
use Rattle.std.proofs.Math.Bridge.{le_prop}
use mathlib.Core.HLevel.{is_prop→PathP}
use Rattle.sight_names.specs.declared.names.Pt.{Pt}
use Rattle.sight_names.specs.declared.plan.Line.{Line}
use Rattle.sight_names.specs.Point.{SamePoint, point_of}
use Rattle.sight_names.specs.Points.{Edge}

pub same_pt : (p q : Pt) → p.x ≡ q.x → p.y ≡ q.y → p ≡ q
same_pt p q e f = λ i. record {
  x = e i;
  y = f i;
  near_x = is_prop→PathP (λ j. nat_abs (e j) ≤ 2 ^ 25) (λ j. le_prop) p.near_x q.near_x i;
  near_y = is_prop→PathP (λ j. nat_abs (f j) ≤ 2 ^ 25) (λ j. le_prop) p.near_y q.near_y i;
}

pub edge_of_numbers : (a b c d : ℕ) → a ≡ c → b ≡ d → ◌≡◌ {A = Edge} (record { from = a; to = b }) (record { from = c; to = d })
edge_of_numbers a b c d e f = cc

pub same_edge : {a b c d : ℕ} → a ≡ c → b ≡ d → ◌≡◌ {A = Edge} (record { from = a; to = b }) (record { from = c; to = d })
same_edge e f = cc

-- a record that is passed over has no line
pub none_is_no_line : (l : Line) → ◌≡◌ {A = Option (Option Line)} (Some None) (Some (Some l)) → ⊥
none_is_no_line l h = cc

pub whole_same : (p q : Pt) → SamePoint (point_of p) (point_of q) → p ≡ q
whole_same p q h = same_pt p q (let e = h.x in omega (arith, ints)) (let e = h.y in omega (arith, ints))
