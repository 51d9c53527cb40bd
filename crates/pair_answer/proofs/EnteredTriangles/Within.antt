-- What is entered are numbers of triangles, and stops are segments between points.
use Rattle.std.proofs.Common.{ℕ, ◌<◌, List, Bool, true, false, All, Option, length, Contains, get_or, sym, subst, arith, cond}
use Rattle.std.specs.Prelude.{nat_lt}
use Rattle.std.proofs.lemmas.List.Elements.{All-from_get_or}
use Rattle.std.proofs.lemmas.Option.{slice_get-get_or, slice_get_within}
use Rattle.sight_names.specs.declared.names.Triangle.{Triangle}
use Rattle.sight_names.specs.Map.{Map}
use Rattle.sight_names.specs.Mesh.{AreTriangles}
use Rattle.sight_names.specs.Points.{Edge}
use Rattle.sight_names.proofs.Lists.{contains_of_get}
use Rattle.mesh_shape.proofs.RuleLemmas.{edge_cases}
use Rattle.mesh_base.proofs.GoodMesh.{found_at}
use Rattle.map_picture.specs.declared.pair.Stop.{Stop}
use Rattle.pair_answer.specs.declared.entered_triangles.entered.Entered.{Entered}
use Rattle.pair_answer.specs.EnteredTriangles.Answer.{AreEnteredOutOf}
use Rattle.pair_answer.specs.EnteredTriangles.Entered.{Enters}
use Rattle.pair_answer.specs.EnteredTriangles.Stops.{segment}

module _ (m : Map) (ts : List Triangle) (ls : List (Option ℕ)) (sources : List ℕ) (e : Entered) (are : AreEnteredOutOf m ts ls sources e) where
  pub entered_within : (k : ℕ) → Contains e.triangles.items k → k < length ts
  entered_within k c = by ((are.exactly k).0 c)
    where
      by : (a : ℕ) × Contains sources a × Enters m ts ls a k → k < length ts
      by (a, source, (s, x)) = let u = found_at ts _ k x.into.triangle in slice_get_within ts k u.0 u.1

  both_below : (n u v : ℕ) → u < n → v < n → (segment u v).from < n × (segment u v).to < n
  both_below n u v low high = by (nat_lt u v)
    where
      by : (b : Bool) → (cond {A = Stop} b (record { from = u; to = v }) (record { from = v; to = u })).from < n × (cond {A = Stop} b (record { from = u; to = v }) (record { from = v; to = u })).to < n
      by true = (low, high)
      by false = (high, low)

  -- the ends of a stop are points of the triangles
  pub stop_within : (n : ℕ) → AreTriangles n ts → (s : Stop) → Contains e.stops.items s → (s.from < n) × (s.to < n)
  stop_within n tris s c =
      let x = (are.stops s).0 c in
      let u = found_at ts x.e x.near x.at in
      let t = tris.each x.near u.0 u.1 in
      let low = t.least in let second = t.second in
      let ends = edge_cases u.0 x.e (λ (d : Edge). (d.from < n) × (d.to < n)) (omega (arith, low, second), t.second) (t.second, t.third) (t.third, omega (arith, low, second)) u.2 in
      subst (λ (y : Stop). (y.from < n) × (y.to < n)) (sym x.is) (both_below n x.e.from x.e.to ends.0 ends.1)

-- ---- of all of them

all_contained : {X : Type 0} (P : X → Type 0) (xs : List X) (d : X) → ((x : X) → Contains xs x → P x) → All P xs
all_contained P xs d each = All-from_get_or P xs d (λ i l. each (get_or xs i d) (contains_of_get xs (get_or xs i d) i (slice_get-get_or xs i d l)))

pub triangles_within : (m : Map) (ts : List Triangle) (ls : List (Option ℕ)) (sources : List ℕ) (e : Entered) → AreEnteredOutOf m ts ls sources e → All (λ (k : ℕ). k < length ts) e.triangles.items
triangles_within m ts ls sources e are = all_contained (λ (k : ℕ). k < length ts) e.triangles.items 0 (entered_within m ts ls sources e are)

pub stops_from_within : (m : Map) (ts : List Triangle) (ls : List (Option ℕ)) (n : ℕ) (sources : List ℕ) (e : Entered) → AreTriangles n ts → AreEnteredOutOf m ts ls sources e → All (λ (s : Stop). s.from < n) e.stops.items
stops_from_within m ts ls n sources e tris are = all_contained (λ (s : Stop). s.from < n) e.stops.items (record { from = 0; to = 0 }) (λ s c. (stop_within m ts ls sources e are n tris s c).0)

pub stops_to_within : (m : Map) (ts : List Triangle) (ls : List (Option ℕ)) (n : ℕ) (sources : List ℕ) (e : Entered) → AreTriangles n ts → AreEnteredOutOf m ts ls sources e → All (λ (s : Stop). s.to < n) e.stops.items
stops_to_within m ts ls n sources e tris are = all_contained (λ (s : Stop). s.to < n) e.stops.items (record { from = 0; to = 0 }) (λ s c. (stop_within m ts ls sources e are n tris s c).1)
