-- Chains of neighbours, and how a passable line puts two components together.
use Rattle.std.proofs.Common.{◌≡◌, ℕ, ◌+◌, ◌<◌, ◌≤◌, inl, inr, List, [], ◌∷◌, ◌++◌, length, slice_get, Bool, true, false, not, Option, Some, None, refl, sym, ap, ◌∙◌, subst, arith, IfSome}
use Rattle.std.proofs.lemmas.Option.{slice_get_within, get_or_from_slice_get}
use Rattle.sight_names.specs.declared.plan.Line.{Line}
use Rattle.sight_names.specs.Plan.{PlanParts, IsPlan}
use Rattle.sight_names.specs.Map.{Map, MapLine, map_of, looked_up, sector_on}
use Rattle.sight_names.specs.Found.{AreNeighbours, IsChain, AreConnected}
use Rattle.sight_names.proofs.PlanMap.{line_of_plan}
use Rattle.mesh_shape.proofs.RuleLemmas.{plan_line_at}
use Rattle.face_groups.specs.TriSectors.Classes.{AreLeast, AreMerged, AreSingles, class_of}
use Rattle.face_groups.specs.TriSectors.Components.{AreComponents, IsPassableBetween, Connects}
use Rattle.face_groups.specs.TriSectors.Forest.{IsForest, classes_in}
use Rattle.face_groups.proofs.TriSectors.Forests.{classes_many, forest_named, singles_alone, singles_forest}
use Rattle.math_base.proofs.Numbers.{below_or_last}
use Rattle.math_base.proofs.Options.{one_value}
use Rattle.sight_names.proofs.Records.{none_is_no_line}

-- ---- one line

-- nothing is put together at a line that is no door
pub no_door_connects : (l : Line) (cs : List ℕ) → AreLeast cs → ((a b : ℕ) → IsPassableBetween l a b → ⊥) → Connects l cs cs
no_door_connects l cs named none = record { len = refl; named = named; keeps = λ k j hk hj e. e; joins = λ a b d. absurd (none a b d); only = λ k j hk hj e. inl e }

pub door_connects : (l : Line) (a b : ℕ) (old new : List ℕ) → IsPassableBetween l a b → a < length old → b < length old → AreMerged a b old new → Connects l old new
door_connects l a b old new door ha hb m = record {
  len = m.len;
  named = m.named;
  keeps = λ k j hk hj e. (m.exactly k j hk hj).1 (inl e);
  joins = λ x y d. ap (class_of new) (one_value l.right x a d.right door.right) ∙ (m.exactly a b ha hb).1 (inr (inl (refl, refl))) ∙ ap (class_of new) (one_value l.left b y door.left d.left);
  only = λ k j hk hj e. inr (a, b, door, (m.exactly k j hk hj).0 e);
}

-- ---- chains

pub chain_joined : (m : Map) (a b c : ℕ) (xs ys : List ℕ) → IsChain m a xs b → IsChain m b ys c → IsChain m a (xs ++ ys) c
chain_joined m a b c [] ys e h = subst (λ (k : ℕ). IsChain m k ys c) (sym e) h
chain_joined m a b c (x ∷ xs) ys g h = (g.0, chain_joined m x b c xs ys g.1 h)

pub connected_joined : (m : Map) (a b c : ℕ) → AreConnected m a b → AreConnected m b c → AreConnected m a c
connected_joined m a b c g h = (g.0 ++ h.0, chain_joined m a b c g.0 h.0 g.1 h.1)

one_step : (m : Map) (a b : ℕ) → AreNeighbours m a b → AreConnected m a b
one_step m a b n = (b ∷ [], (n, refl))

door_leads : (p : PlanParts) (i : ℕ) (l : Line) (a b : ℕ) → slice_get p.lines i ≡ Some (Some l) → IsPassableBetween l a b → AreNeighbours (map_of p) a b
door_leads p i l a b e d = (i, looked_up p.points l, false, plan_line_at p i l e, d.passable, d.right, d.left)

door_leads_back : (p : PlanParts) (i : ℕ) (l : Line) (a b : ℕ) → slice_get p.lines i ≡ Some (Some l) → IsPassableBetween l a b → AreNeighbours (map_of p) b a
door_leads_back p i l a b e d = (i, looked_up p.points l, true, plan_line_at p i l e, d.passable, d.left, d.right)

pub some_below : (o : Option ℕ) (a n : ℕ) → IfSome o (λ x. x < n) → o ≡ Some a → a < n
some_below o a n h e = subst (λ (x : Option ℕ). IfSome x (λ y. y < n)) e h

door_below : (p : PlanParts) → IsPlan p → (i : ℕ) (l : Line) (a b : ℕ) → slice_get p.lines i ≡ Some (Some l) → IsPassableBetween l a b → (a < p.sectors) × (b < p.sectors)
door_below p is i l a b e d = let w = is.each i l e in (some_below l.right a p.sectors w.right d.right, some_below l.left b p.sectors w.left d.left)

-- ---- the loop over the lines

-- the lines before n are passed
abbrev pub AreJoined : PlanParts → ℕ → List ℕ → Type 0
AreJoined p n cs = (i a b : ℕ) (l : Line) → i < n → slice_get p.lines i ≡ Some (Some l) → IsPassableBetween l a b → class_of cs a ≡ class_of cs b

abbrev pub OnlyConnected : PlanParts → List ℕ → Type 0
OnlyConnected p cs = (k j : ℕ) → k < p.sectors → j < p.sectors → class_of cs k ≡ class_of cs j → AreConnected (map_of p) k j

-- what the loop knows before line n
pub record IsPassed (p : PlanParts) (n : ℕ) (cs : List ℕ) : Type 0 where
  pub len : length cs ≡ p.sectors
  pub named : AreLeast cs
  pub joined : AreJoined p n cs
  pub only : OnlyConnected p cs

begun : (p : PlanParts) (cs : List ℕ) → AreSingles p.sectors cs → AreLeast cs → IsPassed p 0 cs
begun p cs s named = record {
  len = s.len;
  named = named;
  joined = λ i a b l lt. absurd (omega arith);
  only = λ k j hk hj e. ([], sym (s.alone k hk) ∙ e ∙ s.alone j hj);
}

joined_more : (p : PlanParts) → IsPlan p → (n : ℕ) (line : Line) (old new : List ℕ) → slice_get p.lines n ≡ Some (Some line) → length old ≡ p.sectors → AreJoined p n old → Connects line old new → AreJoined p (n + 1) new
joined_more p is n line old new at len h c i a b l lt there door = elim (below_or_last i n lt) as (λ _. class_of new a ≡ class_of new b) [
  | inl less ↦ let w = door_below p is i l a b there door in let w0 = w.0 in let w1 = w.1 in c.keeps a b (omega (arith, len, w0)) (omega (arith, len, w1)) (h i a b l less there door)
  | inr same ↦ c.joins a b (subst (λ (x : Line). IsPassableBetween x a b) (some_line l line (sym there ∙ ap (slice_get p.lines) same ∙ at)) door)
]
  where
    some_line : (l k : Line) → ◌≡◌ {A = Option (Option Line)} (Some (Some l)) (Some (Some k)) → l ≡ k
    some_line l k e = cc

joined_past : (p : PlanParts) (n : ℕ) (cs : List ℕ) → slice_get p.lines n ≡ Some None → AreJoined p n cs → AreJoined p (n + 1) cs
joined_past p n cs at h i a b l lt there door = elim (below_or_last i n lt) as (λ _. class_of cs a ≡ class_of cs b) [
  | inl less ↦ h i a b l less there door
  | inr same ↦ absurd (none_is_no_line l (sym at ∙ ap (slice_get p.lines) (sym same) ∙ there))
]

only_more : (p : PlanParts) → IsPlan p → (n : ℕ) (line : Line) (old new : List ℕ) → slice_get p.lines n ≡ Some (Some line) → length old ≡ p.sectors → OnlyConnected p old → Connects line old new → OnlyConnected p new
only_more p is n line old new at len h c k j hk hj e = elim (c.only k j (omega (arith, len, hk)) (omega (arith, len, hj)) e) as (λ _. AreConnected (map_of p) k j) [
  | inl same ↦ h k j hk hj same
  | inr (a, b, door, w) ↦ let u = door_below p is n line a b at door in elim w as (λ _. AreConnected (map_of p) k j) [
    | inl same ↦ h k j hk hj same
    | inr (inl both) ↦ connected_joined (map_of p) k a j (h k a hk u.0 both.0) (connected_joined (map_of p) a b j (one_step (map_of p) a b (door_leads p n line a b at door)) (h b j u.1 hj (sym both.1)))
    | inr (inr both) ↦ connected_joined (map_of p) k b j (h k b hk u.1 both.0) (connected_joined (map_of p) b a j (one_step (map_of p) b a (door_leads_back p n line a b at door)) (h a j u.0 hj (sym both.1)))
  ]
]

line_passed : (p : PlanParts) → IsPlan p → (n : ℕ) (line : Line) (old seen new : List ℕ) → slice_get p.lines n ≡ Some (Some line) → seen ≡ old → Connects line seen new → IsPassed p n old → IsPassed p (n + 1) new
line_passed p is n line old seen new at e c h =
    let con : Connects line old new = subst (λ (xs : List ℕ). Connects line xs new) e c in record {
      len = con.len ∙ h.len;
      named = con.named;
      joined = joined_more p is n line old new at h.len h.joined con;
      only = only_more p is n line old new at h.len h.only con;
    }

none_passed : (p : PlanParts) (n : ℕ) (cs : List ℕ) → slice_get p.lines n ≡ Some None → IsPassed p n cs → IsPassed p (n + 1) cs
none_passed p n cs at h = record { len = h.len; named = h.named; joined = joined_past p n cs at h.joined; only = h.only }

-- the same of the classes of a forest
pub record ArePassed (p : PlanParts) (n : ℕ) (ps : List ℕ) : Type 0 where
  pub forest : IsForest ps
  pub passed : IsPassed p n (classes_in ps)

pub forest_begun : (p : PlanParts) (ps : List ℕ) → AreSingles p.sectors ps → ArePassed p 0 ps
forest_begun p ps s = let is = singles_forest p.sectors ps s in record { forest = is; passed = begun p (classes_in ps) (singles_alone p.sectors ps s) (forest_named ps is) }

pub forest_line_passed : (p : PlanParts) → IsPlan p → (n : ℕ) (line : Line) (old seen new : List ℕ) → slice_get p.lines n ≡ Some (Some line) → seen ≡ old → IsForest new → Connects line (classes_in seen) (classes_in new) → ArePassed p n old → ArePassed p (n + 1) new
forest_line_passed p is n line old seen new at e forest c h = record { forest = forest; passed = line_passed p is n line (classes_in old) (classes_in seen) (classes_in new) at (ap classes_in e) c h.passed }

pub forest_none_passed : (p : PlanParts) (n : ℕ) (ps : List ℕ) → slice_get p.lines n ≡ Some None → ArePassed p n ps → ArePassed p (n + 1) ps
forest_none_passed p n ps at h = record { forest = h.forest; passed = none_passed p n (classes_in ps) at h.passed }

pub forest_many : (p : PlanParts) (n : ℕ) (ps : List ℕ) → ArePassed p n ps → length ps ≡ p.sectors
forest_many p n ps h = sym (classes_many ps) ∙ h.passed.len

pub sector_below : (p : PlanParts) → IsPlan p → (n : ℕ) (line : Line) (cs seen : List ℕ) → slice_get p.lines n ≡ Some (Some line) → seen ≡ cs → length cs ≡ p.sectors → IfSome line.right (λ a. a < length seen) × IfSome line.left (λ a. a < length seen)
sector_below p is n line cs seen at e len = let w = is.each n line at in let f : p.sectors ≡ length seen = sym len ∙ ap length (sym e) in
    (subst (λ (k : ℕ). IfSome line.right (λ a. a < k)) f w.right, subst (λ (k : ℕ). IfSome line.left (λ a. a < k)) f w.left)

-- ---- all lines passed

pub neighbours_joined : (p : PlanParts) → IsPlan p → (cs : List ℕ) → AreJoined p (length p.lines) cs → (a b : ℕ) → AreNeighbours (map_of p) a b → (class_of cs a ≡ class_of cs b) × (b < p.sectors)
neighbours_joined p is cs h a b (i, l, left, at, passable, one, other) =
    let k = line_of_plan p.points p.lines i l at in
    let lt = slice_get_within p.lines i (Some k.0) k.1 in
    go left lt k.1 (ap (λ (x : MapLine). x.solid) k.2 ∙ passable) (ap (λ (x : MapLine). sector_on x left) k.2 ∙ one) (ap (λ (x : MapLine). sector_on x (not left)) k.2 ∙ other)
  where
    go : {k : Line} → (left : Bool) → i < length p.lines → slice_get p.lines i ≡ Some (Some k) → k.solid ≡ false → sector_on (looked_up p.points k) left ≡ Some a → sector_on (looked_up p.points k) (not left) ≡ Some b → (class_of cs a ≡ class_of cs b) × (b < p.sectors)
    go {k} false lt e s f g = let d : IsPassableBetween k a b = record { passable = s; right = f; left = g } in (h i a b k lt e d, (door_below p is i k a b e d).1)
    go {k} true lt e s f g = let d : IsPassableBetween k b a = record { passable = s; right = g; left = f } in (sym (h i b a k lt e d), (door_below p is i k b a e d).0)

chain_joins : (p : PlanParts) → IsPlan p → (cs : List ℕ) → AreJoined p (length p.lines) cs → (a b : ℕ) (xs : List ℕ) → a < p.sectors → IsChain (map_of p) a xs b → (class_of cs a ≡ class_of cs b) × (b < p.sectors)
chain_joins p is cs h a b [] lt e = (ap (class_of cs) e, subst (λ (x : ℕ). x < p.sectors) e lt)
chain_joins p is cs h a b (x ∷ xs) lt c = let n = neighbours_joined p is cs h a x c.0 in let r = chain_joins p is cs h x b xs n.1 c.1 in (n.0 ∙ r.0, r.1)

pub components_of : (p : PlanParts) → IsPlan p → (n : ℕ) (cs : List ℕ) → length p.lines ≤ n → IsPassed p n cs → AreComponents (map_of p) cs
components_of p is n cs past h =
    let joined : AreJoined p (length p.lines) cs = λ i a b l lt. h.joined i a b l (omega (arith, lt, past)) in
    let named = h.named in let len = h.len in record {
      one_each = len;
      connected = λ a b e. let lt = slice_get_within cs a b e in let f : class_of cs a ≡ b = get_or_from_slice_get cs a b 0 e in let le = named.least a lt in
          subst (λ (x : ℕ). AreConnected (map_of p) a x) f (h.only a (class_of cs a) (omega (arith, len, lt)) (omega (arith, len, lt, le)) (sym (named.own a lt)));
      least = λ a b c e connected. let lt = slice_get_within cs a b e in let f : class_of cs a ≡ b = get_or_from_slice_get cs a b 0 e in
          let r = chain_joins p is cs joined a c connected.0 (omega (arith, len, lt)) connected.1 in
          let r0 = r.0 in let r1 = r.1 in let le = named.least c (omega (arith, len, r1)) in omega (arith, f, r0, le);
    }
