-- A map has one plan at most.
use Rattle.std.proofs.Common.{◌≡◌, ℕ, zero, suc, ◌<◌, inl, inr, List, [], ◌∷◌, length, slice_get, Option, Some, None, Bool, refl, sym, ap, ◌∙◌, subst, map, option_map}
use Rattle.sight_names.specs.declared.names.Pt.{Pt}
use Rattle.sight_names.specs.declared.plan.Line.{Line}
use Rattle.sight_names.specs.Plan.{PlanParts, IsPlan}
use Rattle.sight_names.specs.Map.{Map, MapLine, map_of, looked_up}
use Rattle.sight_names.specs.Points.{points_of}
use Rattle.sight_names.proofs.PlanPoints.{at, plan_points}
use Rattle.sight_names.proofs.PlanMap.{points_differ}
use Rattle.math_base.proofs.Numbers.{same_or_not}
use Rattle.math_base.proofs.Options.{some_is_same}

-- both ends of each line are below n
abbrev EndsBelow : ℕ → List (Option Line) → Type 0
EndsBelow n ls = (i : ℕ) (l : Line) → slice_get ls i ≡ Some (Some l) → (l.a < n) × (l.b < n)

-- places with one point are one place
abbrev IsNumbering : List Pt → Type 0
IsNumbering points = (i j : ℕ) → i < length points → j < length points → at points i ≡ at points j → i ≡ j

line_same : (a b a' b' : ℕ) (s s' : Bool) (r r' l l' : Option ℕ) → a ≡ a' → b ≡ b' → s ≡ s' → r ≡ r' → l ≡ l' → ◌≡◌ {A = Line} (record { a = a; b = b; solid = s; right = r; left = l }) (record { a = a'; b = b'; solid = s'; right = r'; left = l' })
line_same a b a' b' s s' r r' l l' e1 e2 e3 e4 e5 = cc

heads : {X : Type 0} (x y : X) (xs ys : List X) → ◌≡◌ {A = List X} (x ∷ xs) (y ∷ ys) → x ≡ y
heads x y xs ys e = cc

tails : {X : Type 0} (x y : X) (xs ys : List X) → ◌≡◌ {A = List X} (x ∷ xs) (y ∷ ys) → xs ≡ ys
tails x y xs ys e = cc

entry_same : (points : List Pt) → IsNumbering points → (o p : Option Line) → EndsBelow (length points) (o ∷ []) → EndsBelow (length points) (p ∷ []) → option_map (looked_up points) o ≡ option_map (looked_up points) p → o ≡ p
entry_same points one None None h k e = refl
entry_same points one None (Some m) h k e = absurd cc
entry_same points one (Some l) None h k e = absurd cc
entry_same points one (Some l) (Some m) h k e =
    let q : looked_up points l ≡ looked_up points m = some_is_same (looked_up points l) (looked_up points m) e in
    let first = one l.a m.a (h 0 l refl).0 (k 0 m refl).0 (ap (λ (x : MapLine). x.first) q) in
    let second = one l.b m.b (h 0 l refl).1 (k 0 m refl).1 (ap (λ (x : MapLine). x.second) q) in
    ap (λ (x : Line). Some x) (line_same l.a l.b m.a m.b l.solid m.solid l.right m.right l.left m.left first second (ap (λ (x : MapLine). x.solid) q) (ap (λ (x : MapLine). x.right) q) (ap (λ (x : MapLine). x.left) q))

only_head : (n : ℕ) (o : Option Line) (ls : List (Option Line)) → EndsBelow n (o ∷ ls) → EndsBelow n (o ∷ [])
only_head n o ls h zero l e = h zero l e
only_head n o ls h (suc i) l e = absurd (no e)
  where
    no : ◌≡◌ {A = Option (Option Line)} None (Some (Some l)) → ⊥
    no e = cc

lines_same : (points : List Pt) → IsNumbering points → (ls ks : List (Option Line)) → EndsBelow (length points) ls → EndsBelow (length points) ks → map (option_map (looked_up points)) ls ≡ map (option_map (looked_up points)) ks → ls ≡ ks
lines_same points one [] [] h k e = refl
lines_same points one [] (p ∷ ks) h k e = absurd cc
lines_same points one (o ∷ ls) [] h k e = absurd cc
lines_same points one (o ∷ ls) (p ∷ ks) h k e =
    let first = entry_same points one o p (only_head (length points) o ls h) (only_head (length points) p ks k) (heads _ _ _ _ e) in
    let rest = lines_same points one ls ks (λ i l q. h (suc i) l q) (λ i l q. k (suc i) l q) (tails _ _ _ _ e) in
    ap (λ (x : Option Line). x ∷ ls) first ∙ ap (λ (xs : List (Option Line)). p ∷ xs) rest

numbering : (p : PlanParts) → IsPlan p → IsNumbering p.points
numbering p h i j hi hj e = elim (same_or_not i j) [ inl same ↦ same | inr differ ↦ absurd (points_differ p h i j hi hj differ e) ]

ends_below : (p : PlanParts) → IsPlan p → EndsBelow (length p.points) p.lines
ends_below p h i l e = let q = h.each i l e in (q.first, q.second)

pub one_plan : (p q : PlanParts) → IsPlan p → IsPlan q → map_of p ≡ map_of q → p ≡ q
one_plan p q hp hq e =
    let points : p.points ≡ q.points = sym (plan_points p hp) ∙ ap points_of e ∙ plan_points q hq in
    let lines : p.lines ≡ q.lines =
    lines_same p.points (numbering p hp) p.lines q.lines (ends_below p hp) (subst (λ (ps : List Pt). EndsBelow (length ps) q.lines) (sym points) (ends_below q hq))
    (ap (λ (m : Map). m.lines) e ∙ ap (λ (ps : List Pt). map (option_map (looked_up ps)) q.lines) (sym points)) in
    parts p.sectors q.sectors p.points q.points p.lines q.lines (ap (λ (m : Map). m.sectors) e) points lines
  where
    parts : (m n : ℕ) (ps qs : List Pt) (ls ks : List (Option Line)) → m ≡ n → ps ≡ qs → ls ≡ ks → ◌≡◌ {A = PlanParts} (record { sectors = m; points = ps; lines = ls }) (record { sectors = n; points = qs; lines = ks })
    parts m n ps qs ls ks e1 e2 e3 = cc
