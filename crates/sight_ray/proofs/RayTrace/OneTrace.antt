-- A ray has one walk over a mesh, and one end of it: its trace, the wall or the point that it meets, or its own fault.
use Rattle.std.proofs.Common.{◌≡◌, ℕ, ◌+◌, ◌<◌, ◌≤◌, inl, inr, pos, List, [], ◌∷◌, ◌++◌, length, length-append, Option, not, Result, Ok, Err, refl, sym, ap, ap₂, ◌∙◌, subst, arith}
use borrow.Author.Differences.{ints}
use Rattle.std.proofs.lemmas.Option.{same_Some}
use Rattle.sight_names.specs.declared.names.Ray.{Ray}
use Rattle.sight_names.specs.declared.names.Triangle.{Triangle}
use Rattle.sight_names.specs.declared.faults.RayFault.{RayFault}
use Rattle.sight_names.specs.declared.faults.RayFault.TheVariants.{Blocked, Range, BadSide, NotSplit, WrongWay, Backwards}
use Rattle.sight_names.specs.declared.faults.TraceFault.{TraceFault}
use Rattle.sight_names.specs.declared.faults.TraceFault.TheVariants.{BadRay, HitsSolid, HitsPoint, Memory}
use Rattle.sight_names.specs.Point.{point_of}
use Rattle.sight_names.specs.Map.{Map, named}
use Rattle.sight_names.specs.Mesh.{triangle_at}
use Rattle.sight_names.specs.Points.{place}
use Rattle.sight_names.specs.Ray.{ray_value}
use Rattle.sight_names.specs.Sequence.{Portal, Way, Left, Right, apex, entry_edge, way_out}
use Rattle.sight_ray.specs.RayFault.{IsRayFault}
use Rattle.sight_ray.proofs.FaultLemmas.{one_fault, one_order}
use Rattle.sight_ray.specs.RayTrace.Trace.{CrossesPortal, IsBadRay, IsLastPortal, IsTraceStep, IsTrace, IsTraceFault, IsTraceable, IsSolidPortal, MeetsPoint, MeetsWall, Walked}
use Rattle.sight_ray.specs.RayTrace.Trace.Walked.{begun, stepped}
use Rattle.math_base.proofs.Options.{is_not_there}
use Rattle.math_base.proofs.Numbers.{below_above_or_same}

-- what a trace can answer but for want of memory
abbrev pub IsTraced : Map → List Triangle → Ray → Result (List ℕ) TraceFault → Type 0
IsTraced m ts r (Ok ks) = IsTrace m ts r ks
IsTraced m ts r (Err (Memory _)) = ⊥
IsTraced m ts r (Err fault) = IsTraceFault m ts r fault

-- ---- one way out

one_way : (m : Map) (r : Ray) (p : Portal) (t : ℕ) (v w : Way) → CrossesPortal m r (way_out p v t) → CrossesPortal m r (way_out p w t) → v ≡ w
one_way m r p t Left Left c d = refl
one_way m r p t Left Right c d = absurd (let a = c.right in let b = d.left in omega (arith, ints, a, b))
one_way m r p t Right Left c d = absurd (let a = c.left in let b = d.right in omega (arith, ints, a, b))
one_way m r p t Right Right c d = refl

-- a point on the ray gives no way out
no_way : (m : Map) (r : Ray) (p q : Portal) (t : ℕ) (w : Way) → q ≡ way_out p w t → CrossesPortal m r q → ray_value r (point_of (place m t)) ≡ pos 0 → ⊥
no_way m r p q t w e c straight = by_way w (subst (CrossesPortal m r) e c)
  where
    by_way : (w : Way) → CrossesPortal m r (way_out p w t) → ⊥
    by_way Left d = let a = d.right in omega (arith, ints, a, straight)
    by_way Right d = let a = d.left in omega (arith, ints, a, straight)

one_step : (m : Map) (ts : List Triangle) (r : Ray) (p q o : Portal) (k j : ℕ) → IsTraceStep m ts r p k q → IsTraceStep m ts r p j o → (k ≡ j) × (q ≡ o)
one_step m ts r p q o k j a b =
    let tip : b.tip ≡ a.tip = same_Some b.tip a.tip (sym b.third ∙ a.third) in
    let out : o ≡ way_out p b.way a.tip = b.out ∙ ap (way_out p b.way) tip in
    let way : a.way ≡ b.way = one_way m r p a.tip a.way b.way (subst (CrossesPortal m r) a.out a.crossed) (subst (CrossesPortal m r) out b.crossed) in
    (same_Some k j (sym a.behind ∙ b.behind), a.out ∙ ap (λ (w : Way). way_out p w a.tip) way ∙ sym out)

-- ---- one walk

-- the ray goes on from the portal
record GoesOn (m : Map) (ts : List Triangle) (r : Ray) (p : Portal) : Type 0 where
  triangle : ℕ
  next : Portal
  not_last : ¬ IsLastPortal m r p
  step : IsTraceStep m ts r p triangle next

one_more : (xs ys : List ℕ) (k : ℕ) → ys ≡ xs ++ (k ∷ []) → length ys ≡ length xs + 1
one_more xs ys k e = ap (λ (zs : List ℕ). length zs) e ∙ length-append xs (k ∷ [])

walked_some : (m : Map) (ts : List Triangle) (r : Ray) (q : Portal) (ks : List ℕ) → Walked m ts r q ks → 1 ≤ length ks
walked_some m ts r q ks (begun k t f e same) = let n : length ks ≡ 1 = ap (λ (xs : List ℕ). length xs) same in omega (arith, n)
walked_some m ts r q ks (stepped p js k w n s same) = let n = one_more js ks k same in omega (arith, n)

traceable_of : (m : Map) (ts : List Triangle) (r : Ray) (q : Portal) (ks : List ℕ) → Walked m ts r q ks → IsTraceable m r
traceable_of m ts r q ks (begun k t f e same) = t
traceable_of m ts r q ks (stepped p js k w n s same) = traceable_of m ts r p js w

-- two walks of the same length are one
same_walk : (m : Map) (ts : List Triangle) (r : Ray) (p q : Portal) (ks js : List ℕ) → Walked m ts r p ks → Walked m ts r q js → length ks ≡ length js → (p ≡ q) × (ks ≡ js)
same_walk m ts r p q ks js (begun k t f e same) (begun j u g d alike) n =
    let one : p ≡ q = same_Some p q (sym f ∙ g) in
    let here : k ≡ j = same_Some k j (sym e ∙ ap (λ (x : Portal). triangle_at ts (record { from = x.right; to = x.left })) one ∙ d) in
    (one, same ∙ ap (λ (x : ℕ). x ∷ []) here ∙ sym alike)
same_walk m ts r p q ks js (begun k t f e same) (stepped o hs j w n s alike) len =
    absurd (let a : length ks ≡ 1 = ap (λ (xs : List ℕ). length xs) same in let b = one_more hs js j alike in let c = walked_some m ts r o hs w in omega (arith, a, b, c, len))
same_walk m ts r p q ks js (stepped o hs j w n s alike) (begun k t f e same) len =
    absurd (let a : length js ≡ 1 = ap (λ (xs : List ℕ). length xs) same in let b = one_more hs ks j alike in let c = walked_some m ts r o hs w in omega (arith, a, b, c, len))
same_walk m ts r p q ks js (stepped o hs k w n s same) (stepped x is j v l t alike) len =
    let before = same_walk m ts r o x hs is w v (let a = one_more hs ks k same in let b = one_more is js j alike in omega (arith, a, b, len)) in
    let on = one_step m ts r x p q k j (subst (λ (y : Portal). IsTraceStep m ts r y k p) before.0 s) t in
    (on.1, same ∙ ap₂ (λ (xs : List ℕ) (y : ℕ). xs ++ (y ∷ [])) before.1 on.0 ∙ sym alike)

-- a part of a walk, which goes on
record Part (m : Map) (ts : List Triangle) (r : Ray) (n : ℕ) : Type 0 where
  portal : Portal
  passed : List ℕ
  walked : Walked m ts r portal passed
  count : length passed ≡ n
  goes_on : GoesOn m ts r portal

part_at : (m : Map) (ts : List Triangle) (r : Ray) (q : Portal) (ks : List ℕ) → Walked m ts r q ks → (n : ℕ) → 1 ≤ n → n < length ks → Part m ts r n
part_at m ts r q ks (begun k t f e same) n some lt = absurd (let a : length ks ≡ 1 = ap (λ (xs : List ℕ). length xs) same in omega (arith, a, some, lt))
part_at m ts r q ks (stepped p js k w l s same) n some lt = elim (below_above_or_same n (length js)) as (λ _. Part m ts r n) [
  | inl less ↦ part_at m ts r p js w n some less
  | inr (inl more) ↦ absurd (let a = one_more js ks k same in omega (arith, a, more, lt))
  | inr (inr here) ↦ record { portal = p; passed = js; walked = w; count = sym here; goes_on = record { triangle = k; next = q; not_last = l; step = s } }
]

-- two walks that don't go on are one
one_end : (m : Map) (ts : List Triangle) (r : Ray) (p q : Portal) (ks js : List ℕ) → Walked m ts r p ks → ¬ GoesOn m ts r p → Walked m ts r q js → ¬ GoesOn m ts r q → (p ≡ q) × (ks ≡ js)
one_end m ts r p q ks js w ends v stops = elim (below_above_or_same (length ks) (length js)) as (λ _. (p ≡ q) × (ks ≡ js)) [
  | inl less ↦ absurd (earlier p ks w ends (part_at m ts r q js v (length ks) (walked_some m ts r p ks w) less))
  | inr (inl more) ↦ absurd (earlier q js v stops (part_at m ts r p ks w (length js) (walked_some m ts r q js v) more))
  | inr (inr same) ↦ same_walk m ts r p q ks js w v same
]
  where
    earlier : (p : Portal) (ks : List ℕ) → Walked m ts r p ks → ¬ GoesOn m ts r p → Part m ts r (length ks) → ⊥
    earlier p ks w ends h = ends (subst (GoesOn m ts r) (same_walk m ts r h.portal p h.passed ks h.walked w h.count).0 h.goes_on)

-- ---- each end is one

trace_ends : (m : Map) (ts : List Triangle) (r : Ray) (ks : List ℕ) (h : IsTrace m ts r ks) → ¬ GoesOn m ts r h.portal
trace_ends m ts r ks h g = g.not_last h.arrives

wall_ends : (m : Map) (ts : List Triangle) (r : Ray) (i : ℕ) (h : MeetsWall m ts r i) → ¬ GoesOn m ts r h.portal
wall_ends m ts r i h g = g.step.passable i h.wall

point_ends : (m : Map) (ts : List Triangle) (r : Ray) (k : ℕ) (h : MeetsPoint m ts r k) → ¬ GoesOn m ts r h.portal
point_ends m ts r k h g =
    let tip : k ≡ g.step.tip = same_Some k g.step.tip (sym h.third ∙ g.step.third) in
    no_way m r h.portal g.next g.step.tip g.step.way g.step.out g.step.crossed (subst (λ (j : ℕ). ray_value r (point_of (place m j)) ≡ pos 0) tip h.straight)

one_trace : (m : Map) (ts : List Triangle) (r : Ray) (ks js : List ℕ) → IsTrace m ts r ks → IsTrace m ts r js → ks ≡ js
one_trace m ts r ks js h g =
    let e = one_end m ts r h.portal g.portal h.before g.before h.walked (trace_ends m ts r ks h) g.walked (trace_ends m ts r js g) in
    let last : h.last ≡ g.last = same_Some h.last g.last (sym h.behind ∙ ap (λ (x : Portal). triangle_at ts (entry_edge x)) e.0 ∙ g.behind) in
    h.all ∙ ap₂ (λ (xs : List ℕ) (k : ℕ). xs ++ (k ∷ [])) e.1 last ∙ sym g.all

trace_or_wall : (m : Map) (ts : List Triangle) (r : Ray) (ks : List ℕ) (i : ℕ) → IsTrace m ts r ks → MeetsWall m ts r i → ⊥
trace_or_wall m ts r ks i h g =
    let e = one_end m ts r g.portal h.portal g.before h.before g.walked (wall_ends m ts r i g) h.walked (trace_ends m ts r ks h) in
    h.passable i (subst (λ (x : Portal). IsSolidPortal m x i) e.0 g.wall)

trace_or_point : (m : Map) (ts : List Triangle) (r : Ray) (ks : List ℕ) (k : ℕ) → IsTrace m ts r ks → MeetsPoint m ts r k → ⊥
trace_or_point m ts r ks k h g =
    let e = one_end m ts r h.portal g.portal h.before g.before h.walked (trace_ends m ts r ks h) g.walked (point_ends m ts r k g) in
    g.goes_on (subst (IsLastPortal m r) e.0 h.arrives)

one_wall : (m : Map) (ts : List Triangle) (r : Ray) (i j : ℕ) → MeetsWall m ts r i → MeetsWall m ts r j → i ≡ j
one_wall m ts r i j h g =
    let e = one_end m ts r h.portal g.portal h.before g.before h.walked (wall_ends m ts r i h) g.walked (wall_ends m ts r j g) in
    elim (below_above_or_same i j) as (λ _. i ≡ j) [
      | inl less ↦ absurd (g.least i less (subst (λ (x : Portal). IsSolidPortal m x i) e.0 h.wall))
      | inr (inl more) ↦ absurd (h.least j more (subst (λ (x : Portal). IsSolidPortal m x j) (sym e.0) g.wall))
      | inr (inr same) ↦ same
    ]

wall_or_point : (m : Map) (ts : List Triangle) (r : Ray) (i k : ℕ) → MeetsWall m ts r i → MeetsPoint m ts r k → ⊥
wall_or_point m ts r i k h g =
    let e = one_end m ts r h.portal g.portal h.before g.before h.walked (wall_ends m ts r i h) g.walked (point_ends m ts r k g) in
    g.passable i (subst (λ (x : Portal). IsSolidPortal m x i) e.0 h.wall)

one_point : (m : Map) (ts : List Triangle) (r : Ray) (k j : ℕ) → MeetsPoint m ts r k → MeetsPoint m ts r j → k ≡ j
one_point m ts r k j h g =
    let e = one_end m ts r h.portal g.portal h.before g.before h.walked (point_ends m ts r k h) g.walked (point_ends m ts r j g) in
    same_Some k j (sym h.third ∙ ap (apex ts) e.0 ∙ g.third)

-- ---- a ray that is walked along has no fault of its own

ray_fault : (m : Map) (r : Ray) (f : RayFault) → IsBadRay m r f → IsRayFault m r f
ray_fault m r (Blocked n) h = absurd h
ray_fault m r Range h = h
ray_fault m r (BadSide s) h = h
ray_fault m r (NotSplit n) h = h
ray_fault m r (WrongWay n) h = h
ray_fault m r Backwards h = h

bad_or_walked : (m : Map) (r : Ray) (f : RayFault) → IsBadRay m r f → IsTraceable m r → ⊥
bad_or_walked m r (Blocked n) h t = h
bad_or_walked m r Range h (start, stop, c, forward) = h c.names.range
bad_or_walked m r (BadSide s) (range, inl h) (start, stop, c, forward) = is_not_there (named m r.first) h.1 c.names.from
bad_or_walked m r (BadSide s) (range, inr h) (start, stop, c, forward) = is_not_there (named m r.last) h.2 c.names.to
bad_or_walked m r (NotSplit n) (names, inl h) (start, stop, c, forward) = h.1 (not r.first.left, c.leaves)
bad_or_walked m r (NotSplit n) (names, inr h) (start, stop, c, forward) = h.2 (r.last.left, c.arrives)
bad_or_walked m r (WrongWay n) (splits, inl h) (start, stop, c, forward) = h.1 c.leaves
bad_or_walked m r (WrongWay n) (splits, inr h) (start, stop, c, forward) = h.2 c.arrives
bad_or_walked m r Backwards (from, to, b, behind) (start, stop, c, forward) = one_order m r start stop from to c b forward behind

-- ---- the answer of a trace is one

pub one_answer : (m : Map) (ts : List Triangle) (r : Ray) (x y : Result (List ℕ) TraceFault) → IsTraced m ts r x → IsTraced m ts r y → x ≡ y
one_answer m ts r (Ok ks) (Ok js) h g = ap (λ (xs : List ℕ). Ok xs) (one_trace m ts r ks js h g)
one_answer m ts r (Ok ks) (Err (BadRay f)) h g = absurd (bad_or_walked m r f g (traceable_of m ts r h.portal h.before h.walked))
one_answer m ts r (Ok ks) (Err (HitsSolid i)) h g = absurd (trace_or_wall m ts r ks i h g)
one_answer m ts r (Ok ks) (Err (HitsPoint k)) h g = absurd (trace_or_point m ts r ks k h g)
one_answer m ts r (Err (BadRay f)) (Ok ks) h g = absurd (bad_or_walked m r f h (traceable_of m ts r g.portal g.before g.walked))
one_answer m ts r (Err (BadRay f)) (Err (BadRay e)) h g = ap (λ (x : RayFault). Err (BadRay x)) (one_fault m r f e (ray_fault m r f h) (ray_fault m r e g))
one_answer m ts r (Err (BadRay f)) (Err (HitsSolid i)) h g = absurd (bad_or_walked m r f h (traceable_of m ts r g.portal g.before g.walked))
one_answer m ts r (Err (BadRay f)) (Err (HitsPoint k)) h g = absurd (bad_or_walked m r f h (traceable_of m ts r g.portal g.before g.walked))
one_answer m ts r (Err (HitsSolid i)) (Ok ks) h g = absurd (trace_or_wall m ts r ks i g h)
one_answer m ts r (Err (HitsSolid i)) (Err (BadRay f)) h g = absurd (bad_or_walked m r f g (traceable_of m ts r h.portal h.before h.walked))
one_answer m ts r (Err (HitsSolid i)) (Err (HitsSolid j)) h g = ap (λ (x : ℕ). Err (HitsSolid x)) (one_wall m ts r i j h g)
one_answer m ts r (Err (HitsSolid i)) (Err (HitsPoint k)) h g = absurd (wall_or_point m ts r i k h g)
one_answer m ts r (Err (HitsPoint k)) (Ok ks) h g = absurd (trace_or_point m ts r ks k g h)
one_answer m ts r (Err (HitsPoint k)) (Err (BadRay f)) h g = absurd (bad_or_walked m r f g (traceable_of m ts r h.portal h.before h.walked))
one_answer m ts r (Err (HitsPoint k)) (Err (HitsSolid i)) h g = absurd (wall_or_point m ts r i k g h)
one_answer m ts r (Err (HitsPoint k)) (Err (HitsPoint j)) h g = ap (λ (x : ℕ). Err (HitsPoint x)) (one_point m ts r k j h g)
one_answer m ts r (Err (Memory _)) y h g = absurd h
one_answer m ts r x (Err (Memory _)) h g = absurd g
