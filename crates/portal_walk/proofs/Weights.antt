-- The bound on what may still follow a path falls with each way that is tried.
use Rattle.std.proofs.Common.{◌≡◌, ℕ, zero, suc, ◌+◌, ◌-◌, ◌*◌, ◌^◌, ◌<◌, ◌≤◌, List, [], ◌∷◌, ◌++◌, length, take, slice_get, slice_set, Option, Some, None, length-set, refl, sym, ap, ◌∙◌, subst, arith}
use Rattle.std.proofs.lemmas.List.{length-take-le, take-take, take_all}
use native.Mathlib.Numerals.{unary_clauses}
use Rattle.portal_walk.specs.declared.path.Frame.{Frame}
use Rattle.portal_walk.specs.declared.path.Ways.{Ways}
use Rattle.portal_walk.specs.declared.path.Ways.TheVariants.{Both, RightOnly, Done}
use Rattle.portal_walk.specs.Frames.{HaveNoWays, ways_left, frames_weight, ways_of, top_ways}
use Rattle.portal_walk.proofs.Lists.{get_front, get_set_same, last_down, front_back}
use Rattle.math_base.proofs.Lists.{get_take, get_there}
use Rattle.math_base.proofs.Options.{none_is_not_some}

pub three_pos : (k : ℕ) → 0 < 3 ^ k
three_pos zero = omega arith
three_pos (suc k) = simp unary_clauses (positive (3 ^ k) (three_pos k))
  where
    positive : (p : ℕ) → 0 < p → 0 < p * 3
    positive p h = omega arith

pow_is : (d e : ℕ) → d ≡ suc e → 3 ^ d ≡ 3 * 3 ^ e
pow_is d e h = ap (λ (x : ℕ). 3 ^ x) h ∙ step e
  where
    step : (e : ℕ) → 3 ^ suc e ≡ 3 * 3 ^ e
    step e = simp unary_clauses (turn (3 ^ e))
      where
        turn : (p : ℕ) → p * 3 ≡ 3 * p
        turn p = omega arith

pub weight_push : (d : ℕ) (fs : List Frame) (g : Frame) → frames_weight d (fs ++ g ∷ []) ≡ frames_weight d fs + ways_left g.ways * 3 ^ (d - 1 - length fs)
weight_push d [] g = ends (ways_left g.ways) (3 ^ (d - 1)) (3 ^ (d - 1 - 0)) (ap (λ (x : ℕ). 3 ^ x) (omega arith))
  where
    ends : (w p q : ℕ) → p ≡ q → w * p + 0 ≡ 0 + w * q
    ends w p q e = rw e (omega arith)
weight_push d (f ∷ fs) g =
    more (ways_left f.ways * 3 ^ (d - 1)) _ (frames_weight (d - 1) fs) (ways_left g.ways) _ _ (weight_push (d - 1) fs g) (ap (λ (x : ℕ). 3 ^ x) (omega arith))
  where
    more : (a b w g p q : ℕ) → b ≡ w + g * p → p ≡ q → a + b ≡ a + w + g * q
    more a b w g p q h e = rw (h, e) (omega arith)

pub weight_set : (d : ℕ) (fs : List Frame) (i : ℕ) (f g : Frame) → slice_get fs i ≡ Some f → frames_weight d (slice_set fs i g) + ways_left f.ways * 3 ^ (d - 1 - i) ≡ frames_weight d fs + ways_left g.ways * 3 ^ (d - 1 - i)
weight_set d [] i f g e = absurd (none_is_not_some f e)
weight_set d (h ∷ fs) zero f g e = let q : h ≡ f = cc in here (ways_left h.ways) (ways_left f.ways) (ways_left g.ways) (3 ^ (d - 1)) (3 ^ (d - 1 - 0)) (frames_weight (d - 1) fs) (ap (λ (x : Frame). ways_left x.ways) q) (ap (λ (x : ℕ). 3 ^ x) (omega arith))
  where
    here : (w f g p q r : ℕ) → w ≡ f → p ≡ q → g * p + r + f * q ≡ w * p + r + g * q
    here w f g p q r e h = rw (e, h) (omega arith)
weight_set d (h ∷ fs) (suc i) f g e =
    more (ways_left h.ways * 3 ^ (d - 1)) _ (ways_left f.ways) (ways_left g.ways) _ _ _ (weight_set (d - 1) fs i f g e) (ap (λ (x : ℕ). 3 ^ x) (omega arith))
  where
    more : (a b f g p q r : ℕ) → b + f * p ≡ r + g * p → p ≡ q → a + b + f * q ≡ a + r + g * q
    more a b f g p q r h e = rw (← e) (omega (arith, h))

-- one way fewer
fewer : (a b w v p : ℕ) → a + w * p ≡ b + v * p → w ≡ v + 1 → a + p ≡ b
fewer a b w v p h e = more (subst (λ (x : ℕ). a + x * p ≡ b + v * p) e h)
  where
    more : a + (v + 1) * p ≡ b + v * p → a + p ≡ b
    more k = omega arith

pub way_skips : (d : ℕ) (fs : List Frame) (f g : Frame) → slice_get fs (length fs - 1) ≡ Some f → ways_left f.ways ≡ ways_left g.ways + 1 → frames_weight d (slice_set fs (length fs - 1) g) < frames_weight d fs
way_skips d fs f g e w = below _ _ _ (fewer _ _ _ _ _ (weight_set d fs (length fs - 1) f g e) w) (three_pos (d - 1 - (length fs - 1)))
  where
    below : (a b p : ℕ) → a + p ≡ b → 0 < p → a < b
    below a b p h k = omega arith

pub there : (fs : List Frame) (i : ℕ) (f : Frame) → slice_get fs i ≡ Some f → i < length fs
there [] i f e = absurd (none_is_not_some f e)
there (g ∷ fs) zero f e = omega arith
there (g ∷ fs) (suc i) f e = let h = there fs i f e in omega arith

pub way_enters : (d : ℕ) (fs : List Frame) (f g h : Frame) → slice_get fs (length fs - 1) ≡ Some f → ways_left f.ways ≡ ways_left g.ways + 1 → ways_left h.ways ≡ 2 → length fs + 1 ≤ d → frames_weight d (slice_set (fs ++ h ∷ []) (length fs - 1) g) < frames_weight d fs
way_enters d fs f g h e w two room =
    let at = there fs (length fs - 1) f e in
    let set = fewer _ _ _ _ _ (weight_set d (fs ++ h ∷ []) (length fs - 1) f g (get_front fs h (length fs - 1) f e)) w in
    below _ _ _ _ (3 ^ (d - 1 - length fs)) _ set (weight_push d fs h) two (pow_is (d - 1 - (length fs - 1)) (d - 1 - length fs) (omega (arith, at, room))) (three_pos (d - 1 - length fs))
  where
    below : (a b c p q w : ℕ) → a + p ≡ b → b ≡ c + w * q → w ≡ 2 → p ≡ 3 * q → 0 < q → a < c
    below a b c p q w h1 h2 h3 h4 h5 = let k : b ≡ c + 2 * q = subst (λ (x : ℕ). b ≡ c + x * q) h3 h2 in omega arith

pub root_enters : (d : ℕ) (h : Frame) → ways_left h.ways ≡ 2 → 1 ≤ d → frames_weight d ([] ++ h ∷ []) < 3 ^ d
root_enters d h two room = below _ (3 ^ (d - 1)) _ two (pow_is d (d - 1) (omega arith)) (three_pos (d - 1))
  where
    below : (w q p : ℕ) → w ≡ 2 → p ≡ 3 * q → 0 < q → w * q + 0 < p
    below w q p e h k = let m : 2 * q + 0 < p = omega arith in subst (λ (x : ℕ). x * q + 0 < p) (sym e) m

pub done_leaves : (d : ℕ) (fs : List Frame) (f : Frame) → slice_get fs (length fs - 1) ≡ Some f → ways_left f.ways ≡ 0 → frames_weight d (take (length fs - 1) fs) ≡ frames_weight d fs
done_leaves d fs f e none = same _ _ _ _ (ap (frames_weight d) (sym (front_back fs f e)) ∙ weight_push d (take (length fs - 1) fs) f) none
  where
    same : (a b w q : ℕ) → b ≡ a + w * q → w ≡ 0 → a ≡ b
    same a b w q h e = let k : b ≡ a + 0 * q = subst (λ (x : ℕ). b ≡ a + x * q) e h in omega arith

-- what stays the same when a portal with no way left goes stays the same when all such at the end go
pub cut_by : {X : Type 0} (v : List Frame → X) → ((fs : List Frame) (f : Frame) → slice_get fs (length fs - 1) ≡ Some f → ways_left f.ways ≡ 0 → v (take (length fs - 1) fs) ≡ v fs) → (m n : ℕ) (fs : List Frame) → length fs ≡ n + m → HaveNoWays fs n (length fs) → v (take n fs) ≡ v fs
cut_by v step zero n fs e h = ap v (take_all n fs (omega (arith, e)))
cut_by v step (suc m) n fs e h =
    let t = get_there fs (length fs - 1) (omega (arith, e)) in
    let rest : length (take (length fs - 1) fs) ≡ length fs - 1 = length-take-le (length fs - 1) fs (omega arith) in
    ap v (sym (take-take n (length fs - 1) fs (omega (arith, e))))
    ∙ cut_by v step m n (take (length fs - 1) fs) (omega (arith, e, rest)) (λ j f from before at. let w = get_take (length fs - 1) fs j f at in let l = w.0 in h j f from (omega (arith, l)) w.1)
    ∙ step fs t.0 t.1 (h (length fs - 1) t.0 (omega (arith, e)) (omega (arith, e)) t.1)

pub cut_leaves : (d : ℕ) (fs : List Frame) (n : ℕ) → n ≤ length fs → HaveNoWays fs n (length fs) → frames_weight d (take n fs) ≡ frames_weight d fs
cut_leaves d fs n within h = cut_by (frames_weight d) (done_leaves d) (length fs - n) n fs (omega arith) h

pub top_of : (fs : List Frame) (f : Frame) → slice_get fs (length fs - 1) ≡ Some f → top_ways fs ≡ ways_left f.ways
top_of fs f e = ap ways_of e

pub ways_most : (f : Frame) → ways_left f.ways ≤ 2
ways_most f = go f.ways
  where
    go : (w : Ways) → ways_left w ≤ 2
    go Both = omega arith
    go RightOnly = omega arith
    go Done = omega arith

pub no_top : (fs : List Frame) → slice_get fs (length fs - 1) ≡ None → fs ≡ []
no_top [] e = refl
no_top (g ∷ []) e = absurd (none_is_not_some g (sym e))
no_top (g ∷ h ∷ fs) e = absurd (not_empty h fs (no_top (h ∷ fs) (last_down g h fs None e)))
  where
    not_empty : (h : Frame) (fs : List Frame) → h ∷ fs ≡ [] → ⊥
    not_empty h fs e = cc

pub top_set : (fs : List Frame) (f g : Frame) → slice_get fs (length fs - 1) ≡ Some f → top_ways (slice_set fs (length fs - 1) g) ≡ ways_left g.ways
top_set fs f g e = ap ways_of (subst (λ (n : ℕ). slice_get (slice_set fs (length fs - 1) g) (n - 1) ≡ Some g) (sym (length-set fs (length fs - 1) g)) (get_set_same fs (length fs - 1) g (there fs (length fs - 1) f e)))

pub top_most : (fs : List Frame) → top_ways fs ≤ 2
top_most fs = go (slice_get fs (length fs - 1))
  where
    go : (o : Option Frame) → ways_of o ≤ 2
    go None = omega arith
    go (Some f) = ways_most f
