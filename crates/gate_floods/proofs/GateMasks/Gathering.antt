-- The gates of a map: gathered line by line, and found by the sectors that they lead out of.
use Rattle.std.proofs.Common.{◌≡◌, ℕ, zero, suc, ◌+◌, ◌-◌, ◌<◌, ◌≤◌, ◌⊎◌, ◌↔◌, inl, inr, List, [], ◌∷◌, length, slice_get, get_or, take, drop, Option, Some, Bool, true, false, refl, sym, ap, ◌∙◌, subst, arith, Contains, get_or-take, get_or-drop, length-take, length-drop, ltb}
use Rattle.std.proofs.lemmas.Bool.{ltb-true, ltb-false}
use Rattle.std.proofs.lemmas.Option.{slice_get_within, get_or_from_slice_get}
use Rattle.std.specs.List.Sorted.{IsPartitionPoint, IsPermutation}
use Rattle.std.proofs.lemmas.List.Sorted.{Contains-permutation, IsPermutation-sym}
use Rattle.sight_names.specs.declared.names.Side.{Side}
use Rattle.sight_names.specs.Plan.{PlanParts, IsPlan}
use Rattle.sight_names.specs.Map.{Map, map_of}
use Rattle.sight_names.proofs.Lists.{get_of_contains}
use Rattle.sight_names.proofs.PlanMap.{line_of_plan, plan_is_map}
use Rattle.math_base.proofs.Numbers.{below_or_not, below_or_last}
use Rattle.math_base.proofs.Bools.{by_value}
use Rattle.gate_floods.specs.declared.gate_masks.gate.Gate.{Gate}
use Rattle.gate_floods.specs.GateMasks.Gates.{AreGates, AreGatesFrom, IsGateAdded, IsGateOf, IsGateStart, portal_of_gate}
use Rattle.gate_floods.proofs.Connected.{far_below}
use Rattle.gate_floods.proofs.GateMasks.AtSide.{line_of_gate}

-- ---- line by line

-- the gates of the lines before n
abbrev pub AreGatesBelow : Map → ℕ → List Gate → Type 0
AreGatesBelow m n es = (e : Gate) → Contains es e ↔ ((e.side.line < n) × IsGateOf m e)

-- this is the gate at the side, if there is one
abbrev pub TellsGate : Map → Side → Option Gate → Type 0
TellsGate m s found = (e : Gate) → (found ≡ Some e) ↔ (IsGateOf m e × (e.side ≡ s))

side_is : (s : Side) (k : ℕ) (b : Bool) → s.line ≡ k → s.left ≡ b → s ≡ record { line = k; left = b }
side_is s k b e f = λ i. record { line = e i; left = f i }

pub gates_added : (m : Map) (k : ℕ) (right left : Option Gate) (old mid new : List Gate) → TellsGate m (record { line = k; left = false }) right → TellsGate m (record { line = k; left = true }) left
    → IsGateAdded right old mid → IsGateAdded left mid new → AreGatesBelow m k old → AreGatesBelow m (k + 1) new
gates_added m k right left old mid new tells_right tells_left first second h e = (there, back)
  where
    here : (b : Bool) → IsGateOf m e × (e.side ≡ record { line = k; left = b }) → (e.side.line < k + 1) × IsGateOf m e
    here b (g, same) = let q : e.side.line ≡ k = ap (λ (s : Side). s.line) same in (omega (arith, q), g)

    there : Contains new e → (e.side.line < k + 1) × IsGateOf m e
    there c = elim ((second e).0 c) as (λ _. (e.side.line < k + 1) × IsGateOf m e) [
      | inr x ↦ here true ((tells_left e).0 x)
      | inl d ↦ elim ((first e).0 d) as (λ _. (e.side.line < k + 1) × IsGateOf m e) [
        | inr x ↦ here false ((tells_right e).0 x)
        | inl x ↦ let w = (h e).0 x in let lt = w.0 in (omega (arith, lt), w.1)
      ]
    ]

    back : (e.side.line < k + 1) × IsGateOf m e → Contains new e
    back (lt, g) = elim (below_or_last e.side.line k lt) as (λ _. Contains new e) [
      | inl less ↦ (second e).1 (inl ((first e).1 (inl ((h e).1 (less, g)))))
      | inr same ↦ by_value e.side.left
          (λ is. (second e).1 (inr ((tells_left e).1 (g, side_is e.side k true same is))))
          (λ is. (second e).1 (inl ((first e).1 (inr ((tells_right e).1 (g, side_is e.side k false same is))))))
    ]

pub no_gates : (m : Map) (es : List Gate) → es ≡ [] → AreGatesBelow m 0 es
no_gates m es none e = ((λ (c : Contains es e). absurd (empty es none c)), (λ (w : (e.side.line < 0) × IsGateOf m e). let lt = w.0 in absurd (omega (arith, lt))))
  where
    empty : (es : List Gate) → es ≡ [] → Contains es e → ⊥
    empty es none (k, lt, at) = let q : length es ≡ 0 = ap length none in absurd (omega (arith, lt, q))

pub all_gates : (p : PlanParts) (n : ℕ) (es : List Gate) → length p.lines ≤ n → AreGatesBelow (map_of p) n es → AreGates (map_of p) es
all_gates p n es past h e = ((λ c. ((h e).0 c).1), back)
  where
    back : IsGateOf (map_of p) e → Contains es e
    back g =
        let l = line_of_gate (map_of p) e.near e.far (portal_of_gate e) g.gate in
        let k = line_of_plan p.points p.lines g.gate.side.line l.line l.is in
        let lt = slice_get_within p.lines g.gate.side.line (Some k.0) k.1 in
        let same : g.gate.side.line ≡ e.side.line = ap (λ (s : Side). s.line) g.side in
        (h e).1 (omega (arith, lt, past, same), g)

pub gates_within : (p : PlanParts) → IsPlan p → (es : List Gate) → AreGates (map_of p) es → (e : Gate) → Contains es e → e.far < p.sectors
gates_within p is es are e c = far_below (map_of p) (plan_is_map p is) e.near e.far (portal_of_gate e) ((are e).0 c).gate

-- ---- the gates out of one sector

pub start_order : (es : List Gate) (c i j : ℕ) → IsGateStart es c i → IsGateStart es (c + 1) j → i ≤ j
start_order es c i j s t = elim (either i j) as (λ _. i ≤ j) [
  | inl le ↦ le
  | inr lt ↦ let w = s.within in
      let at = got es j (omega (arith, lt, w)) in
      let x = s.before j at.0 lt at.1 in
      let y = t.from j at.0 (omega arith) at.1 in
      absurd (omega (arith, x, y))
]
  where
    either : (i j : ℕ) → (i ≤ j) ⊎ (j < i)
    either i j = grind arith

    got : (es : List Gate) (k : ℕ) → k < length es → (e : Gate) × (slice_get es k ≡ Some e)
    got [] k h = absurd (omega (arith, h))
    got (e ∷ es) zero h = (e, refl)
    got (e ∷ es) (suc k) h = got es k (omega (arith, h))

pub start_at : (es : List Gate) (c i : ℕ) → i ≤ length es → IsPartitionPoint (λ (e : Gate). ltb e.near c ≡ true) (λ (e : Gate). ltb e.near c ≡ false) es i → IsGateStart es c i
start_at es c i le point = record {
  within = le;
  before = λ k e lt at. subst (λ (d : Gate). d.near < c) (get_or_from_slice_get es k e e at) (ltb-true _ c (point.0 k e (omega arith) lt));
  from = λ k e ge at. subst (λ (d : Gate). c ≤ d.near) (get_or_from_slice_get es k e e at) (ltb-false _ c (point.1 k e ge (slice_get_within es k e at)));
}

pub gates_moved : (m : Map) (es fs : List Gate) → IsPermutation es fs → AreGates m es → AreGates m fs
gates_moved m es fs moved h e = ((λ c. (h e).0 (Contains-permutation fs es e (IsPermutation-sym es fs moved) c)), (λ c. Contains-permutation es fs e moved ((h e).1 c)))

pub gates_between : (es : List Gate) (c i j : ℕ) → IsGateStart es c i → IsGateStart es (c + 1) j → AreGatesFrom es c (take (j - i) (drop i es))
gates_between es c i j s t e = (there, back)
  where
    there : Contains (take (j - i) (drop i es)) e → Contains es e × (e.near ≡ c)
    there (k, lt, is) =
        let len = length-take (j - i) (drop i es) in
        let len2 = length-drop i es in
        let less : k < j - i = omega (arith, lt, len) in
        let at : get_or es (i + k) e ≡ e = sym (get_or-drop i es k e) ∙ sym (get_or-take (j - i) (drop i es) k e less) ∙ is in
        let inside : i + k < length es = omega (arith, lt, len, len2) in
        let got = get_of_contains es e (i + k) inside at in
        let low = s.from (i + k) e (omega arith) got in
        let high = t.before (i + k) e (omega (arith, less)) got in
        ((i + k, inside, at), omega (arith, low, high))

    back : Contains es e × (e.near ≡ c) → Contains (take (j - i) (drop i es)) e
    back ((k, lt, at), is) =
        let got = get_of_contains es e k lt at in
        elim (below_or_not k i) as (λ _. Contains (take (j - i) (drop i es)) e) [
          | inl less ↦ let low = s.before k e less got in absurd (omega (arith, low, is))
          | inr ge ↦ elim (below_or_not k j) as (λ _. Contains (take (j - i) (drop i es)) e) [
            | inr far ↦ let high = t.from k e far got in absurd (omega (arith, high, is))
            | inl near ↦
                let w = t.within in
                let len = length-take (j - i) (drop i es) in
                let len2 = length-drop i es in
                let less : k - i < j - i = omega (arith, ge, near) in
                let same : i + (k - i) ≡ k = omega (arith, ge) in
                (k - i, omega (arith, ge, near, w, len, len2), get_or-take (j - i) (drop i es) (k - i) e less ∙ get_or-drop i es (k - i) e ∙ ap (λ n. get_or es n e) same ∙ at)
          ]
        ]
