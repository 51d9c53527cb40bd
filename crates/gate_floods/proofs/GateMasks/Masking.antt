-- The bits that a flood by the code leaves are those of a gate's mask.
use Rattle.std.proofs.Common.{◌≡◌, ℕ, zero, suc, ◌+◌, ◌*◌, ◌/◌, ◌%◌, ◌<◌, ◌≤◌, ◌⊎◌, ◌↔◌, inl, inr, List, [], ◌∷◌, ◌++◌, length, slice_get, slice_index, get_or, Some, None, Option, Bool, true, false, refl, sym, ap, ◌∙◌, subst, arith, Contains, ℤ, pos, length-append}
use Rattle.std.specs.Prelude.{option_and_then, ◌<ℤ◌, if◌then◌else◌}
use Rattle.std.specs.Int.{bit_at}
use Rattle.std.proofs.lemmas.Option.{none-some, same_Some, slice_get_within, slice_get-get_or}
use Rattle.std.proofs.lemmas.Nat.Bits.{bit_at-zero}
use Rattle.geom_exact.specs.Formulas.{turn_of}
use Rattle.geom_exact.proofs.SegmentLemmas.{turn_is_at}
use Rattle.sight_names.specs.declared.names.Pt.{Pt}
use Rattle.sight_names.specs.declared.names.Side.{Side}
use Rattle.sight_names.specs.Map.{Map, map_of}
use Rattle.sight_names.specs.Plan.{PlanParts}
use Rattle.sight_names.specs.Point.{point_of, turn_at}
use Rattle.sight_names.specs.Points.{place}
use Rattle.sight_names.specs.Sequence.{Portal}
use Rattle.sight_names.proofs.PlanMap.{line_of_plan}
use Rattle.math_base.proofs.Numbers.{same_or_not, below_or_last, below_or_not}
use Rattle.math_base.proofs.Lists.{get_before_pushed, get_pushed}
use Rattle.gate_floods.specs.Gates.{IsGate, IsBeyond, here, further, IsInMask, MayFollow, IsInFront, IsInBack}
use Rattle.gate_floods.specs.declared.gate_masks.gate.Gate.{Gate}
use Rattle.gate_floods.specs.declared.gate_masks.masks.Row.{Row}
use Rattle.gate_floods.specs.GateMasks.Words.{HasBit, AreBitsOf}
use Rattle.gate_floods.specs.GateMasks.Gates.{AreGates, IsGateOf, portal_of_gate}
use Rattle.gate_floods.specs.GateMasks.Following.{GateFollows}
use Rattle.gate_floods.specs.GateMasks.Flood as flood
use Rattle.gate_floods.specs.GateMasks.Flood.{LiesBeyond}
use Rattle.gate_floods.specs.GateMasks.Masks.{AreSideMasks, IsInRowOf, IsLeftOut, IsMaskAt, IsGateMask, mask_of_side, side_place}
use Rattle.gate_floods.proofs.GateMasks.AtSide.{line_of_gate}
use Rattle.gate_floods.proofs.GateMasks.Gathering.{TellsGate}

-- ---- rows

either_bit : (ws : List ℕ) (k : ℕ) → HasBit ws k ⊎ (¬ HasBit ws k)
either_bit ws k = same_or_not (bit_at (slice_index ws (k / 64)) (k % 64)) 1

-- it is known whether a row has a bit
pub either_in : (rows : List Row) (f k : ℕ) → IsInRowOf rows f k ⊎ (¬ IsInRowOf rows f k)
either_in rows f k = at (slice_get rows f) refl
  where
    at : (o : Option Row) → slice_get rows f ≡ o → IsInRowOf rows f k ⊎ (¬ IsInRowOf rows f k)
    at None e = inr (λ (h : IsInRowOf rows f k). none-some h.0 (sym e ∙ h.1))
    at (Some r) e = elim (either_bit r.words.items k) as (λ _. IsInRowOf rows f k ⊎ (¬ IsInRowOf rows f k)) [
      | inl b ↦ inl (r, e, b)
      | inr n ↦ inr (λ (h : IsInRowOf rows f k). n (subst (λ (x : Row). HasBit x.words.items k) (same_Some h.0 r (sym h.1 ∙ e)) h.2))
    ]

-- what isn't left out is in
pub in_of_not_out : (rows : List Row) (f k : ℕ) → ¬ IsLeftOut rows f k → IsInRowOf rows f k
in_of_not_out rows f k h = elim (either_in rows f k) as (λ _. IsInRowOf rows f k) [
  | inl i ↦ i
  | inr o ↦ absurd (h o)
]

-- the words of a row that is there, and no words
pub words_there : (rows : List Row) (f : ℕ) (r : Row) → slice_get rows f ≡ Some r → (k : ℕ) → HasBit r.words.items k ↔ IsInRowOf rows f k
words_there rows f r at k = (
  (λ (b : HasBit r.words.items k). (r, at, b)),
  (λ (h : IsInRowOf rows f k). subst (λ (x : Row). HasBit x.words.items k) (same_Some h.0 r (sym h.1 ∙ at)) h.2),
)

pub words_at : (rows : List Row) (f : ℕ) (r : Row) (words : List ℕ) → words ≡ r.words.items → f < length rows → r ≡ get_or rows f r → (k : ℕ) → HasBit words k ↔ IsInRowOf rows f k
words_at rows f r words is lt got k = subst (λ (ws : List ℕ). HasBit ws k ↔ IsInRowOf rows f k) (sym is) (words_there rows f r (slice_get-get_or rows f r lt ∙ ap (λ (x : Row). Some x) (sym got)) k)

no_bit : (k : ℕ) → ¬ HasBit [] k
no_bit k h = let z = bit_at-zero (k % 64) in omega (arith, h, z)

past_row : (rows : List Row) (k : ℕ) → length rows ≤ k → slice_get rows k ≡ None
past_row [] k h = refl
past_row (x ∷ xs) zero h = absurd (omega (arith, h))
past_row (x ∷ xs) (suc k) h = past_row xs k (omega (arith, h))

pub words_absent : (rows : List Row) (f : ℕ) → length rows ≤ f → (k : ℕ) → HasBit [] k ↔ IsInRowOf rows f k
words_absent rows f past k = let none = past_row rows f past in ((λ (b : HasBit [] k). absurd (no_bit k b)), (λ (h : IsInRowOf rows f k). absurd (none-some h.0 (sym none ∙ h.1))))

-- ---- a mask of the code

lies_moved : (es : List Gate) (P Q : ℕ → Type 0) (e : Gate) → ((x : ℕ) → P x → Q x) → (c : ℕ) → LiesBeyond es P e c → LiesBeyond es Q e c
lies_moved es P Q e to c (flood.here is) = flood.here is
lies_moved es P Q e to c (flood.further f lies seen there may is) = flood.further f (lies_moved es P Q e to f.near lies) (to f.near seen) there may is

pub mask_made : (es : List Gate) (joined : List Row) (e : Gate) (seen other numbers same words : List ℕ) → same ≡ numbers → ((c : ℕ) → HasBit seen c ↔ IsInRowOf joined e.near c) → ((c : ℕ) → HasBit other c ↔ IsInRowOf joined e.far c)
    → ((c : ℕ) → Contains numbers c ↔ LiesBeyond es (HasBit seen) e c) → AreBitsOf words (λ c. Contains same c × HasBit other c) → IsGateMask es joined e words
mask_made es joined e seen other numbers same words is near far beyond bits c = (
  (λ (h : HasBit words c). let w = (bits c).0 h in (lies_moved es (HasBit seen) (IsInRowOf joined e.near) e (λ x. (near x).0) c ((beyond c).0 (subst (λ (xs : List ℕ). Contains xs c) is w.0)), (far c).0 w.1)),
  (λ (h : LiesBeyond es (IsInRowOf joined e.near) e c × IsInRowOf joined e.far c). (bits c).1 (subst (λ (xs : List ℕ). Contains xs c) (sym is) ((beyond c).1 (lies_moved es (IsInRowOf joined e.near) (HasBit seen) e (λ x. (near x).1) c h.0)), (far c).1 h.1)),
)

-- ---- a gate of the code as one of the map

turn_there : (m : Map) (e : Gate) → IsGateOf m e → (at : Pt) (k : ℕ) → at ≡ place m k → turn_of e.left_at e.right_at at ≡ turn_at (place m e.left) (place m e.right) (point_of (place m k))
turn_there m e g at k is = turn_is_at e.left_at e.right_at at ∙ (λ i. turn_at (g.left_at i) (g.right_at i) (point_of (is i)))

module _ (m : Map) (e f : Gate) (g : IsGateOf m e) (h : IsGateOf m f) where
  front_left : turn_of e.left_at e.right_at f.left_at ≡ turn_at (place m e.left) (place m e.right) (point_of (place m f.left))
  front_left = turn_there m e g f.left_at f.left h.left_at

  front_right : turn_of e.left_at e.right_at f.right_at ≡ turn_at (place m e.left) (place m e.right) (point_of (place m f.right))
  front_right = turn_there m e g f.right_at f.right h.right_at

  back_left : turn_of f.left_at f.right_at e.left_at ≡ turn_at (place m f.left) (place m f.right) (point_of (place m e.left))
  back_left = turn_there m f h e.left_at e.left g.left_at

  back_right : turn_of f.left_at f.right_at e.right_at ≡ turn_at (place m f.left) (place m f.right) (point_of (place m e.right))
  back_right = turn_there m f h e.right_at e.right g.right_at

  pub may_follow_of : GateFollows e f → MayFollow m (portal_of_gate e) (portal_of_gate f)
  may_follow_of w = record {
    in_front = elim w.in_front as (λ _. IsInFront m (portal_of_gate e) f.left ⊎ IsInFront m (portal_of_gate e) f.right) [
      | inl x ↦ inl (subst (λ (t : ℤ). pos 0 <ℤ t) front_left x)
      | inr x ↦ inr (subst (λ (t : ℤ). pos 0 <ℤ t) front_right x)
    ];
    in_back = elim w.in_back as (λ _. IsInBack m (portal_of_gate f) e.left ⊎ IsInBack m (portal_of_gate f) e.right) [
      | inl x ↦ inl (subst (λ (t : ℤ). t <ℤ pos 0) back_left x)
      | inr x ↦ inr (subst (λ (t : ℤ). t <ℤ pos 0) back_right x)
    ];
  }

  pub follows_of : MayFollow m (portal_of_gate e) (portal_of_gate f) → GateFollows e f
  follows_of w = record {
    in_front = elim w.in_front as (λ _. (pos 0 <ℤ turn_of e.left_at e.right_at f.left_at) ⊎ (pos 0 <ℤ turn_of e.left_at e.right_at f.right_at)) [
      | inl x ↦ inl (subst (λ (t : ℤ). pos 0 <ℤ t) (sym front_left) x)
      | inr x ↦ inr (subst (λ (t : ℤ). pos 0 <ℤ t) (sym front_right) x)
    ];
    in_back = elim w.in_back as (λ _. (turn_of f.left_at f.right_at e.left_at <ℤ pos 0) ⊎ (turn_of f.left_at f.right_at e.right_at <ℤ pos 0)) [
      | inl x ↦ inl (subst (λ (t : ℤ). t <ℤ pos 0) (sym back_left) x)
      | inr x ↦ inr (subst (λ (t : ℤ). t <ℤ pos 0) (sym back_right) x)
    ];
  }

-- the gate with its points
abbrev pub placed : Map → ℕ → ℕ → Portal → Side → Gate
placed m b d p s = record { near = b; far = d; side = s; left = p.left; right = p.right; left_at = place m p.left; right_at = place m p.right }

pub placed_is : (m : Map) (b d : ℕ) (p : Portal) (g : IsGate m b d p) → IsGateOf m (placed m b d p g.side)
placed_is m b d p g = record { gate = g; side = refl; left_at = refl; right_at = refl }

-- ---- what lies beyond it

module _ (m : Map) (es : List Gate) (are : AreGates m es) (joined : List Row) (e : Gate) (g : IsGateOf m e) where
  pub beyond_of : (c : ℕ) → LiesBeyond es (IsInRowOf joined e.near) e c → IsBeyond m (IsLeftOut joined) e.near e.far (portal_of_gate e) c
  beyond_of c (flood.here is) = here is
  beyond_of c (flood.further f lies seen there may is) =
      let h = (are f).0 there in
      further f.near (portal_of_gate f) (beyond_of f.near lies) (λ (claim : IsLeftOut joined e.near f.near). claim seen) (subst (λ (d : ℕ). IsGate m f.near d (portal_of_gate f)) (sym is) h.gate) (may_follow_of m e f g h may)

  pub lies_of : (c : ℕ) → IsBeyond m (IsLeftOut joined) e.near e.far (portal_of_gate e) c → LiesBeyond es (IsInRowOf joined e.near) e c
  lies_of c (here is) = flood.here is
  lies_of c (further x q lies none gate may) =
      let f : Gate = placed m x c q gate.side in
      let h : IsGateOf m f = placed_is m x c q gate in
      flood.further f (lies_of x lies) (in_of_not_out joined e.near x none) ((are f).1 h) (follows_of m e f g h may) refl

  -- the mask
  pub mask_is : (words : List ℕ) → IsGateMask es joined e words → AreBitsOf words (IsInMask m (IsLeftOut joined) e.near e.far (portal_of_gate e))
  mask_is words h c = (
    (λ (b : HasBit words c). let w = (h c).0 b in record { beyond = beyond_of c w.0; unclaimed = λ (claim : IsLeftOut joined e.far c). claim w.1 }),
    (λ (k : IsInMask m (IsLeftOut joined) e.near e.far (portal_of_gate e) c). (h c).1 (lies_of c k.beyond, in_of_not_out joined e.far c k.unclaimed)),
  )

-- ---- the mask at a side

pub mask_there : (m : Map) (es : List Gate) → AreGates m es → (joined : List Row) (s : Side) (e : Gate) → TellsGate m s (Some e) → (row : Row) → IsGateMask es joined e row.words.items → IsMaskAt m (IsLeftOut joined) s (Some row)
mask_there m es are joined s e tells row h =
    let mine = (tells e).0 refl in (
      (e.near, e.far, portal_of_gate e, mine.0.gate, mine.0.side ∙ mine.1),
      (λ (b d : ℕ) (p : Portal) (gate : IsGate m b d p) (same : gate.side ≡ s).
          let other : Gate = placed m b d p gate.side in
          let is : e ≡ other = same_Some e other ((tells other).1 (placed_is m b d p gate, same)) in
          subst (λ (x : Gate). AreBitsOf row.words.items (IsInMask m (IsLeftOut joined) x.near x.far (portal_of_gate x))) is (mask_is m es are joined e mine.0 row.words.items h)),
    )

pub mask_absent : (m : Map) (Claims : ℕ → ℕ → Type 0) (s : Side) → TellsGate m s None → IsMaskAt m Claims s None
mask_absent m Claims s tells b d p gate same = none-some (placed m b d p gate.side) ((tells (placed m b d p gate.side)).1 (placed_is m b d p gate, same))

-- ---- the masks of all sides

-- those of the lines before n
pub record AreMasksBelow (m : Map) (Claims : ℕ → ℕ → Type 0) (n : ℕ) (masks : List (Option Row)) : Type 0 where
  pub len : length masks ≡ n * 2
  pub each : (s : Side) → s.line < n → IsMaskAt m Claims s (mask_of_side masks s)

pub no_masks : (m : Map) (Claims : ℕ → ℕ → Type 0) (masks : List (Option Row)) → masks ≡ [] → AreMasksBelow m Claims 0 masks
no_masks m Claims masks none = record { len = ap length none; each = λ s lt. absurd (omega (arith, lt)) }

got : (xs : List (Option Row)) (k : ℕ) → k < length xs → (o : Option Row) × (slice_get xs k ≡ Some o)
got [] k h = absurd (omega (arith, h))
got (x ∷ xs) zero h = (x, refl)
got (x ∷ xs) (suc k) h = got xs k (omega (arith, h))

past_end : (xs : List (Option Row)) (k : ℕ) → length xs ≤ k → slice_get xs k ≡ None
past_end [] k h = refl
past_end (x ∷ xs) zero h = absurd (omega (arith, h))
past_end (x ∷ xs) (suc k) h = past_end xs k (omega (arith, h))

-- what the entry at a side's place is
pub mask_entry : (masks now : List (Option Row)) (s : Side) (k : ℕ) (o : Option Row) → masks ≡ now → k ≡ side_place s → k < length masks → o ≡ get_or masks k o → mask_of_side now s ≡ o
mask_entry masks now s k o is place lt read =
    let at : slice_get masks k ≡ Some o = slice_get-get_or masks k o lt ∙ ap (λ (x : Option Row). Some x) (sym read) in
    ap (option_and_then (λ (x : Option Row). x)) (subst (λ (j : ℕ). slice_get now j ≡ Some o) place (subst (λ (ms : List (Option Row)). slice_get ms k ≡ Some o) is at))

pub mask_no_entry : (masks now : List (Option Row)) (s : Side) (k : ℕ) → masks ≡ now → k ≡ side_place s → length masks ≤ k → mask_of_side now s ≡ None
mask_no_entry masks now s k is place past =
    ap (option_and_then (λ (x : Option Row). x)) (subst (λ (j : ℕ). slice_get now j ≡ None) place (subst (λ (ms : List (Option Row)). slice_get ms k ≡ None) is (past_end masks k past)))

-- the mask of a place
abbrev found_at : List (Option Row) → ℕ → Option Row
found_at masks k = option_and_then (λ (o : Option Row). o) (slice_get masks k)

abbrev side_at : ℕ → Bool → Side
side_at k b = record { line = k; left = b }

pub masks_pushed : (m : Map) (Claims : ℕ → ℕ → Type 0) (n : ℕ) (right left : Option Row) (old mid new : List (Option Row)) → mid ≡ old ++ right ∷ [] → new ≡ mid ++ left ∷ []
    → IsMaskAt m Claims (record { line = n; left = false }) right → IsMaskAt m Claims (record { line = n; left = true }) left → AreMasksBelow m Claims n old → AreMasksBelow m Claims (n + 1) new
masks_pushed m Claims n right left old mid new first second at_right at_left h = record { len = len; each = each }
  where
    mid_len : length mid ≡ n * 2 + 1
    mid_len = let a = h.len in let e = ap length first in let l = length-append old (right ∷ []) in omega (arith, a, e, l)

    len : length new ≡ (n + 1) * 2
    len = let a = mid_len in let e = ap length second in let l = length-append mid (left ∷ []) in omega (arith, a, e, l)

    kept : (k : ℕ) → k < n * 2 → found_at new k ≡ found_at old k
    kept k lt =
        let a = h.len in
        let g = got old k (omega (arith, lt, a)) in
        let one : slice_get mid k ≡ Some g.0 = subst (λ (xs : List (Option Row)). slice_get xs k ≡ Some g.0) (sym first) (get_before_pushed old right g.0 k g.1) in
        let two : slice_get new k ≡ Some g.0 = subst (λ (xs : List (Option Row)). slice_get xs k ≡ Some g.0) (sym second) (get_before_pushed mid left g.0 k one) in
        ap (option_and_then (λ (o : Option Row). o)) (two ∙ sym g.1)

    old_at : (k : ℕ) (b : Bool) → k < n → mask_of_side new (side_at k b) ≡ mask_of_side old (side_at k b)
    old_at k true lt = kept (k * 2 + 1) (omega (arith, lt))
    old_at k false lt = kept (k * 2 + 0) (omega (arith, lt))

    place_of_right : slice_get new (n * 2 + 0) ≡ Some right
    place_of_right =
        let a = h.len in
        let at : slice_get (old ++ right ∷ []) (n * 2 + 0) ≡ Some right = subst (λ (k : ℕ). slice_get (old ++ right ∷ []) k ≡ Some right) (same (length old) a) (get_pushed old right) in
        let one : slice_get mid (n * 2 + 0) ≡ Some right = subst (λ (xs : List (Option Row)). slice_get xs (n * 2 + 0) ≡ Some right) (sym first) at in
        subst (λ (xs : List (Option Row)). slice_get xs (n * 2 + 0) ≡ Some right) (sym second) (get_before_pushed mid left right (n * 2 + 0) one)
      where
        same : (l : ℕ) → l ≡ n * 2 → l ≡ n * 2 + 0
        same l e = omega (arith, e)

    place_of_left : slice_get new (n * 2 + 1) ≡ Some left
    place_of_left = subst (λ (xs : List (Option Row)). slice_get xs (n * 2 + 1) ≡ Some left) (sym second) (subst (λ (k : ℕ). slice_get (mid ++ left ∷ []) k ≡ Some left) mid_len (get_pushed mid left))

    new_at : (b : Bool) → IsMaskAt m Claims (side_at n b) (mask_of_side new (side_at n b))
    new_at true = subst (IsMaskAt m Claims (side_at n true)) (sym (ap (option_and_then (λ (o : Option Row). o)) place_of_left)) at_left
    new_at false = subst (IsMaskAt m Claims (side_at n false)) (sym (ap (option_and_then (λ (o : Option Row). o)) place_of_right)) at_right

    each : (s : Side) → s.line < n + 1 → IsMaskAt m Claims s (mask_of_side new s)
    each s lt = elim (below_or_last s.line n lt) as (λ _. IsMaskAt m Claims s (mask_of_side new s)) [
      | inl less ↦ subst (IsMaskAt m Claims s) (sym (old_at s.line s.left less)) (h.each s less)
      | inr same ↦ subst (λ (k : ℕ). IsMaskAt m Claims (side_at k s.left) (mask_of_side new (side_at k s.left))) (sym same) (new_at s.left)
    ]

pub all_masks : (p : PlanParts) (Claims : ℕ → ℕ → Type 0) (n : ℕ) (masks : List (Option Row)) → length p.lines ≤ n → AreMasksBelow (map_of p) Claims n masks → AreSideMasks (map_of p) Claims masks
all_masks p Claims n masks past h s = elim (below_or_not s.line n) as (λ _. IsMaskAt (map_of p) Claims s (mask_of_side masks s)) [
  | inl less ↦ h.each s less
  | inr ge ↦ subst (IsMaskAt (map_of p) Claims s) (sym (ap (option_and_then (λ (o : Option Row). o)) (none s.left ge))) (λ (b d : ℕ) (q : Portal) (gate : IsGate (map_of p) b d q) (same : gate.side ≡ s).
      let l = line_of_gate (map_of p) b d q gate in
      let k = line_of_plan p.points p.lines gate.side.line l.line l.is in
      let lt = slice_get_within p.lines gate.side.line (Some k.0) k.1 in
      let e : gate.side.line ≡ s.line = ap (λ (t : Side). t.line) same in
      absurd (omega (arith, lt, e, ge, past)))
]
  where
    none : (b : Bool) → n ≤ s.line → slice_get masks (s.line * 2 + (if b then 1 else 0)) ≡ None
    none true ge = let a = h.len in past_end masks (s.line * 2 + 1) (omega (arith, a, ge))
    none false ge = let a = h.len in past_end masks (s.line * 2 + 0) (omega (arith, a, ge))
