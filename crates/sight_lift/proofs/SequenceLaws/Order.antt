-- The order of sequences: what comes before a sequence, what goes on from it, and what it begins with.
use Rattle.std.proofs.Common.{◌≡◌, ℕ, ◌≤◌, ◌⊎◌, inl, inr, List, [], ◌∷◌, ◌++◌, length, Contains, Option, Some, None, option_map, refl, sym, ap, ap₂, ◌∙◌, subst, arith}
use Rattle.std.specs.List.{AllByRecursion}
use Rattle.std.proofs.lemmas.List.{append_assoc, append-nil}
use Rattle.std.proofs.lemmas.Option.{none-some, same_Some}
use Rattle.sight_names.specs.declared.names.Side.{Side}
use Rattle.sight_names.specs.declared.names.Triangle.{Triangle}
use Rattle.sight_names.specs.Map.{Map}
use Rattle.sight_names.specs.Sequence.{Sequence, Portal, Way, Left, Right, IsSequence, IsSolidLine, LeadsOutside, Splits, apex, way_out, portals_from, root_portal, roots}
use Rattle.sight_names.specs.Found.{WaysBefore, SequenceBefore, IsStabbableSequence}
use Rattle.sight_names.proofs.Lists.{contains_cases, contains_tail, ascends_tail, ascends_head}
use Rattle.sight_names.specs.Order.{Ascends}
use Rattle.sight_names.proofs.OnePlace.{before_irreflexive, before_asymmetric}
use Rattle.sight_lift.specs.SequenceLaws.Ways.{one_way_on}
use Rattle.math_base.proofs.Lists.{contains_none, contains_here, all_front}
use Rattle.sight_names.proofs.Portals.{split_front}

-- ---- before

ways_longer : (vs : List Way) (w : Way) (ws : List Way) → WaysBefore vs (vs ++ w ∷ ws)
ways_longer [] w ws = tt
ways_longer (Left ∷ vs) w ws = ways_longer vs w ws
ways_longer (Right ∷ vs) w ws = ways_longer vs w ws

left_first : (vs us ws : List Way) → WaysBefore (vs ++ Left ∷ us) (vs ++ Right ∷ ws)
left_first [] us ws = tt
left_first (Left ∷ vs) us ws = left_first vs us ws
left_first (Right ∷ vs) us ws = left_first vs us ws

-- ---- a list that ascends is no longer than one that has its members

tail_in : (x y : Sequence) (xs ys : List Sequence) → Ascends SequenceBefore (x ∷ xs) → ((e : Sequence) → Contains (x ∷ xs) e → Contains (y ∷ ys) e) → x ≡ y → (e : Sequence) → Contains xs e → Contains ys e
tail_in x y xs ys a f same e c = elim (contains_cases y e ys (f e (contains_tail x e xs c))) [
  | inl k ↦ absurd (before_irreflexive x (subst (λ (z : Sequence). SequenceBefore x z) (sym (same ∙ k)) (ascends_head SequenceBefore x e xs a c)))
  | inr k ↦ k
]

all_in : (x y : Sequence) (xs ys : List Sequence) → Ascends SequenceBefore (x ∷ xs) → Ascends SequenceBefore (y ∷ ys) → ((e : Sequence) → Contains (x ∷ xs) e → Contains (y ∷ ys) e) → Contains ys x → (e : Sequence) → Contains (x ∷ xs) e → Contains ys e
all_in x y xs ys a b f later e c = elim (contains_cases y e ys (f e c)) [
  | inr k ↦ k
  | inl k ↦ absurd (elim (contains_cases x e xs c) [
    | inl same ↦ before_irreflexive y (subst (λ (z : Sequence). SequenceBefore y z) (same ∙ sym k) (ascends_head SequenceBefore y x ys b later))
    | inr within ↦ before_asymmetric x y (subst (λ (z : Sequence). SequenceBefore x z) (sym k) (ascends_head SequenceBefore x e xs a within)) (ascends_head SequenceBefore y x ys b later)
  ])
]

pub no_longer : (xs ys : List Sequence) → Ascends SequenceBefore xs → Ascends SequenceBefore ys → ((e : Sequence) → Contains xs e → Contains ys e) → length xs ≤ length ys
no_longer [] ys a b f = omega arith
no_longer (x ∷ xs) [] a b f = absurd (contains_none x (f x (contains_here x xs)))
no_longer (x ∷ xs) (y ∷ ys) a b f = elim (contains_cases y x ys (f x (contains_here x xs))) [
  | inl k ↦ (let h = no_longer xs ys (ascends_tail SequenceBefore x xs a) (ascends_tail SequenceBefore y ys b) (tail_in x y xs ys a f (sym k)) in omega arith)
  | inr k ↦ (let h = no_longer (x ∷ xs) ys a (ascends_tail SequenceBefore y ys b) (all_in x y xs ys a b f k) in omega arith)
]

-- ---- what goes on from a sequence

-- t is s, or goes on from s
pub record IsUnder (s t : Sequence) : Type 0 where
  pub root : s.root ≡ t.root
  pub onward : List Way
  pub ways : t.ways ≡ s.ways ++ onward

abbrev pub IsUnderOne : List Sequence → Sequence → Type 0
IsUnderOne [] t = ⊥
IsUnderOne (s ∷ ss) t = IsUnder s t ⊎ IsUnderOne ss t

pub under_itself : (s : Sequence) → IsUnder s s
under_itself s = record { root = refl; onward = []; ways = sym (append-nil s.ways) }

one_sequence : (s t : Sequence) → s.root ≡ t.root → s.ways ≡ t.ways → s ≡ t
one_sequence s t e f = ap₂ (λ (r : Side) (ws : List Way). let q : Sequence = record { root = r; ways = ws } in q) e f

pub under_cases : (s t : Sequence) → IsUnder s t → (s ≡ t) ⊎ (IsUnder (one_way_on s Left) t ⊎ IsUnder (one_way_on s Right) t)
under_cases s t h = by h.onward h.ways
  where
    by : (ws : List Way) → t.ways ≡ s.ways ++ ws → (s ≡ t) ⊎ (IsUnder (one_way_on s Left) t ⊎ IsUnder (one_way_on s Right) t)
    by [] e = inl (one_sequence s t h.root (sym (append-nil s.ways) ∙ sym e))
    by (Left ∷ ws) e = inr (inl (record { root = h.root; onward = ws; ways = e ∙ sym (append_assoc s.ways (Left ∷ []) ws) }))
    by (Right ∷ ws) e = inr (inr (record { root = h.root; onward = ws; ways = e ∙ sym (append_assoc s.ways (Right ∷ []) ws) }))

-- what is under a way on is under the sequence
pub under_on : (s t : Sequence) (w : Way) → IsUnder (one_way_on s w) t → IsUnder s t
under_on s t w h = record { root = h.root; onward = w ∷ h.onward; ways = h.ways ∙ append_assoc s.ways (w ∷ []) h.onward }

pub before_under : (s t : Sequence) (w : Way) → IsUnder (one_way_on s w) t → SequenceBefore s t
before_under s t w h = inr (h.root, subst (WaysBefore s.ways) (sym (h.ways ∙ append_assoc s.ways (w ∷ []) h.onward)) (ways_longer s.ways w h.onward))

pub left_before_right : (s t u : Sequence) → IsUnder (one_way_on s Left) t → IsUnder (one_way_on s Right) u → SequenceBefore t u
left_before_right s t u h k = inr (
  sym h.root ∙ k.root,
  subst (λ (vs : List Way). WaysBefore vs u.ways) (sym (h.ways ∙ append_assoc s.ways (Left ∷ []) h.onward))
      (subst (WaysBefore (s.ways ++ Left ∷ h.onward)) (sym (k.ways ∙ append_assoc s.ways (Right ∷ []) k.onward)) (left_first s.ways h.onward k.onward)),
)

-- ---- what a sequence begins with

pub from_map : {X Y : Type 0} (f : X → Y) (o : Option X) (y : Y) → option_map f o ≡ Some y → (x : X) × (o ≡ Some x) × (f x ≡ y)
from_map f None y e = absurd (none-some y e)
from_map f (Some x) y e = (x, refl, same_Some (f x) y e)

pub portals_of_front : (ts : List Triangle) (o : Option Portal) (ws vs : List Way) (ps : List Portal) → portals_from ts o (ws ++ vs) ≡ Some ps → (qs rs : List Portal) × (portals_from ts o ws ≡ Some qs) × (ps ≡ qs ++ rs)
portals_of_front ts None ws vs ps e = absurd (none-some ps e)
portals_of_front ts (Some p) [] [] ps e = (p ∷ [], [], refl, sym (same_Some (p ∷ []) ps e))
portals_of_front ts (Some p) [] (v ∷ vs) ps e =
    let q = from_map (λ (qs : List Portal). p ∷ qs) (portals_from ts (option_map (way_out p v) (apex ts p)) vs) ps e in
    (p ∷ [], q.0, refl, sym q.2)
portals_of_front ts (Some p) (w ∷ ws) vs ps e =
    let q = from_map (λ (qs : List Portal). p ∷ qs) (portals_from ts (option_map (way_out p w) (apex ts p)) (ws ++ vs)) ps e in
    let r = portals_of_front ts (option_map (way_out p w) (apex ts p)) ws vs q.0 q.1 in
    (p ∷ r.0, r.1, ap (option_map (λ (qs : List Portal). p ∷ qs)) r.2, sym q.2 ∙ ap (λ (qs : List Portal). p ∷ qs) r.3)

module _ (m : Map) (ts : List Triangle) (ls : List (Option ℕ)) (a : ℕ) where
  -- what a sequence begins with is one, by the first of its portals
  pub sequence_under : (s t : Sequence) (ps : List Portal) → IsUnder s t → IsSequence m ts ls a t ps → (qs rs : List Portal) × IsSequence m ts ls a s qs × (ps ≡ qs ++ rs)
  sequence_under s t ps u h =
      let f = portals_of_front ts (root_portal m s.root) s.ways u.onward ps
      (ap (λ (ws : List Way). portals_from ts (root_portal m s.root) ws) (sym u.ways) ∙ ap (λ (r : Side). portals_from ts (root_portal m r) t.ways) u.root ∙ h.portals) in (
        f.0,
        f.1,
        record {
          root = subst (Contains (roots m a)) (sym u.root) h.root;
          portals = f.2;
          no_wall = all_front (λ (d : Portal). ¬ IsSolidLine m d) f.0 f.1 (subst (AllByRecursion (λ (d : Portal). ¬ IsSolidLine m d)) f.3 h.no_wall);
          outside = all_front (LeadsOutside ts ls a) f.0 f.1 (subst (AllByRecursion (LeadsOutside ts ls a)) f.3 h.outside);
        },
        f.3,
      )

  pub stabbable_under : (s t : Sequence) → IsUnder s t → IsStabbableSequence m ts ls a t → IsStabbableSequence m ts ls a s
  stabbable_under s t u (ps, h, (x, y, z, splits)) =
      let f = sequence_under s t ps u h in
      (f.0, f.2, (x, y, z, split_front m f.0 f.1 x y z (subst (λ (ds : List Portal). Splits m ds x y z) f.3 splits)))

  pub same_portals : (s : Sequence) (ps qs : List Portal) → IsSequence m ts ls a s ps → IsSequence m ts ls a s qs → ps ≡ qs
  same_portals s ps qs h k = same_Some ps qs (sym h.portals ∙ k.portals)
