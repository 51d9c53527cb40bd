-- A line of the plane that goes from triangle to triangle through their sides: what it meets in them.
use Rattle.std.proofs.Common.{◌≡◌, ℤ, pos, ◌+ℤ◌, ◌*ℤ◌, ◌≤ℤ◌, ◌<ℤ◌, neg_ℤ, arith, sym, subst, inl, inr}
use borrow.Author.Differences.{ints}
use Rattle.math_base.proofs.Signs.{mul-pos, le_or_lt}
use Rattle.plane_base.proofs.Vec.{V, Lin, at, det, On, det-swap}
use Rattle.mesh_base.proofs.SightLaws.Places.{norm}
use Rattle.mesh_base.proofs.SightLaws.Crossings.{crossing, crossing_on, norm_above, not_after_chain, later_left, later_right, not_before, turn_nonneg, before_crossing, not_after_crossing, deep_left, deep_right, deep_at}
use Rattle.mesh_base.proofs.Face.{SameSegment, Clean}
use Rattle.mesh_base.proofs.Joined.{deep_line}
use Rattle.mesh_base.proofs.CleanMesh.{tri}
use Rattle.math_base.proofs.Small.{pos_of_negated_neg}

-- ---- a triangle that is entered through its side from a, on the line's left, to b, on its right
pub record IsEntered (f : Lin) (a b c : V) : Type 0 where
  pub turn : pos 0 <ℤ det a b c
  pub first : a.d ≡ pos 1
  pub second : b.d ≡ pos 1
  pub third : c.d ≡ pos 1
  pub left : pos 0 <ℤ at f a
  pub right : at f b <ℤ pos 0

-- a point of the line
pub record IsOn (f : Lin) (m : V) : Type 0 where
  pub above : pos 0 <ℤ m.d
  pub zero : at f m ≡ pos 0

wide : (f : Lin) (a b : V) → a.d ≡ pos 1 → b.d ≡ pos 1 → pos 0 <ℤ at f a → at f b <ℤ pos 0 → pos 0 <ℤ (crossing f a b).d
wide f a b ea eb ha hb = plain (neg_ℤ (at f b)) a.d (at f a) b.d (mul-pos (neg_ℤ (at f b)) a.d (omega (arith, ints)) (omega (arith, ints))) (mul-pos (at f a) b.d ha (omega (arith, ints)))
  where
    plain : (x p y q : ℤ) → pos 0 <ℤ (x *ℤ p) → pos 0 <ℤ (y *ℤ q) → pos 0 <ℤ (x *ℤ p +ℤ y *ℤ q)
    plain x p y q h k = omega (arith, ints)

module _ (f : Lin) (a b c : V) (t : IsEntered f a b c) where
  direction : pos 0 <ℤ norm f
  direction = norm_above f (crossing f a b) a (wide f a b t.first t.second t.left t.right) (crossing_on f a b) (λ e. let h = t.left in omega (arith, ints, e, h))

  module _ (m : V) (o : IsOn f m) where
    -- what isn't before the way out isn't before the way in
    after_left : at f c <ℤ pos 0 → pos 0 ≤ℤ det a c m → pos 0 ≤ℤ det a b m
    after_left hc h =
        turn_nonneg f a b m direction o.zero
        (not_after_chain f (crossing f a b) (crossing f a c) m (wide f a b t.first t.second t.left t.right) (wide f a c t.first t.third t.left hc) o.above (let k = later_left f a b c direction t.turn t.left in omega (arith, ints, k)) (not_before f a c m direction o.zero h))

    after_right : pos 0 <ℤ at f c → pos 0 ≤ℤ det c b m → pos 0 ≤ℤ det a b m
    after_right hc h =
        turn_nonneg f a b m direction o.zero
        (not_after_chain f (crossing f a b) (crossing f c b) m (wide f a b t.first t.second t.left t.right) (wide f c b t.third t.second hc t.right) o.above (let k = later_right f a b c direction t.turn t.right in omega (arith, ints, k)) (not_before f c b m direction o.zero h))

    module _ (u v : V) (clean : Clean (tri a b c) u v) (on : On u v m) (h : pos 0 ≤ℤ det a b m) where
      -- a segment that meets the line between the way in and the way out is the way in
      piece_left : at f c <ℤ pos 0 → det a c m <ℤ pos 0 → SameSegment a b u v
      piece_left hc k = deep_line a b c u v m clean (deep_left f a b c m direction o.zero t.left t.right hc (not_before f a b m direction o.zero h) (before_crossing f a c m direction o.zero (pos_of_negated_neg _ _ (det-swap a c m) k))) on

      piece_right : pos 0 <ℤ at f c → det c b m <ℤ pos 0 → SameSegment a b u v
      piece_right hc k = deep_line a b c u v m clean (deep_right f a b c m direction o.zero t.left t.right hc (not_before f a b m direction o.zero h) (before_crossing f c b m direction o.zero (pos_of_negated_neg _ _ (det-swap c b m) k))) on

      -- at the way in too
      piece_entry : det a b m ≤ℤ pos 0 → SameSegment a b u v
      piece_entry k = deep_line a b c u v m clean (deep_at f a b c m direction t.turn o.above t.first t.second o.zero t.left t.right (not_before f a b m direction o.zero h) (not_after_crossing f a b m direction o.zero (let e = det-swap a b m in omega (arith, ints, e, k)))) on

-- ---- from triangle to triangle

-- the line goes from the side a b through triangles to the side y z; P holds of each triangle that it enters, the one behind y z too
pub data Passage (f : Lin) (P : V → V → V → Type 0) (y z : V) : V → V → Type 0 where
  arrived : {a b : V} (c : V) → P a b c → a ≡ y → b ≡ z → Passage f P y z a b
  out_left : {a b : V} (c : V) → P a b c → at f c <ℤ pos 0 → Passage f P y z a c → Passage f P y z a b
  out_right : {a b : V} (c : V) → P a b c → pos 0 <ℤ at f c → Passage f P y z c b → Passage f P y z a b

-- a side on the way that is this segment
pub record Met (P : V → V → V → Type 0) (u v : V) : Type 0 where
  pub a : V
  pub b : V
  pub c : V
  pub entered : P a b c
  pub same : SameSegment a b u v

module _ (f : Lin) (P : V → V → V → Type 0) (y z : V) (of : (a b c : V) → P a b c → IsEntered f a b c) where
  -- what isn't before the last side isn't before the first
  pub passage_order : (a b m : V) → IsOn f m → Passage f P y z a b → pos 0 ≤ℤ det y z m → pos 0 ≤ℤ det a b m
  passage_order a b m o (arrived c p e g) h = subst (λ (x : V). pos 0 ≤ℤ det x b m) (sym e) (subst (λ (x : V). pos 0 ≤ℤ det y x m) (sym g) h)
  passage_order a b m o (out_left c p hc rest) h = after_left f a b c (of a b c p) m o hc (passage_order a c m o rest h)
  passage_order a b m o (out_right c p hc rest) h = after_right f a b c (of a b c p) m o hc (passage_order c b m o rest h)

  -- a segment that meets the line between the first side and the last is one of the sides on the way
  pub passage_meets : (u v m : V) → ((a b c : V) → P a b c → Clean (tri a b c) u v) → IsOn f m → On u v m → det y z m ≤ℤ pos 0 → (a b : V) → Passage f P y z a b → pos 0 ≤ℤ det a b m → Met P u v
  passage_meets u v m clean o on last a b (arrived c p e g) h = record { a = a; b = b; c = c; entered = p; same = piece_entry f a b c (of a b c p) m o u v (clean a b c p) on h (subst (λ (x : V). det x b m ≤ℤ pos 0) (sym e) (subst (λ (x : V). det y x m ≤ℤ pos 0) (sym g) last)) }
  passage_meets u v m clean o on last a b (out_left c p hc rest) h = elim (le_or_lt (pos 0) (det a c m)) as (λ _. Met P u v) [
    | inl k ↦ passage_meets u v m clean o on last a c rest k
    | inr k ↦ record { a = a; b = b; c = c; entered = p; same = piece_left f a b c (of a b c p) m o u v (clean a b c p) on h hc k }
  ]
  passage_meets u v m clean o on last a b (out_right c p hc rest) h = elim (le_or_lt (pos 0) (det c b m)) as (λ _. Met P u v) [
    | inl k ↦ passage_meets u v m clean o on last c b rest k
    | inr k ↦ record { a = a; b = b; c = c; entered = p; same = piece_right f a b c (of a b c p) m o u v (clean a b c p) on h hc k }
  ]
