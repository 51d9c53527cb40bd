-- The points in their frame.
use Rattle.std.proofs.Common.{◌≡◌, ℕ, ◌≤◌, ⊎_elim, List, [], ◌∷◌, ℤ, pos, negsuc, ◌+ℤ◌, ◌-ℤ◌, ◌≤ℤ◌, Contains, refl, subst, arith}
use Rattle.std.specs.Int.RustNames.{unsigned_abs}
use Rattle.std.proofs.lemmas.Int.{ints, clamps}
use Rattle.math_base.proofs.Lists.{contains_none, contains_cons}
use Rattle.sight_names.specs.declared.names.Pt.{Pt}
use Rattle.map_picture.specs.declared.frame.Frame.{Frame}
use Rattle.map_picture.specs.Frame.{frame_at, frame_of_points, widened, widened_by}
use Rattle.map_picture.specs.Laws.{IsReadBack}

record IsIn (f : Frame) (p : Pt) : Type 0 where
  left : f.left ≤ℤ p.x
  right : p.x ≤ℤ f.right
  bottom : f.bottom ≤ℤ p.y
  top : p.y ≤ℤ f.top

still_in : (f : Frame) (p q : Pt) → IsIn f p → IsIn (widened f q) p
still_in f p q h =
    let a = h.left in let b = h.right in let c = h.bottom in let d = h.top in
    record { left = omega (arith, ints, clamps, a); right = omega (arith, ints, clamps, b); bottom = omega (arith, ints, clamps, c); top = omega (arith, ints, clamps, d) }

now_in : (f : Frame) (p : Pt) → IsIn (widened f p) p
now_in f p = record { left = omega (arith, ints, clamps); right = omega (arith, ints, clamps); bottom = omega (arith, ints, clamps); top = omega (arith, ints, clamps) }

kept_in : (f : Frame) (p : Pt) (ps : List Pt) → IsIn f p → IsIn (widened_by f ps) p
kept_in f p [] h = h
kept_in f p (q ∷ ps) h = kept_in (widened f q) p ps (still_in f p q h)

all_in : (f : Frame) (p : Pt) (ps : List Pt) → Contains ps p → IsIn (widened_by f ps) p
all_in f p [] c = absurd (contains_none p c)
all_in f p (q ∷ ps) c = ⊎_elim
    (λ same. kept_in (widened f q) p ps (subst (λ (r : Pt). IsIn (widened f q) r) same (now_in f q)))
    (λ rest. all_in (widened f q) p ps rest)
    (contains_cons p q ps c)

at_itself : (p : Pt) → IsIn (frame_at p) p
at_itself p = record { left = omega (arith, ints); right = omega (arith, ints); bottom = omega (arith, ints); top = omega (arith, ints) }

in_frame : (ps : List Pt) (p : Pt) → Contains ps p → IsIn (frame_of_points ps) p
in_frame [] p c = absurd (contains_none p c)
in_frame (q ∷ ps) p c = ⊎_elim
    (λ same. kept_in (frame_at q) p ps (subst (λ (r : Pt). IsIn (frame_at q) r) same (at_itself q)))
    (λ rest. all_in (frame_at q) p ps rest)
    (contains_cons p q ps c)

abs_of : (z : ℤ) → pos 0 ≤ℤ z → pos (unsigned_abs z) ≡ z
abs_of (pos n) h = refl
abs_of (negsuc n) h = absurd (omega (arith, ints))

-- from a lesser number up
up_from : (a b : ℤ) → a ≤ℤ b → pos (unsigned_abs (b -ℤ a)) ≡ b -ℤ a
up_from a b h = abs_of (b -ℤ a) (omega (arith, ints))

above : (a b d : ℤ) → d ≡ b -ℤ a → b ≡ a +ℤ d
above a b d e = omega (arith, ints, e)

below : (a b d : ℤ) → d ≡ b -ℤ a → a ≡ b -ℤ d
below a b d e = omega (arith, ints, e)

within : (m n : ℕ) (y z : ℤ) → pos m ≡ y → pos n ≡ z → y ≤ℤ z → m ≤ n
within m n y z e q h = omega (arith, ints, e, q)

less : (a b c : ℤ) → b ≤ℤ c → (b -ℤ a) ≤ℤ (c -ℤ a)
less a b c h = omega (arith, ints)

more : (a b c : ℤ) → a ≤ℤ b → (c -ℤ b) ≤ℤ (c -ℤ a)
more a b c h = omega (arith, ints)

both : (a b c : ℤ) → a ≤ℤ b → b ≤ℤ c → a ≤ℤ c
both a b c h k = omega (arith, ints)

pub read_back : (ps : List Pt) (p : Pt) → Contains ps p → IsReadBack (frame_of_points ps) p
read_back ps p c = back (frame_of_points ps) (in_frame ps p c)
  where
    back : (f : Frame) → IsIn f p → IsReadBack f p
    back f h = record {
      x = above f.left p.x _ (up_from f.left p.x h.left);
      y = below p.y f.top _ (up_from p.y f.top h.top);
      wide = within _ _ _ _ (up_from f.left p.x h.left) (up_from f.left f.right (both f.left p.x f.right h.left h.right)) (less f.left p.x f.right h.right);
      high = within _ _ _ _ (up_from p.y f.top h.top) (up_from f.bottom f.top (both f.bottom p.y f.top h.bottom h.top)) (more f.bottom p.y f.top h.bottom);
    }
