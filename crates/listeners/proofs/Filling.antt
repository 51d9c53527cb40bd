-- A buffer filled with texts, one behind the other.
use Rattle.std.proofs.Common.{◌≡◌, ◌∙◌, ℕ, suc, zero, ◌+◌, ◌-◌, ◌<◌, ◌≤◌, List, [], ◌∷◌, ◌++◌, length, map, take, drop, get_or, refl, sym, ap, subst, arith, append_assoc}
use Rattle.std.proofs.lemmas.List.{append-nil, drop_all, drop_more, take_all, length-append, length-drop, length-take-le, take-append-le, drop-append-le}
use Rattle.std.proofs.Math.Seq.{drop-append_seam, take-append_seam, drop-append-add, take-add}
use borrow.Rule.Slice.PartMut.{mid_of, post_of, put_mid}
use Rattle.listeners.specs.Listening.{AreWordsAt, ListenerState, listener_text}
use Rattle.listeners.specs.Told.{texts}
use Rattle.math_base.proofs.Lists.{drop_more as drop-add}

-- so many bytes are written of all from a place on, and what is left of them is what is left of the rest from its own place on
pub record IsFilling (all : List ℕ) (start : ℕ) (before now rest : List ℕ) (at filled : ℕ) : Type 0 where
  pub left : drop filled (drop start all) ≡ drop at rest
  pub fits : filled ≤ length (drop start all)
  pub bytes : now ≡ take filled (drop start all) ++ drop filled before
  pub within : filled ≤ length before

-- ---- one text more

-- the rest is the next text and what is behind it
pub filling_on : {X : Type 0} (state : X → ListenerState) (list : List X) (i : ℕ) (x : X) → i < length list → x ≡ get_or list i x → (all : List ℕ) (start : ℕ) (before now : List ℕ) (at filled : ℕ) → IsFilling all start before now (texts (map state (drop i list))) at filled
    → IsFilling all start before now (listener_text (state x) ++ texts (map state (drop (i + 1) list))) at filled
filling_on state list i x lt e all start before now at filled h =
    subst (λ (l : List _). IsFilling all start before now (texts (map state l)) at filled) (drop_more list i x lt ∙ ap (λ y. y ∷ drop (i + 1) list) (sym e)) h

module _ (all : List ℕ) (start : ℕ) (before now text rest : List ℕ) (at filled : ℕ) (h : IsFilling all start before now (text ++ rest) at filled) where
  front : take filled now ≡ take filled (drop start all)
  front =
      ap (take filled) h.bytes
      ∙ ap (λ (k : ℕ). take k (take filled (drop start all) ++ drop filled before)) (sym (length-take-le filled (drop start all) h.fits))
      ∙ take-append_seam (take filled (drop start all)) (drop filled before)

  behind : drop filled now ≡ drop filled before
  behind =
      ap (drop filled) h.bytes
      ∙ ap (λ (k : ℕ). drop k (take filled (drop start all) ++ drop filled before)) (sym (length-take-le filled (drop start all) h.fits))
      ∙ drop-append_seam (take filled (drop start all)) (drop filled before)

  -- what the text has from that place on is what comes next
  next_bytes : (n : ℕ) → n ≤ length text - at → take n (drop filled (drop start all)) ≡ take n (drop at text)
  next_bytes zero le = refl
  next_bytes (suc n) le =
      ap (take (suc n)) (h.left ∙ drop-append-le at text rest (omega (arith, le)))
      ∙ take-append-le (suc n) (drop at text) rest (omega (arith, le, length-drop at text))

  long : length text - at ≤ length (drop filled (drop start all))
  long = omega (arith, ap length h.left, length-drop at (text ++ rest), length-append text rest)

  filled_more : (n : ℕ) (part : List ℕ) → AreWordsAt text at (drop filled now) part n → (filled + n ≤ length (drop start all)) × (filled + n ≤ length before) × (take filled now ++ part ≡ take (filled + n) (drop start all) ++ drop (filled + n) before)
  filled_more n part w =
      let few : n ≤ length text - at = omega (arith, w.count) in (
        omega (arith, few, long, length-drop filled (drop start all), h.fits),
        omega (arith, w.count, ap length behind, length-drop filled before, h.within),
        (ap (λ (t : List ℕ). t ++ part) front
            ∙ ap (λ (t : List ℕ). take filled (drop start all) ++ t) (w.bytes
            ∙ ap (λ (t : List ℕ). t ++ drop n (drop filled now)) (sym (next_bytes n few))
            ∙ ap (λ (t : List ℕ). take n (drop filled (drop start all)) ++ drop n t) behind)
            ∙ sym (append_assoc (take filled (drop start all)) (take n (drop filled (drop start all))) (drop n (drop filled before)))
            ∙ ap (λ (t : List ℕ). t ++ drop n (drop filled before)) (sym (take-add filled n (drop start all)))
            ∙ ap (λ (t : List ℕ). take (filled + n) (drop start all) ++ t) (sym (drop-add filled n before))),
      )

  -- the buffer is full
  pub filled_full : (n : ℕ) (part after : List ℕ) → AreWordsAt text at (drop filled now) part n → after ≡ take filled now ++ part → filled + n ≡ length after → length after ≡ length now → AreWordsAt all start before after (filled + n)
  filled_full n part after w is full same =
      let m = filled_more n part w in
      let len : length now ≡ filled + length (drop filled before) = ap length h.bytes ∙ length-append (take filled (drop start all)) (drop filled before) ∙ ap (λ (k : ℕ). k + length (drop filled before)) (length-take-le filled (drop start all) h.fits) in
      record {
        count = omega (arith, m.0, m.1, full, same, len, length-drop filled before, length-drop start all, h.within);
        bytes = is ∙ m.2;
      }

  -- there is room for what is behind the text
  pub filling_more : (n : ℕ) (part after : List ℕ) → AreWordsAt text at (drop filled now) part n → after ≡ take filled now ++ part → n ≡ length text - at → IsFilling all start before after rest (at - length text) (filled + n)
  filling_more n part after w is whole =
      let m = filled_more n part w in
      record {
        left = drop-add filled n (drop start all) ∙ ap (drop n) h.left ∙ sym (drop-add at n (text ++ rest))
            ∙ ap (λ (k : ℕ). drop k (text ++ rest)) (seam whole)
            ∙ drop-append-add text rest (at - length text);
        fits = m.0;
        bytes = is ∙ m.2;
        within = m.1;
      }
    where
      seam : n ≡ length text - at → at + n ≡ length text + (at - length text)
      seam e = omega (arith, e)

-- ---- a part of the buffer

-- the part from a place to the end is what is behind that place
pub end_part : (now : List ℕ) (a : ℕ) → mid_of a (length now - a) now ≡ drop a now
end_part now a = take_all (length now - a) (drop a now) (omega (arith, length-drop a now))

pub end_put : (now part : List ℕ) (a : ℕ) → put_mid a (length now - a) now part ≡ take a now ++ part
end_put now part a = ap (λ (t : List ℕ). take a now ++ (part ++ t)) (none now a) ∙ ap (λ (t : List ℕ). take a now ++ t) (append-nil part)
  where
    none : (now : List ℕ) (a : ℕ) → post_of a (length now - a) now ≡ []
    none now a = drop_all (length now - a) (drop a now) (omega (arith, length-drop a now))

pub at_end_part : (text : List ℕ) (at : ℕ) (now part : List ℕ) (a n : ℕ) → AreWordsAt text at (mid_of a (length now - a) now) part n → AreWordsAt text at (drop a now) part n
at_end_part text at now part a n w = subst (λ (t : List ℕ). AreWordsAt text at t part n) (end_part now a) w
