-- The bar of a scale, and the number that tells it.
use Rattle.std.proofs.Common.{◌≡◌, ◌⊎◌, inl, inr, ℕ, zero, suc, ◌+◌, ◌*◌, ◌/◌, ◌-◌, ◌^◌, ◌<◌, ◌≤◌, Bool, true, false, nat_le, refl, sym, ap, ◌∙◌, subst, arith, if◌then◌else◌}
use Rattle.std.proofs.Math.Nat.{div-mul-le_self, div-lt_iff_lt-mul, eq-or-lt_of_le, mul_assoc, mul-le-mul_right, one-le-pow, pow-succ'}
use Rattle.std.proofs.lemmas.Bool.{leb-false}
use Rattle.std.proofs.lemmas.Nat.{pow-add}
use Rattle.map_picture.specs.Scale.{bar_for, cut_down, grain_for, step_for}
use Rattle.map_picture.specs.Laws.{IsScaleOf, ScaleIsTold}

-- the step is one of the places, and where it isn't the first one the next greater step is longer
record IsStepOf (length places step : ℕ) : Type 0 where
  within : step ≤ places
  next : step < places → length < 10 ^ suc step

is_step : (length places : ℕ) → IsStepOf length places (step_for length places)
unfolding step_for
is_step length zero = record { within = omega arith; next = λ lt. absurd (omega (arith, lt)) }
is_step length (suc places) = go (nat_le (10 ^ suc places) length) refl (is_step length places)
  where
    go : (b : Bool) → nat_le (10 ^ suc places) length ≡ b → IsStepOf length places (step_for length places) → IsStepOf length (suc places) (if b then suc places else step_for length places)
    go true e h = record { within = omega arith; next = λ lt. absurd (omega (arith, lt)) }
    go false e h =
        let lt : length < 10 ^ suc places = leb-false (10 ^ suc places) length e in
        let w = h.within in
        record {
          within = omega (arith, w);
          next = λ _. elim (eq-or-lt_of_le w) as (λ _. length < 10 ^ suc (step_for length places)) [
            | inl same ↦ subst (λ (k : ℕ). length < 10 ^ suc k) (sym same) lt
            | inr less ↦ h.next less
          ];
        }

-- less than ten steps fit in where ten of them are longer
few : (length step steps : ℕ) → steps ≤ length / 10 ^ step → 1 ≤ 10 ^ step → length < 10 ^ suc step → steps < 10
few length step steps fewer some lt =
    let below : length < 10 * 10 ^ step = subst (λ (n : ℕ). length < n) (pow-succ' 10 step) lt in
    let less : length / 10 ^ step < 10 = (div-lt_iff_lt-mul some).1 below in
    omega (arith, fewer, less)

pub scale_told : ScaleIsTold
scale_told width places =
    let quarter = width / 4 in
    let step = step_for quarter places in
    let h = is_step quarter places in
    let w = h.within in
    let steps = cut_down (quarter / 10 ^ step) in
    let some : 1 ≤ 10 ^ step = one-le-pow step 10 (omega arith) in
    let fewer : steps ≤ quarter / 10 ^ step = div-mul-le_self (quarter / 10 ^ step) (grain_for (quarter / 10 ^ step)) in
    let sum : step + (places - step) ≡ places = omega (arith, w) in
    let both : 10 ^ step * 10 ^ (places - step) ≡ 10 ^ places = sym (pow-add 10 step (places - step)) ∙ ap (λ (n : ℕ). 10 ^ n) sum in
    let long : steps * 10 ^ step ≤ quarter / 10 ^ step * 10 ^ step = mul-le-mul_right (10 ^ step) fewer in
    let whole : quarter / 10 ^ step * 10 ^ step ≤ quarter = div-mul-le_self quarter (10 ^ step) in
    record {
      exact = mul_assoc steps (10 ^ step) (10 ^ (places - step)) ∙ ap (λ (n : ℕ). steps * n) both;
      short = omega (arith, long, whole);
      digit = elim (eq-or-lt_of_le w) as (λ _. (places - step ≡ 0) ⊎ (steps < 10)) [
        | inl same ↦ inl (omega (arith, same))
        | inr less ↦ inr (few quarter step steps fewer some (h.next less))
      ];
    }
