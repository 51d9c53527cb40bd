-- That a coordinate is the number that its word spells, and has no decimal place that it could do without.
use Rattle.std.specs.Prelude.{◌≡◌, ◌≢◌, ℕ, suc, ◌*◌, ◌^◌, ◌%◌, ◌⊎◌, Bool, if◌then◌else◌, ℤ, pos, negsuc, neg_ℤ, nat_abs}
use Rattle.udmf_text.specs.declared.text_numbers.decimal.Decimal.{Decimal}
use Rattle.udmf_map.specs.declared.values.Coordinate.TheVariants.{At}
use Rattle.udmf_map.specs.Values.{coordinate_of}

-- a power of ten, as a factor of the digits and of the units
abbrev pub factor_above : ℤ → ℕ
factor_above (pos k) = 10 ^ k
factor_above (negsuc k) = 1

abbrev pub factor_below : ℤ → ℕ
factor_below (pos k) = 1
factor_below (negsuc k) = 10 ^ suc k

-- so many units of so many decimal places are these digits times that power of ten, on that side of 0; and the last place isn't zero
pub record IsValueExact (negative : Bool) (m : ℕ) (scale units : ℤ) (places : ℕ) : Type 0 where
  pub value : nat_abs units * factor_below scale ≡ m * factor_above scale * 10 ^ places
  pub side : units ≡ (if negative then neg_ℤ (pos (nat_abs units)) else pos (nat_abs units))
  pub last : (places ≡ 0) ⊎ (nat_abs units % 10 ≢ 0)

abbrev pub CoordinatesAreExact : Type 0
CoordinatesAreExact = (d : Decimal) (units : ℤ) (places : ℕ) → coordinate_of d ≡ At units places → IsValueExact d.negative d.mantissa d.scale units places
