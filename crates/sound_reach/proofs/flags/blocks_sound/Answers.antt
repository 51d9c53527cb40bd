use Rattle.std.proofs.Common.{◌≡◌, ℕ, zero, suc, ◌<◌, ◌*◌, ◌==◌, not, refl, ap, ◌∙◌, arith}
use Rattle.std.specs.Int.{bit_at}
use Rattle.std.proofs.lemmas.Nat.Bits.{and_pow, bit_at-lt}
use Rattle.sound_reach.proofs.flags.blocks_sound.Goals as goal

pub returns : goal.returns
returns c = ap (λ x. not (x == 0)) (and_pow c.args.flags 6) ∙ bit (bit_at c.args.flags 6) (bit_at-lt c.args.flags 6)
  where
    bit : (b : ℕ) → b < 2 → not (b * 64 == 0) ≡ (b == 1)
    bit zero h = refl
    bit (suc zero) h = refl
    bit (suc (suc b)) h = absurd (omega (arith, h))
