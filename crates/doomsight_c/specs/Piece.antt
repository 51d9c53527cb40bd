-- A piece of some bytes in a buffer.
use Rattle.std.specs.Prelude.{◌≡◌, ◌-◌, ℕ, List, take, drop, min, length}

-- the bytes from the offset on stand at the front of the buffer, as many as there are and as there is room for; what is behind them stays
pub record CopiesFrom (bytes : List ℕ) (offset : ℕ) (before after : List ℕ) (count : ℕ) : Type 0 where
  pub many : count ≡ min (length before) (length bytes - offset)
  pub piece : take count after ≡ take count (drop offset bytes)
  pub rest : drop count after ≡ drop count before
