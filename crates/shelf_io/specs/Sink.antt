-- What a sink shows.
use Rattle.std.specs.Prelude.{◌≡◌, ℕ, List, ◌++◌, take, Option}
use Rattle.std.specs.Option.{option_map}

-- the bytes that it holds, where it tells them, and how often a put failed
pub record SinkState : Type 0 where
  pub held : Option (List ℕ)
  pub faults : ℕ

-- a front of the bytes was added
abbrev pub HasFront : Option (List ℕ) → Option (List ℕ) → List ℕ → Type 0
HasFront old new bytes = (k : ℕ) × (new ≡ option_map (λ held. held ++ take k bytes) old)
