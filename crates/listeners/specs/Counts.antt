-- How many findings of a list are of each kind.
use Rattle.std.specs.Prelude.{◌≡◌, ℕ, ◌+◌, List, length}
use Rattle.listeners.specs.declared.finding.Finding.{Finding}
use Rattle.listeners.specs.Listening.{clears_in, lists_in, sets_in}

pub record AreCounts (heard : List Finding) (set clear listed : ℕ) : Type 0 where
  pub sets : set ≡ sets_in heard
  pub clears : clear ≡ clears_in heard
  pub lists : listed ≡ lists_in heard
  pub all : set + clear + listed ≡ length heard
