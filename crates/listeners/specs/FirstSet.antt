-- A listener that is done after so many set pairs, as contracts see it.
use Rattle.std.specs.Prelude.{ℕ, List, Some}
use Rattle.listeners.specs.declared.finding.Finding.{Finding}
use Rattle.listeners.specs.Listening.{ListenerState}
use Rattle.listeners.specs.Texts.{set_lines}

pub record FirstSetParts : Type 0 where
  pub heard : List Finding
  pub quota : ℕ

abbrev pub state_of : FirstSetParts → ListenerState
state_of f = record { heard = f.heard; writes = set_lines; quota = Some f.quota }
