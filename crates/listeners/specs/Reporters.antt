-- The two listeners of a report, as contracts see them: one writes the lines of set and listed pairs, the other the totals.
use Rattle.std.specs.Prelude.{List, [], ◌∷◌, None}
use Rattle.listeners.specs.declared.finding.Finding.{Finding}
use Rattle.listeners.specs.Listening.{ListenerState}
use Rattle.listeners.specs.Texts.{finding_lines, totals_line}

abbrev pub lines_state : List Finding → ListenerState
lines_state heard = record { heard = heard; writes = finding_lines; quota = None }

abbrev pub totals_state : List Finding → ListenerState
totals_state heard = record { heard = heard; writes = totals_line; quota = None }

-- both, with nothing heard
abbrev pub new_reporters : List ListenerState
new_reporters = lines_state [] ∷ totals_state [] ∷ []
