-- What the two listeners of a report write of the findings that they heard.
use Rattle.std.proofs.Common.{◌≡◌, ◌∙◌, ℕ, List, [], ◌∷◌, ◌++◌, refl, ap}
use Rattle.std.specs.List.{AllZip}
use Rattle.std.proofs.lemmas.List.{append-nil}
use Rattle.listeners.specs.declared.finding.Finding.{Finding}
use Rattle.listeners.specs.Listening.{ListenerState, listener_text}
use Rattle.listeners.specs.Reporters.{new_reporters}
use Rattle.listeners.specs.Texts.{finding_lines, totals_line}
use Rattle.listeners.specs.Told.{AreFindingsTold, HeardMore, texts}

-- its text is what it writes of all that it heard
written_by : (fs heard : List Finding) (writes : List Finding → List ℕ) (s : ListenerState) → s.heard ≡ heard ++ fs → s.writes ≡ writes → listener_text s ≡ writes (heard ++ fs)
written_by fs heard writes s h w = ap (λ (f : List Finding → List ℕ). f s.heard) w ∙ ap writes h

both : (fs : List Finding) (after : List ListenerState) → AllZip (HeardMore fs) new_reporters after → texts after ≡ finding_lines fs ++ totals_line fs
both fs [] h = absurd h
both fs (a ∷ []) h = absurd h.1
both fs (a ∷ b ∷ []) h =
    ap (λ (t : List ℕ). t ++ (listener_text b ++ [])) (written_by fs [] finding_lines a h.0.heard h.0.writes)
    ∙ ap (λ (t : List ℕ). finding_lines fs ++ t) (append-nil (listener_text b) ∙ written_by fs [] totals_line b h.1.0.heard h.1.0.writes)
both fs (a ∷ b ∷ c ∷ rest) h = absurd h.1.1

-- the texts of both that heard all findings
pub texts_of_both : (fs : List Finding) (after : List ListenerState) (report : List ℕ) → AreFindingsTold fs new_reporters after report → texts after ≡ finding_lines fs ++ totals_line fs
texts_of_both fs after report told = both fs after told.left

-- neither is ever done, so these texts are the report
pub report_of_both : (fs : List Finding) (after : List ListenerState) (report : List ℕ) → AreFindingsTold fs new_reporters after report → report ≡ texts after
report_of_both fs after report told = told.report_is ∙ ap (λ (t : List ℕ). t ++ texts after) (told.none refl)
