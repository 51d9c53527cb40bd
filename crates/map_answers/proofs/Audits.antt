-- The answer of `audit`, the only one.
use Rattle.std.proofs.Common.{◌≡◌, ℕ, List, Ok, sym, ap, ◌∙◌}
use Rattle.std.specs.Prelude.{⊤}
use Rattle.sight_names.specs.Map.{map_of}
use Rattle.sight_names.specs.Plan.{IsPlan, PlanParts}
use Rattle.map_answers.specs.SightStatus.Answer.{GivesCalled, only_line}
use Rattle.map_answers.specs.Audit.{AuditCalls, SoundCall, sound_line}
use Rattle.map_answers.specs.Groups.{IsMapWithGroups, MapGroups}
use Rattle.map_answers.specs.Sound.{HasSoundLines}
use Rattle.map_answers.proofs.Closed.{gives_called}

pub gives_line : (p : PlanParts) (g : MapGroups) (line : List ℕ) → IsPlan p → HasSoundLines (map_of p) → IsMapWithGroups (map_of p) g → line ≡ sound_line (map_of p) g.labels → GivesCalled ⊤ (AuditCalls (map_of p)) (Ok (only_line line))
gives_line p g line plan lines over is =
    let called : SoundCall (map_of p) g (Ok (only_line line)) = ap (λ (l : List ℕ). Ok (only_line l)) is in
    gives_called p plan (SoundCall (map_of p)) g (Ok (only_line line)) lines over called (λ s k. k ∙ sym called) tt
