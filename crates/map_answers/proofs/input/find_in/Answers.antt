use Rattle.std.proofs.Common.{◌≡◌, ℕ, List, subst}
use Rattle.wad_dir.specs.Wad.{file_of}
use Rattle.map_answers.specs.Noise.{dampers_at}
use Rattle.map_answers.proofs.input.find_in.Goals as goal

pub returns-clause-dampers : goal.returns-clause-dampers
returns-clause-dampers c =
    record { are = subst (λ (bytes : List ℕ). c.in_ok-plan.dampers ≡ dampers_at (file_of bytes c.in_ok-wad.wad) c.in_ok-spot.spot) c.deref-2.ensures.value c.in_ok-plan.ensures.dampers; each = c.in_ok-plan.ensures.each }
