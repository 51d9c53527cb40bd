-- The parts of a text by the first of them.
use Rattle.std.proofs.Common.{◌≡◌, ℕ, suc, ◌-◌, List, [], Some, None, Ok, Err, refl}
use Rattle.udmf_text.specs.Parts.{StageBytes, FoundBytes, part_at}
use Rattle.udmf_text.specs.Told.{told_first, told_in}

pub told_goes : (total k : ℕ) (stage : StageBytes) (rest : List ℕ) (f : FoundBytes) → part_at stage rest ≡ Ok (Some f) → told_in total (suc k) stage rest ≡ told_first total f (told_in total k f.stage f.rest)
told_goes total k stage rest f found = rw (found, told_in) refl

pub told_ends : (total k : ℕ) (stage : StageBytes) (rest : List ℕ) → part_at stage rest ≡ Ok None → told_in total (suc k) stage rest ≡ record { parts = []; fault = None }
told_ends total k stage rest found = rw (found, told_in) refl

pub told_breaks : (total k : ℕ) (stage : StageBytes) (rest : List ℕ) (left : ℕ) → part_at stage rest ≡ Err left → told_in total (suc k) stage rest ≡ record { parts = []; fault = Some (total - left) }
told_breaks total k stage rest left found = rw (found, told_in) refl
