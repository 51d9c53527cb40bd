-- All parts of a text, in order, up to the first fault.
use Rattle.std.specs.Prelude.{ℕ, zero, suc, ◌+◌, ◌-◌, List, [], ◌∷◌, length, Option, Some, None, Ok, Err}
use Rattle.udmf_text.specs.Parts.{PartBytes, StageBytes, Outside, FoundBytes, part_at}

-- a part, and at which byte of the text its token begins
pub record PlacedPart : Type 0 where
  pub at : ℕ
  pub part : PartBytes

-- the parts of a text in order; and where it breaks off, the byte of the first fault
pub record Told : Type 0 where
  pub parts : List PlacedPart
  pub fault : Option ℕ

abbrev pub told_first : ℕ → FoundBytes → Told → Told
told_first total f t = record { parts = record { at = total - f.left; part = f.part } ∷ t.parts; fault = t.fault }

-- what is left of a text of so many bytes, for one who stands there; at most so many parts are told
abbrev pub told_in : ℕ → ℕ → StageBytes → List ℕ → Told
told_in total zero stage rest = record { parts = []; fault = Some (total - length rest) }
told_in total (suc n) stage rest = elim (part_at stage rest) [
  | Ok found ↦ elim found [
    | None ↦ record { parts = []; fault = None }
    | Some f ↦ told_first total f (told_in total n f.stage f.rest)
  ]
  | Err left ↦ record { parts = []; fault = Some (total - left) }
]

-- each part takes a byte at least, so none is left out
abbrev pub told_of_text : List ℕ → Told
told_of_text text = told_in (length text) (length text + 1) Outside text
