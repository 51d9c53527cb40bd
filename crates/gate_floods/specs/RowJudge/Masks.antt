-- The masks of gates, by half-edges, as plain lists.
use Rattle.std.specs.Prelude.{ℕ, List, Option}
use Rattle.gate_floods.specs.declared.row_judge.masks.Masks.{Masks}

-- rows of so many words each; and for each half-edge that is a gate where its row begins
pub record MaskRows : Type 0 where
  pub width : ℕ
  pub places : List (Option ℕ)
  pub words : List ℕ

abbrev pub rows_of : Masks → MaskRows
rows_of ms = record { width = ms.width; places = ms.places.now; words = ms.words.now }
