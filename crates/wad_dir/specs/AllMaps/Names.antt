-- The name of a map as text.
use Rattle.std.specs.Prelude.{ℕ, ◌==◌, List, [], ◌∷◌, if◌then◌else◌}

-- the bytes of a name up to its first NUL
abbrev pub name_before_nul : List ℕ → List ℕ
name_before_nul [] = []
name_before_nul (c ∷ cs) = if c == 0 then [] else c ∷ name_before_nul cs
