-- Whether a map that is refused stops all others.
use Rattle.std.specs.Prelude.{⊤}
use Rattle.refused_maps.specs.declared.Refused.{Refused}
use Rattle.refused_maps.specs.declared.Refused.TheVariants as refused

-- nothing is written where some map is refused
abbrev pub Stops : Refused → Type 0
Stops refused.Stop = ⊤
Stops other = ⊥
