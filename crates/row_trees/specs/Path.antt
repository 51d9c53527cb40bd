-- The portals of a walk's path, each with an end of the one before.
use Rattle.std.specs.Prelude.{◌≡◌, ◌⊎◌, List, []}
use Rattle.sight_names.specs.declared.names.Pt.{Pt}
use Rattle.sight_names.specs.Splitting.{EndPoints}
use Rattle.stab_hull.specs.Sleeves.{HasLastLeft, HasLastRight}

-- a portal with these ends has one of the last portal, if there is a last one
abbrev pub HasEndOfLast : List EndPoints → Pt → Pt → Type 0
HasEndOfLast es left right = (es ≡ []) ⊎ (HasLastLeft es left ⊎ HasLastRight es right)
