use Rattle.std.proofs.Common.{◌≡◌, filter, take}
use Rattle.wad_dir.specs.Map.{has_name}
use Rattle.sight_run.proofs.asked.asked_among.Given as goal

abbrev pub invariant-loop-map : goal.invariant-loop-map
invariant-loop-map l = l.asked.items ≡ filter (λ map. has_name map l.only) (take l.map-index l.maps)
