use Rattle.std.proofs.Common.{◌≡◌, ◌++◌, drop}
use Rattle.sight_names.specs.Map.{map_of}
use Rattle.map_picture.specs.Bytes.{stop_texts}
use Rattle.map_picture.proofs.pair.push_each_stop.Given as goal

abbrev pub invariant-loop-stop : goal.invariant-loop-stop
invariant-loop-stop l = l.out.items ++ stop_texts l.frame (map_of l.plan) (drop l.stop-index l.stops) ≡ l.fn.out.items ++ stop_texts l.frame (map_of l.plan) l.stops
