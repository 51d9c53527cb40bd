use Rattle.std.proofs.Common.{◌≡◌}
use Rattle.map_lumps.specs.HexenLumps.Turned.{hexen_first}
use Rattle.map_lumps.proofs.hexen_lumps.turned.to_hexen.Given as goal

abbrev pub invariant-loop-k : goal.invariant-loop-k
invariant-loop-k l = l.out.items ≡ hexen_first l.linedefs l.k
