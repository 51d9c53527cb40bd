use Rattle.std.proofs.Common.{◌≡◌, map, option_map}
use Rattle.sight_names.specs.Lumps.{linedef, numbers_below}
use Rattle.map_lumps.specs.Records.{as_map_line}
use Rattle.map_lumps.proofs.records.placed_lines.Given as goal

abbrev pub invariant-loop-k : goal.invariant-loop-k
invariant-loop-k l = map (option_map as_map_line) l.lines.items ≡ map (linedef l.format l.linedefs l.sidedefs l.vertexes) (numbers_below l.k)
