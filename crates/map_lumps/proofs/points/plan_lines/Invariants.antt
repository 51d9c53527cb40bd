use Rattle.std.proofs.Common.{◌≡◌, map, option_map, take, length}
use Rattle.sight_names.specs.Map.{looked_up}
use Rattle.map_lumps.specs.Records.{as_map_line, EndsBelow}
use Rattle.map_lumps.proofs.points.plan_lines.Given as goal

abbrev pub invariant-loop-line : goal.invariant-loop-line
invariant-loop-line l = record {
  same : map (option_map (looked_up l.points)) l.plan.items ≡ map (option_map as_map_line) (take l.line-index l.lines);
  within : EndsBelow (length l.points) l.plan.items;
}
