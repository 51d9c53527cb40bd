use Rattle.std.proofs.Common.{option_map}
use Rattle.sight_names.specs.Lumps.{linedef}
use Rattle.map_lumps.specs.Records.{as_map_line}
use Rattle.map_lumps.proofs.Reading.{mapped_more}
use Rattle.map_lumps.proofs.records.placed_lines.Goals as goal

pub loop-k-preserved : goal.loop-k-preserved
loop-k-preserved c = rw c.in_ok-push.ensures.items (mapped_more (option_map as_map_line) (linedef c.args.format c.args.linedefs.now c.args.sidedefs.now c.args.vertexes.now) c.loop-k.lines.items c.placed_line.result c.loop-k.k c.loop-k.invariant c.placed_line.ensures)
