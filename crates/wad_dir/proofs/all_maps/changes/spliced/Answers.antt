use Rattle.std.proofs.Common.{arith}
use Rattle.wad_dir.proofs.AllMaps.Splicing.{rest_seen}
use Rattle.wad_dir.proofs.all_maps.changes.spliced.Goals as goal

pub returns : goal.returns
returns c = grind (arith, rest_seen)
