use Rattle.std.proofs.Common.{◌≡◌, take, map}
use Rattle.wad_dir.specs.Wad.{lump_under}
use Rattle.wad_dir.specs.WadRewrite.Lumps.{views}
use Rattle.wad_dir.proofs.wad_rewrite.rewrite.lumps_of.Given as goal

abbrev pub invariant-loop-entry : goal.invariant-loop-entry
invariant-loop-entry l = views l.lumps.items ≡ map (lump_under l.bytes) (take l.entry-index l.entries)
