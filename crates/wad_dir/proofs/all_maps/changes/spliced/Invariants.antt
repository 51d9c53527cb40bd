use Rattle.std.proofs.Common.{◌≡◌, ◌++◌, drop, length}
use Rattle.wad_dir.specs.Map.{entry_names}
use Rattle.wad_dir.specs.WadRewrite.Lumps.{views}
use Rattle.wad_dir.specs.AllMaps.Spliced.{AreSpaced, spliced}
use Rattle.wad_dir.proofs.all_maps.changes.spliced.Given as goal

abbrev pub invariant-loop-change : goal.invariant-loop-change
invariant-loop-change l = record {
  spaced : AreSpaced (entry_names l.entries) (length l.lumps) l.done (drop l.change-index l.changes);
  lumps : views l.out.items ++ spliced (entry_names l.entries) (views l.lumps) l.done (drop l.change-index l.changes) ≡ spliced (entry_names l.entries) (views l.lumps) 0 l.changes;
}
