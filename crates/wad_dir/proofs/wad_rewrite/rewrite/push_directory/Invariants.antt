use Rattle.std.proofs.Common.{◌≡◌, ◌++◌, ◌+◌, ◌<◌, ◌^◌, drop}
use Rattle.wad_dir.specs.Print.{body_len}
use Rattle.wad_dir.specs.Print.{directory_from}
use Rattle.wad_dir.specs.WadRewrite.Lumps.{views}
use Rattle.wad_dir.proofs.wad_rewrite.rewrite.push_directory.Given as goal

abbrev pub invariant-loop-lump : goal.invariant-loop-lump
invariant-loop-lump l = record {
  written : l.out.items ++ directory_from l.at (views (drop l.lump-index l.lumps)) ≡ l.fn.out.items ++ directory_from 12 (views l.lumps);
  room : l.at + body_len (views (drop l.lump-index l.lumps)) < 2 ^ 31;
}
