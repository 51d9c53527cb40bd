use Rattle.std.proofs.Common.{◌≡◌, ◌+◌, ◌*◌, take, length}
use Rattle.wad_dir.specs.Print.{body_len}
use Rattle.wad_dir.specs.WadRewrite.Lumps.{views}
use Rattle.wad_dir.proofs.wad_rewrite.rewrite.len_of.Given as goal

abbrev pub invariant-loop-lump : goal.invariant-loop-lump
invariant-loop-lump l = l.len ≡ 12 + body_len (views (take l.lump-index l.lumps)) + 16 * length l.lumps
