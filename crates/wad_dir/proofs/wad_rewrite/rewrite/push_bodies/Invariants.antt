use Rattle.std.proofs.Common.{◌≡◌, ◌++◌, drop}
use Rattle.wad_dir.specs.Print.{body}
use Rattle.wad_dir.specs.WadRewrite.Lumps.{views}
use Rattle.wad_dir.proofs.wad_rewrite.rewrite.push_bodies.Given as goal

abbrev pub invariant-loop-lump : goal.invariant-loop-lump
invariant-loop-lump l = l.out.items ++ body (views (drop l.lump-index l.lumps)) ≡ l.fn.out.items ++ body (views l.lumps)
