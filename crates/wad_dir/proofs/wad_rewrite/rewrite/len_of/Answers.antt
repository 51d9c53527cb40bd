use Rattle.std.proofs.Common.{arith, ◌≤◌, ◌^◌}
use Rattle.std.proofs.lemmas.Bool.{le-leb}
use Rattle.std.proofs.lemmas.List.{length-map}
use Rattle.wad_dir.specs.Print.{printed_len}
use Rattle.wad_dir.specs.WadRewrite.Lumps.{view, views}
use Rattle.wad_dir.proofs.WadRewrite.LumpsLemmas.{body_len-take}
use Rattle.wad_dir.proofs.wad_rewrite.rewrite.len_of.Goals as goal

pub returns-then-len-ge-MAX_LEN-clause-within : goal.returns-then-len-ge-MAX_LEN-clause-within
returns-then-len-ge-MAX_LEN-clause-within c =
    let all : 2 ^ 31 ≤ printed_len (views c.args.lumps.now) = omega (arith, length-map c.args.lumps.now view, body_len-take c.loop-lump.lump-index c.args.lumps.now) in
    rw (le-leb (2 ^ 31) c.loop-lump.len c.if-len-ge-MAX_LEN.true, le-leb (2 ^ 31) (printed_len (views c.args.lumps.now)) all)
