use Rattle.std.proofs.Common.{ap, ◌∙◌, ◌+◌, arith}
use Rattle.std.specs.List.{insert}
use Rattle.wad_dir.specs.Wad.{WadLump}
use Rattle.wad_dir.specs.WadRewrite.Lumps.{views}
use Rattle.wad_dir.proofs.WadRewrite.LumpsLemmas.{views-set, views-insert}
use Rattle.wad_dir.proofs.wad_rewrite.rewrite.replace_reject.Goals as goal

pub returns-in-Some : goal.returns-in-Some
returns-in-Some c = grind (arith, views-set)

pub returns-in_ok-insert-in-None : goal.returns-in_ok-insert-in-None
returns-in_ok-insert-in-None c =
    rw (c.in-None.is, c.in_ok-insert-in-None.ensures.items) (views-insert c.args.lumps.now.items (c.args.spot.now.sectors + 1) c.reject_lump.result ∙ ap (λ (lump : WadLump). insert (views c.args.lumps.now.items) (c.args.spot.now.sectors + 1) lump) c.reject_lump.ensures)
