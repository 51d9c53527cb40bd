use Rattle.std.proofs.Common.{List, length, sym, subst, arith}
use Rattle.wad_dir.specs.Map.{entry_names}
use Rattle.wad_dir.specs.declared.wad_rewrite.lumps.OutputLump.{OutputLump}
use Rattle.wad_dir.specs.AllMaps.Spliced.{AreSpaced}
use Rattle.wad_dir.proofs.AllMaps.Splicing.{file_changed, file_spaced}
use Rattle.wad_dir.proofs.all_maps.changes.with_rejects.Goals as goal

pub spliced-requires-clause-spaced : goal.spliced-requires-clause-spaced
spliced-requires-clause-spaced c =
    subst (λ (xs : List OutputLump). AreSpaced (entry_names c.as_slice-entries.result.now) (length xs) 0 c.args.changes.now) (sym c.deref.ensures.value)
    (file_spaced c.args.bytes.now c.args.wad.now c.as_slice-entries.result.now c.in_ok-lumps.lumps.items c.args.changes.now c.as_slice-entries.ensures c.in_ok-lumps.ensures c.requires.among)

pub returns : goal.returns
returns c = grind (arith, file_changed)
