use Rattle.wad_dir.proofs.AllMaps.Texts.{word_is_text}
use Rattle.wad_dir.proofs.all_maps.names.text_of.Goals as goal

pub unreachable-requires : goal.unreachable-requires
unreachable-requires c = c.in-Err.ensures.cases.0 (rw c.before_nul.ensures (word_is_text c.args.name.now c.requires))
