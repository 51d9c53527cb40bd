use Rattle.wad_dir.proofs.WadRewrite.Reading.{rewritten_is_read}
use Rattle.wad_dir.proofs.wad_rewrite.laws.rewritten_is_read.Goals as goal

pub returns : goal.returns
returns c = rewritten_is_read
