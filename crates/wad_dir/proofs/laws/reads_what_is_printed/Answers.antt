use Rattle.wad_dir.proofs.Printed.{reads_what_is_printed}
use Rattle.wad_dir.proofs.laws.reads_what_is_printed.Goals as goal

pub returns : goal.returns
returns c = reads_what_is_printed
