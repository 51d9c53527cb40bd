use Rattle.wad_dir.proofs.Printed.{prints_its_length}
use Rattle.wad_dir.proofs.laws.prints_its_length.Goals as goal

pub returns : goal.returns
returns c = prints_its_length
