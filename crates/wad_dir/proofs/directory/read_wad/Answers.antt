use Rattle.wad_dir.proofs.Under.{reads_wad, names_read}
use Rattle.wad_dir.proofs.directory.read_wad.Goals as goal

pub returns-clause-wad : goal.returns-clause-wad
returns-clause-wad c = reads_wad c.args.bytes.now c.read_directory.result c.read_directory.ensures.read

pub returns-clause-names : goal.returns-clause-names
returns-clause-names c = names_read c.args.bytes.now c.read_directory.result
