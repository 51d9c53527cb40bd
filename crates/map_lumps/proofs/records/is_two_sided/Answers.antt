use Rattle.map_lumps.proofs.Reading.{is_flag_set}
use Rattle.map_lumps.proofs.records.is_two_sided.Goals as goal

pub returns : goal.returns
returns c = is_flag_set c.args.flags
