use Rattle.std.proofs.Common.{refl}
use Rattle.walk_tests.proofs.grounds.groups_of.Goals as goal

pub map_of_groups-requires : goal.map_of_groups-requires
map_of_groups-requires c = record { audited = c.in-Ok.ensures.sound.0 refl }
