use Rattle.face_groups.proofs.TriSectors.GoodLabels.{mixed_answer}
use Rattle.face_groups.proofs.tri_sectors.labelling.label_sides.Goals as goal

pub returns-in-Some : goal.returns-in-Some
returns-in-Some c = mixed_answer c.args.sides.now c.in_ok-first.field-0 c.in-Some.first c.in-Some.second _ _ c.in-Some.is c.in_ok-first.ensures
