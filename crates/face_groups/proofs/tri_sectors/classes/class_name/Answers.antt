use Rattle.std.proofs.Common.{refl}
use Rattle.face_groups.proofs.TriSectors.Forests.{way_begins, way_goes_on, parent_there, way_shortens, way_ends}
use Rattle.face_groups.proofs.tri_sectors.classes.class_name.Goals as goal

pub loop-parents-init : goal.loop-parents-init
loop-parents-init c = way_begins c.args.parents.now c.args.k c.requires.forest c.requires.at

pub loop-parents-preserved : goal.loop-parents-preserved
loop-parents-preserved c = way_goes_on c.args.parents.now c.loop-parents.parents c.args.k c.loop-parents.at _ _ refl refl c.loop-parents.invariant

pub returns-clause-name : goal.returns-clause-name
returns-clause-name c = way_ends c.args.parents.now c.loop-parents.parents c.args.k c.loop-parents.at c.loop-parents-test.false c.loop-parents.invariant

pub bounds-parents-parents : goal.bounds-parents-parents
bounds-parents-parents c = parent_there c.args.parents.now c.loop-parents.parents c.args.k c.loop-parents.at c.loop-parents.invariant

pub loop-parents-smaller : goal.loop-parents-smaller
loop-parents-smaller c = way_shortens c.args.parents.now c.loop-parents.parents c.args.k c.loop-parents.at c.loop-parents-test.true c.loop-parents.invariant
