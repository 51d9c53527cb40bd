use Rattle.std.proofs.Common.{arith}
use Rattle.face_groups.proofs.TriSectors.Forests.{hung_is_forest, hung}
use Rattle.face_groups.proofs.tri_sectors.classes.hang.Goals as goal

pub returns-clause-forest : goal.returns-clause-forest
returns-clause-forest c = hung_is_forest c.args.parents.now c.requires.forest c.args.from c.args.to (let l = c.requires.less in omega (arith, l))

pub returns-clause-classes : goal.returns-clause-classes
returns-clause-classes c = hung c.args.parents.now c.requires.forest c.args.from c.args.to c.requires.from.0 c.requires.less c.requires.from.1 c.requires.to
