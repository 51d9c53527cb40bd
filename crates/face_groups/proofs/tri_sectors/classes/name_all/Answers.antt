use Rattle.std.proofs.Common.{arith, refl}
use Rattle.face_groups.proofs.TriSectors.Forests.{none_is_named, named_more, all_named}
use Rattle.face_groups.proofs.tri_sectors.classes.name_all.Goals as goal

pub loop-k-init : goal.loop-k-init
loop-k-init c = none_is_named c.args.parents.now

pub loop-k-preserved : goal.loop-k-preserved
loop-k-preserved c = named_more c.args.parents.now c.requires c.loop-k.k _ _ c.loop-k.parents (let f = c.loop-k-test.true in omega (arith, f)) refl refl c.loop-k.invariant

pub returns : goal.returns
returns c = all_named c.args.parents.now c.loop-k.k c.loop-k.parents (let f = c.loop-k-test.false in omega (arith, f)) c.loop-k.invariant
