use Rattle.face_groups.proofs.TriSectors.ComponentLemmas.{ArePassed}
use Rattle.face_groups.proofs.tri_sectors.connected.components.Given as goal

abbrev pub invariant-loop-line : goal.invariant-loop-line
invariant-loop-line l = ArePassed l.plan l.line-index l.parents.items
