use Rattle.portal_walk.specs.Walk.{SameWalk, Rests, tries_left}
use Rattle.portal_walk.proofs.walk.Walk.come.Given as goal

abbrev pub invariant-loop-self : goal.invariant-loop-self
invariant-loop-self l = record {
  walk : SameWalk l.fn.self l.self;
  rests : Rests l.fn.self l.self;
}

abbrev pub decreases-loop-self : goal.decreases-loop-self
decreases-loop-self l = tries_left l.self
