use Rattle.portal_walk.proofs.Answering.{whole_after}
use Rattle.portal_walk.proofs.walker.Walker.next.Goals as goal

pub invariant_of-self : goal.invariant_of-self
invariant_of-self c = whole_after c.self.inside.walk c.next.new.self c.next.result c.next.ensures.walk c.next.ensures.step c.next.ensures.memory c.self.invariant
