use Rattle.std.proofs.Common.{IfOk, subst}
use Rattle.portal_walk.specs.Walk.{WalkParts, Goes}
use Rattle.portal_walk.proofs.Answering.{whole_gone}
use Rattle.portal_walk.proofs.walker.Walker.go.Goals as goal

pub invariant_of-self : goal.invariant_of-self
invariant_of-self c = whole_gone c.self.inside.walk c.go.new.self c.go.result c.go.ensures.walk c.go.ensures.went c.go.ensures.memory c.self.invariant

pub returns-clause-went : goal.returns-clause-went
returns-clause-went c = subst (λ (w : WalkParts). IfOk c.go.result (Goes w c.go.new.self)) c.self.view_is c.go.ensures.went
