use Rattle.std.proofs.Common.{ℕ, Option, subst}
use Rattle.cert_checker.specs.TreeJudge.Path.{TakesNext}
use Rattle.cert_checker.proofs.TreeJudge.Following.{stands, at_first}
use Rattle.cert_checker.proofs.tree_judge.trees.start.Goals as goal

pub returns-clause-stands : goal.returns-clause-stands
returns-clause-stands c = stands c.args.terrain.now.roots.now.roots.items c.args.path.now c.args.waits.now c.next_asked-follow.new.follow _ c.next_asked-follow.result
    (subst (λ (o : Option ℕ). TakesNext c.args.terrain.now.roots.now.roots.items c.args.path.now c.args.waits.now (at_first o) c.next_asked-follow.new.follow c.next_asked-follow.result) c.first_of.ensures c.next_asked-follow.ensures.next)
