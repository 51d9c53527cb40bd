use Rattle.std.proofs.Common.{ℕ, Option, sym, subst, ◌∙◌}
use Rattle.cert_checker.specs.TreeJudge.Path.{EntersThrough}
use Rattle.cert_checker.proofs.TreeJudge.Entering.{deeper, enters_by_left, enters_by_next}
use Rattle.cert_checker.proofs.tree_judge.stepping.enter_step.Goals as goal

pub returns-in_default-clause-enters : goal.returns-in_default-clause-enters
returns-in_default-clause-enters c = λ xs x is. enters_by_next xs c.args.roots.now.roots.items c.args.source c.args.path.now c.args.waits.now c.let_wait.new.waits c.args.follow.now c.let_wait.new.follow x c.next_place.new.follow _
    c.requires.path (c.let_wait.ensures.waits xs x is) (c.in_default.ensures ∙ is.left c.args.source c.ranges.source.fits) c.next_place.ensures.next

pub returns-clause-enters : goal.returns-clause-enters
returns-clause-enters c = λ xs x is. subst (λ (o : Option ℕ). EntersThrough xs c.args.roots.now.roots.items c.args.source c.args.path.now c.args.waits.now c.args.follow.now x c.let_wait.new.waits (deeper c.let_wait.new.follow c.let_wait.new.follow.waiting) o) (sym c.place_of.ensures)
    (enters_by_left xs c.args.roots.now.roots.items c.args.source c.args.path.now c.args.waits.now c.let_wait.new.waits c.args.follow.now c.let_wait.new.follow x c.in-Some.left c.requires.path (c.let_wait.ensures.waits xs x is) (c.in-Some.ensures ∙ is.left c.args.source c.ranges.source.fits))
