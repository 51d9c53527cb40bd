use Rattle.std.proofs.Common.{refl, subst}
use Rattle.std.specs.Option.{IfSome}
use Rattle.cert_checker.specs.Rays.{IsRayFollowed}
use Rattle.cert_checker.proofs.Following.{goes_on}
use Rattle.cert_checker.proofs.rays.follow_on.Goals as goal

pub returns-in-Some-follow-clause-leads : goal.returns-in-Some-follow-clause-leads
returns-in-Some-follow-clause-leads c = goes_on c.args.plan.now.points c.args.edges.now c.in-Some.followed c.args.ray.now c.args.start
    (subst (λ before. IfSome before (IsRayFollowed c.args.plan.now.points c.args.edges.now)) c.in-Some.is c.requires.before) (c.if-goes_along.ensures refl)
    c.args.left c.args.right c.in-Some-follow.ensures.leads

pub returns-in-Some-follow-clause-followed : goal.returns-in-Some-follow-clause-followed
returns-in-Some-follow-clause-followed c = λ left right leads. goes_on c.args.plan.now.points c.args.edges.now c.in-Some.followed c.args.ray.now c.args.start
    (subst (λ before. IfSome before (IsRayFollowed c.args.plan.now.points c.args.edges.now)) c.in-Some.is c.requires.before) (c.if-goes_along.ensures refl)
    left right (c.in-Some-follow.ensures.on left right leads)
