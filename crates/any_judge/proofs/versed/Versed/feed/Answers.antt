use Rattle.std.proofs.Common.{◌++◌, sym, subst}
use Rattle.std.proofs.lemmas.Result.{IfOk-weaker}
use Rattle.any_judge.specs.Versed.{HasTaken}
use Rattle.any_judge.proofs.Courses.{may_take_exact, may_take_listing, other_on, refused_on}
use Rattle.any_judge.proofs.Versions.{begins_on}
use Rattle.any_judge.proofs.versed.Versed.feed.Goals as goal

pub returns-in-Refused : goal.returns-in-Refused
returns-in-Refused c = λ p t bytes enough w. subst (HasTaken p t (bytes ++ c.args.piece.now)) (sym c.in-Refused.is) (refused_on bytes c.args.piece.now enough p _ (subst (HasTaken p t bytes) c.in-Refused.is w))

pub feed-requires : goal.feed-requires
feed-requires c = let m = c.requires in may_take_listing m.plan m.table m.bytes c.args.piece.now m.few c.in-Listing.intake (subst (HasTaken m.plan m.table m.bytes) c.in-Listing.is m.taken).1

pub returns-in-Listing : goal.returns-in-Listing
returns-in-Listing c = λ p t bytes enough w. let h = subst (HasTaken p t bytes) c.in-Listing.is w in IfOk-weaker c.feed.result _ _ (λ x on. (other_on bytes c.args.piece.now enough h.0, on)) (c.feed.ensures p t bytes h.1)

pub feed-requires-in-Exact : goal.feed-requires-in-Exact
feed-requires-in-Exact c = let m = c.requires in may_take_exact m.plan m.table m.bytes c.args.piece.now m.few c.in-Exact.intake (subst (HasTaken m.plan m.table m.bytes) c.in-Exact.is m.taken).1

pub returns-in-Exact : goal.returns-in-Exact
returns-in-Exact c = λ p t bytes enough w. let h = subst (HasTaken p t bytes) c.in-Exact.is w in IfOk-weaker c.feed-in-Exact.result _ _ (λ x on. (begins_on bytes c.args.piece.now enough h.0, on)) (c.feed-in-Exact.ensures p t bytes h.1)
