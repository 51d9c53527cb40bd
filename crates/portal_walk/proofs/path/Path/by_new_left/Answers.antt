use Rattle.std.proofs.Common.{sym, subst}
use Rattle.sight_names.specs.Splitting.{EndPoints}
use Rattle.stab_hull.specs.Sleeves.{HasLastRight}
use Rattle.portal_walk.specs.Frames.{PathParts, TellsPortal}
use Rattle.portal_walk.proofs.Tracks.{parts_of, told_on}
use Rattle.portal_walk.proofs.path.Path.by_new_left.Goals as goal

pub by_new_left-requires-clause-last : goal.by_new_left-requires-clause-last
by_new_left-requires-clause-last c = subst (λ (p : PathParts). HasLastRight p.ends c.args.right) (sym c.self.view_is) c.requires.last

pub returns : goal.returns
returns c =
    let old = c.self.inside.track.portals.items in
    let new = c.by_new_left.new.self.portals.items in
    let portal : EndPoints = record { left = c.args.left; right = c.args.right } in
    record { tells = subst (λ (p : PathParts). TellsPortal p (parts_of new) c.args.frame portal c.by_new_left.result) c.self.view_is (told_on old new c.args.frame portal c.by_new_left.result c.by_new_left.ensures.goes.told c.by_new_left.ensures.goes.noted) }
