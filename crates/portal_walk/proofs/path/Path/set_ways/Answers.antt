use Rattle.std.proofs.Common.{◌≡◌, List, length, slice_set, refl, sym, ap, ◌∙◌, subst, arith}
use Rattle.stab_hull.specs.declared.frame.Frame.{Frame as Stacked}
use Rattle.stab_hull.specs.Sleeves.{IsSleeve}
use Rattle.portal_walk.specs.Frames.{PathParts, HasWays}
use Rattle.portal_walk.proofs.Tracks.{as_many_notes, parts_of, path_set, renoted, track_set}
use Rattle.portal_walk.proofs.path.Path.set_ways.Goals as goal

pub invariant_of-self : goal.invariant_of-self
invariant_of-self c =
    let t = c.self.inside.track in
    let x = c.index_mut.result.now in
    subst (λ (fs : List Stacked). IsSleeve fs t.hull.lefts t.hull.rights t.hull.cones.items) (sym (track_set t.portals.items (slice_set t.portals.items c.args.at (renoted x c.args.ways)) c.args.at x c.args.ways c.index_mut.ensures.value refl)) c.self.invariant

pub returns : goal.returns
returns c =
    let xs = c.self.inside.track.portals.items in
    let x = c.index_mut.result.now in
    let ys = slice_set xs c.args.at (renoted x c.args.ways) in
    let r = c.requires in
    let many : length xs ≡ length c.args.self.now.frames = sym (as_many_notes xs) ∙ ap (λ (p : PathParts). length p.frames) c.self.view_is in
    subst (λ (p : PathParts). HasWays p c.args.at c.args.ways (parts_of ys)) c.self.view_is (path_set xs ys c.args.at x c.args.ways (omega (arith, r, many)) c.index_mut.ensures.value refl)
