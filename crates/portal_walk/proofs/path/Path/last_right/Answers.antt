use Rattle.std.proofs.Common.{◌≡◌, length, sym, ap, ◌∙◌, subst, arith}
use Rattle.std.proofs.lemmas.Grind.{common_steps}
use Rattle.stab_hull.specs.Sleeves.{HasLastRight}
use Rattle.portal_walk.specs.Frames.{PathParts}
use Rattle.portal_walk.proofs.Tracks.{as_many_notes, last_right}
use Rattle.portal_walk.proofs.path.Path.last_right.Goals as goal

pub overflow_sub-len : goal.overflow_sub-len
overflow_sub-len c =
    let xs = c.self.inside.track.portals.items in
    let k : c.len.result ≡ length xs = (let e = c.len.ensures in grind (arith, common_steps)) in
    let r = c.requires in
    let many : length xs ≡ length c.args.self.now.frames = sym (as_many_notes xs) ∙ ap (λ (p : PathParts). length p.frames) c.self.view_is in
    omega (arith, k, r, many)

pub index-requires : goal.index-requires
index-requires c =
    let xs = c.self.inside.track.portals.items in
    let k : c.len.result ≡ length xs = (let e = c.len.ensures in grind (arith, common_steps)) in
    let r = c.requires in
    let many : length xs ≡ length c.args.self.now.frames = sym (as_many_notes xs) ∙ ap (λ (p : PathParts). length p.frames) c.self.view_is in
    omega (arith, k, r, many)

pub returns : goal.returns
returns c =
    let xs = c.self.inside.track.portals.items in
    let x = c.index.result.now in
    let k : c.len.result ≡ length xs = (let e = c.len.ensures in grind (arith, common_steps)) in
    let r = c.requires in
    let many : length xs ≡ length c.args.self.now.frames = sym (as_many_notes xs) ∙ ap (λ (p : PathParts). length p.frames) c.self.view_is in
    subst (λ (p : PathParts). HasLastRight p.ends x.frame.right) c.self.view_is (last_right xs x c.len.result k (omega (arith, r, many)) c.index.ensures)
