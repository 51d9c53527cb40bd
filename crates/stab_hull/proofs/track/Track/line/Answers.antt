use Rattle.std.proofs.Common.{arith, ◌≡◌, ◌<◌, length}
use Rattle.std.proofs.lemmas.Grind.{common_steps}
use Rattle.stab_hull.specs.Portals.{portals_of}
use Rattle.stab_hull.specs.Sleeves.{frames_of}
use Rattle.stab_hull.proofs.Sleeves.{as_many_frames, some_cone, read_cone}
use Rattle.stab_hull.proofs.track.Track.line.Goals as goal

pub overflow_sub-len : goal.overflow_sub-len
overflow_sub-len g c =
    let t = c.args.self.now in
    let k : c.len.result ≡ length t.hull.cones.items = (let e = c.len.ensures in grind (arith, common_steps)) in
    let some : 0 < length (frames_of t.portals.items) = (let m = as_many_frames t.portals.items in let r = c.requires.there in omega (arith, m, r)) in
    let b = some_cone (frames_of t.portals.items) t.hull.lefts t.hull.rights t.hull.cones.items c.requires.track some in
    omega (arith, b, k)

pub index-requires : goal.index-requires
index-requires g c =
    let t = c.args.self.now in
    let k : c.len.result ≡ length t.hull.cones.items = (let e = c.len.ensures in grind (arith, common_steps)) in
    let some : 0 < length (frames_of t.portals.items) = (let m = as_many_frames t.portals.items in let r = c.requires.there in omega (arith, m, r)) in
    let b = some_cone (frames_of t.portals.items) t.hull.lefts t.hull.rights t.hull.cones.items c.requires.track some in
    omega (arith, b, k)

pub line_of-requires : goal.line_of-requires
line_of-requires g c =
    let t = c.args.self.now in
    let k : c.len.result ≡ length t.hull.cones.items = (let e = c.len.ensures in grind (arith, common_steps)) in
    let some : 0 < length (frames_of t.portals.items) = (let m = as_many_frames t.portals.items in let r = c.requires.there in omega (arith, m, r)) in
    (portals_of (frames_of t.portals.items), read_cone (frames_of t.portals.items) t.hull.lefts t.hull.rights t.hull.cones.items c.len.result c.index.result.now c.requires.track some k c.index.ensures)

pub returns-clause-splits : goal.returns-clause-splits
returns-clause-splits g c =
    let t = c.args.self.now in
    let k : c.len.result ≡ length t.hull.cones.items = (let e = c.len.ensures in grind (arith, common_steps)) in
    let some : 0 < length (frames_of t.portals.items) = (let m = as_many_frames t.portals.items in let r = c.requires.there in omega (arith, m, r)) in
    c.line_of.ensures.splits (portals_of (frames_of t.portals.items)) (read_cone (frames_of t.portals.items) t.hull.lefts t.hull.rights t.hull.cones.items c.len.result c.index.result.now c.requires.track some k c.index.ensures)
