use Rattle.std.proofs.Common.{arith, ◌≡◌, length, sym, ◌∙◌, subst}
use Rattle.std.proofs.lemmas.Grind.{common_steps}
use Rattle.geom_exact.specs.declared.extreme_lines.cone.Cone.{Cone}
use Rattle.geom_exact.specs.ExtremeLines.Spans.{end_pair_of}
use Rattle.stab_hull.specs.Portals.{portals_of, IsConeOf}
use Rattle.stab_hull.specs.Sleeves.{frames_of}
use Rattle.stab_hull.proofs.Barring.{lines, left_before}
use Rattle.stab_hull.proofs.HistoryLemmas.{as_many}
use Rattle.stab_hull.proofs.Sleeves.{as_many_frames, whole, some_cone, read_cone, left_tells}
use Rattle.stab_hull.proofs.onward.left_told.Goals as goal

pub overflow_sub-len : goal.overflow_sub-len
overflow_sub-len g c =
    let k : c.len.result ≡ length c.args.hull.now.cones.items = (let e = c.len.ensures in grind (arith, common_steps)) in
    let b = some_cone (frames_of c.args.portals.now) c.args.hull.now.lefts c.args.hull.now.rights c.args.hull.now.cones.items c.requires.sleeve (let l = c.requires.there in let many = as_many_frames c.args.portals.now in omega (arith, l, many)) in
    omega (arith, b, k)

pub index-requires : goal.index-requires
index-requires g c =
    let k : c.len.result ≡ length c.args.hull.now.cones.items = (let e = c.len.ensures in grind (arith, common_steps)) in
    let b = some_cone (frames_of c.args.portals.now) c.args.hull.now.lefts c.args.hull.now.rights c.args.hull.now.cones.items c.requires.sleeve (let l = c.requires.there in let many = as_many_frames c.args.portals.now in omega (arith, l, many)) in
    omega (arith, b, k)

pub left_turn-requires-clause-lines : goal.left_turn-requires-clause-lines
left_turn-requires-clause-lines g c =
    let k : c.len.result ≡ length c.args.hull.now.cones.items = (let e = c.len.ensures in grind (arith, common_steps)) in
    lines (portals_of (frames_of c.args.portals.now)) c.in-Open.wedge (subst (λ (d : Cone). IsConeOf (portals_of (frames_of c.args.portals.now)) d) c.in-Open.is (read_cone (frames_of c.args.portals.now) c.args.hull.now.lefts c.args.hull.now.rights c.args.hull.now.cones.items c.len.result c.index.result.now c.requires.sleeve (let l = c.requires.there in let many = as_many_frames c.args.portals.now in omega (arith, l, many)) k c.index.ensures))

pub left_turn-requires-clause-later : goal.left_turn-requires-clause-later
left_turn-requires-clause-later g c =
    let k : c.len.result ≡ length c.args.hull.now.cones.items = (let e = c.len.ensures in grind (arith, common_steps)) in
    let cone = subst (λ (d : Cone). IsConeOf (portals_of (frames_of c.args.portals.now)) d) c.in-Open.is (read_cone (frames_of c.args.portals.now) c.args.hull.now.lefts c.args.hull.now.rights c.args.hull.now.cones.items c.len.result c.index.result.now c.requires.sleeve (let l = c.requires.there in let many = as_many_frames c.args.portals.now in omega (arith, l, many)) k c.index.ensures) in
    let b = left_before (portals_of (frames_of c.args.portals.now)) c.in-Open.wedge cone (end_pair_of c.in-Open.wedge.first) cone.pairs.first in
    let m = as_many (frames_of c.args.portals.now) in
    let e = c.requires.code in
    let many = as_many_frames c.args.portals.now in
    omega (arith, b, m, e, many)

pub left_turn-requires-clause-later_too : goal.left_turn-requires-clause-later_too
left_turn-requires-clause-later_too g c =
    let k : c.len.result ≡ length c.args.hull.now.cones.items = (let e = c.len.ensures in grind (arith, common_steps)) in
    let cone = subst (λ (d : Cone). IsConeOf (portals_of (frames_of c.args.portals.now)) d) c.in-Open.is (read_cone (frames_of c.args.portals.now) c.args.hull.now.lefts c.args.hull.now.rights c.args.hull.now.cones.items c.len.result c.index.result.now c.requires.sleeve (let l = c.requires.there in let many = as_many_frames c.args.portals.now in omega (arith, l, many)) k c.index.ensures) in
    let b = left_before (portals_of (frames_of c.args.portals.now)) c.in-Open.wedge cone (end_pair_of c.in-Open.wedge.second) cone.pairs.second in
    let m = as_many (frames_of c.args.portals.now) in
    let e = c.requires.code in
    let many = as_many_frames c.args.portals.now in
    omega (arith, b, m, e, many)

pub returns-in-Open : goal.returns-in-Open
returns-in-Open g c =
    let k : c.len.result ≡ length c.args.hull.now.cones.items = (let e = c.len.ensures in grind (arith, common_steps)) in
    rw c.of_turn.ensures (left_tells (portals_of (frames_of c.args.portals.now)) c.args.hull.now.lefts c.args.hull.now.rights c.args.hull.now.cones.items c.in-Open.wedge c.index.result.now c.len.result (whole (frames_of c.args.portals.now) c.args.hull.now.lefts c.args.hull.now.rights c.args.hull.now.cones.items c.requires.sleeve (let l = c.requires.there in let many = as_many_frames c.args.portals.now in omega (arith, l, many))) k c.index.ensures c.in-Open.is c.args.right c.args.new (let m = as_many (frames_of c.args.portals.now) in let f = c.requires.few in let many = as_many_frames c.args.portals.now in omega (arith, m, f, many)) (c.requires.code ∙ sym (as_many (frames_of c.args.portals.now) ∙ as_many_frames c.args.portals.now)) c.left_turn.result c.left_turn.ensures)
