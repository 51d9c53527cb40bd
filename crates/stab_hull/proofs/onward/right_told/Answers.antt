use Rattle.std.proofs.Common.{arith, ◌≡◌, ◌+◌, length, sym, ap, ◌∙◌, subst}
use Rattle.std.proofs.lemmas.Grind.{common_steps}
use Rattle.sight_names.specs.declared.limits.TheConstants.{RIGHT_END}
use Rattle.geom_exact.specs.declared.extreme_lines.cone.Cone.{Cone}
use Rattle.geom_exact.specs.ExtremeLines.Spans.{end_pair_of}
use Rattle.stab_hull.specs.Portals.{portals_of, IsConeOf}
use Rattle.stab_hull.specs.Sleeves.{frames_of}
use Rattle.stab_hull.proofs.Barring.{lines, right_before}
use Rattle.stab_hull.proofs.HistoryLemmas.{as_many}
use Rattle.stab_hull.proofs.Sleeves.{as_many_frames, whole, some_cone, read_cone, right_tells}
use Rattle.stab_hull.proofs.onward.right_told.Goals as goal

pub overflow_sub-len : goal.overflow_sub-len
overflow_sub-len g c =
    let k : c.len.result ≡ length c.args.hull.now.cones.items = (let e = c.len.ensures in grind (arith, common_steps)) in
    let b = some_cone (frames_of c.args.portals.now) c.args.hull.now.lefts c.args.hull.now.rights c.args.hull.now.cones.items c.requires.sleeve (let l = c.requires.there in let many = as_many_frames c.args.portals.now in omega (arith, l, many)) in
    omega (arith, b, k)

pub index-requires : goal.index-requires
index-requires g c =
    let k : c.len.result ≡ length c.args.hull.now.cones.items = (let e = c.len.ensures in grind (arith, common_steps)) in
    let b = some_cone (frames_of c.args.portals.now) c.args.hull.now.lefts c.args.hull.now.rights c.args.hull.now.cones.items c.requires.sleeve (let l = c.requires.there in let many = as_many_frames c.args.portals.now in omega (arith, l, many)) in
    omega (arith, b, k)

pub right_turn-requires-clause-lines : goal.right_turn-requires-clause-lines
right_turn-requires-clause-lines g c =
    let k : c.len.result ≡ length c.args.hull.now.cones.items = (let e = c.len.ensures in grind (arith, common_steps)) in
    lines (portals_of (frames_of c.args.portals.now)) c.in-Open.wedge (subst (λ (d : Cone). IsConeOf (portals_of (frames_of c.args.portals.now)) d) c.in-Open.is (read_cone (frames_of c.args.portals.now) c.args.hull.now.lefts c.args.hull.now.rights c.args.hull.now.cones.items c.len.result c.index.result.now c.requires.sleeve (let l = c.requires.there in let many = as_many_frames c.args.portals.now in omega (arith, l, many)) k c.index.ensures))

pub right_turn-requires-clause-later : goal.right_turn-requires-clause-later
right_turn-requires-clause-later g c =
    let k : c.len.result ≡ length c.args.hull.now.cones.items = (let e = c.len.ensures in grind (arith, common_steps)) in
    let cone = subst (λ (d : Cone). IsConeOf (portals_of (frames_of c.args.portals.now)) d) c.in-Open.is (read_cone (frames_of c.args.portals.now) c.args.hull.now.lefts c.args.hull.now.rights c.args.hull.now.cones.items c.len.result c.index.result.now c.requires.sleeve (let l = c.requires.there in let many = as_many_frames c.args.portals.now in omega (arith, l, many)) k c.index.ensures) in
    let b = right_before (portals_of (frames_of c.args.portals.now)) c.in-Open.wedge cone (end_pair_of c.in-Open.wedge.first) cone.pairs.first in
    let m = as_many (frames_of c.args.portals.now) in
    let e = c.requires.code in
    let many = as_many_frames c.args.portals.now in
    omega (arith, b, m, e, many)

pub right_turn-requires-clause-later_too : goal.right_turn-requires-clause-later_too
right_turn-requires-clause-later_too g c =
    let k : c.len.result ≡ length c.args.hull.now.cones.items = (let e = c.len.ensures in grind (arith, common_steps)) in
    let cone = subst (λ (d : Cone). IsConeOf (portals_of (frames_of c.args.portals.now)) d) c.in-Open.is (read_cone (frames_of c.args.portals.now) c.args.hull.now.lefts c.args.hull.now.rights c.args.hull.now.cones.items c.len.result c.index.result.now c.requires.sleeve (let l = c.requires.there in let many = as_many_frames c.args.portals.now in omega (arith, l, many)) k c.index.ensures) in
    let b = right_before (portals_of (frames_of c.args.portals.now)) c.in-Open.wedge cone (end_pair_of c.in-Open.wedge.second) cone.pairs.second in
    let m = as_many (frames_of c.args.portals.now) in
    let e = c.requires.code in
    let many = as_many_frames c.args.portals.now in
    omega (arith, b, m, e, many)

pub returns-in-Open : goal.returns-in-Open
returns-in-Open g c =
    let k : c.len.result ≡ length c.args.hull.now.cones.items = (let e = c.len.ensures in grind (arith, common_steps)) in
    rw c.of_turn.ensures (right_tells (portals_of (frames_of c.args.portals.now)) c.args.hull.now.lefts c.args.hull.now.rights c.args.hull.now.cones.items c.in-Open.wedge c.index.result.now c.len.result (whole (frames_of c.args.portals.now) c.args.hull.now.lefts c.args.hull.now.rights c.args.hull.now.cones.items c.requires.sleeve (let l = c.requires.there in let many = as_many_frames c.args.portals.now in omega (arith, l, many))) k c.index.ensures c.in-Open.is c.args.left c.args.new (c.requires.code ∙ ap (λ n. n + RIGHT_END) (sym (as_many (frames_of c.args.portals.now) ∙ as_many_frames c.args.portals.now))) c.right_turn.result c.right_turn.ensures)
