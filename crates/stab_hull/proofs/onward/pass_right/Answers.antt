use Rattle.std.proofs.Common.{arith, ◌+◌, ◌<◌, ◌++◌, ◌∷◌, [], length, sym, ap, ◌∙◌, subst}
use Rattle.sight_names.specs.declared.limits.TheConstants.{RIGHT_END}
use Rattle.stab_hull.specs.Portals.{portals_of}
use Rattle.stab_hull.specs.Sleeves.{HasLastLeft, frames_of}
use Rattle.stab_hull.proofs.Sleeves.{goes_covered_right, noted, goes_noted, as_many_frames, frames_pushed}
use Rattle.stab_hull.proofs.onward.pass_right.Goals as goal

pub frame_to_right-frame-requires : goal.frame_to_right-frame-requires
frame_to_right-frame-requires g c = record { last = subst (λ xs. HasLastLeft (portals_of (frames_of xs)) c.args.left) (sym (c.as_slice.ensures.value ∙ c.reserve.ensures.items)) c.requires.last }

pub returns : goal.returns
returns g c =
    let xs = c.args.portals.now.items in
    let fs = frames_of xs in
    let ls = c.args.hull.now.lefts in
    let rs = c.args.hull.now.rights in
    let cs = c.args.hull.now.cones.items in
    let x = noted c.frame_to_right-frame.result c.args.note in
    let many = as_many_frames xs in
    let longer = c.push_reserved.ensures.items ∙ ap (λ ys. ys ++ x ∷ []) c.reserve.ensures.items in
    let few : length fs < RIGHT_END = (let l = c.requires.few in omega (arith, many, l)) in
    goes_noted xs c.push_reserved.new.self.items x (record { left = c.args.left; right = c.args.new.at }) ls rs cs longer
    (goes_covered_right fs ls rs cs c.requires.sleeve few (frames_of c.push_reserved.new.self.items) c.args.left c.args.new c.frame_to_right-frame.result c.requires.last (c.requires.code ∙ ap (λ n. n + RIGHT_END) (sym many)) c.requires.covered c.frame_to_right-frame.ensures (ap frames_of longer ∙ frames_pushed xs x))
