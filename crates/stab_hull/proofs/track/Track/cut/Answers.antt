use Rattle.std.proofs.Common.{◌≡◌, ◌-◌, Some, None, length, slice_get, sym, ap, ◌∙◌, subst}
use Rattle.std.proofs.lemmas.List.{take-map}
use Rattle.stab_hull.specs.Sleeves.{noted_frame, frames_of}
use Rattle.stab_hull.proofs.Sleeves.{cut_to, frame_there, no_last_frame, no_sleeve}
use Rattle.stab_hull.proofs.track.Track.cut.Goals as goal

pub returns-in-Some-clause-track : goal.returns-in-Some-clause-track
returns-in-Some-clause-track g c =
    let t = c.args.self.now in
    let xs = t.portals.items in
    let ys = c.truncate.new.self.items in
    let shorter = ap frames_of c.truncate.ensures.items ∙ sym (take-map noted_frame c.args.count xs) in
    let top = frame_there ys c.in-Some.top.now (subst (λ zs. slice_get zs (length zs - 1) ≡ Some c.in-Some.top.now) c.as_slice.ensures.value (sym c.in-Some.ensures.value)) in
    cut_to (frames_of xs) (frames_of ys) c.args.count c.in-Some.top.now.frame t.hull.lefts t.hull.rights c.cut.new.self.lefts c.cut.new.self.rights t.hull.cones.items c.cut.new.self.cones.items c.requires.track shorter top c.cut.ensures.lefts c.cut.ensures.rights c.cut.ensures.cones

pub returns-in-None-clause-track : goal.returns-in-None-clause-track
returns-in-None-clause-track g c =
    let t = c.args.self.now in
    let ys = c.truncate.new.self.items in
    let none = subst (λ zs. slice_get zs (length zs - 1) ≡ None) c.as_slice.ensures.value (sym c.in-None.ensures.value) in
    no_sleeve (frames_of ys) t.hull.lefts t.hull.rights t.hull.cones.items (no_last_frame ys none)
