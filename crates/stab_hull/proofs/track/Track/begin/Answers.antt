use Rattle.std.proofs.Common.{◌++◌, ◌∷◌, [], refl, ap, ◌∙◌}
use Rattle.sight_names.specs.declared.limits.TheConstants.{RIGHT_END}
use Rattle.sight_names.specs.declared.names.EndAt.{EndAt}
use Rattle.stab_hull.specs.Sleeves.{frames_of}
use Rattle.stab_hull.proofs.Sleeves.{first_sleeve, noted}
use Rattle.stab_hull.proofs.track.Track.begin.Goals as goal

pub returns-clause-track : goal.returns-clause-track
returns-clause-track g c =
    let left : EndAt = record { code = 0; at = c.args.left } in
    let right : EndAt = record { code = RIGHT_END; at = c.args.right } in
    let x = noted c.frame_over-frame.result c.args.note in
    let one = c.push_reserved.ensures.items ∙ ap (λ ys. ys ++ x ∷ []) (c.reserve.ensures.items ∙ c.requires.first) in
    first_sleeve (frames_of c.push_reserved.new.self.items) left right c.frame_over-frame.result c.begin.new.self.lefts c.begin.new.self.rights c.begin.new.self.cones.items refl refl c.in_ok-begin.ensures.lefts c.in_ok-begin.ensures.rights c.in_ok-begin.ensures.cone c.frame_over-frame.ensures (ap frames_of one)
